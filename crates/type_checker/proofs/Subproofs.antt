-- The first subproof without a formula, along parts that stand one after the other.
use Rattle.std.proofs.Common.{◌≡◌, ◌⊎◌, inl, inr, ⊎_elim, ℕ, suc, ◌+◌, ◌<◌, ◌≤◌, List, refl, sym, subst, arith}
use Rattle.ck_base.specs.declared.decl.Sort.{Sort}
use Rattle.ck_base.specs.declared.decl.Decl.{Decl}
use Rattle.formulas.specs.Tree.{FormulaTree}
use Rattle.proof_terms.specs.Tree.{ProofTree}
use Rattle.type_checker.specs.Typing.{Has}
use Rattle.type_checker.specs.Place.{proof_nodes, Subproof, IsWhole, After, IsTyped}

-- numbered subproofs
abbrev pub Numbered : Type 1
Numbered = ℕ → Subproof → Type 0

-- every number is below the count
abbrev pub Below : ℕ → Numbered → Type 0
Below count Part = (k : ℕ) (s : Subproof) → Part k s → k < count

-- no number is below the count
abbrev pub Past : ℕ → Numbered → Type 0
Past count Part = (k : ℕ) (s : Subproof) → Part k s → count ≤ k

abbrev pub AllTyped : List Decl → Numbered → Type 0
AllTyped names Part = (k : ℕ) (s : Subproof) → Part k s → IsTyped names s

-- the number is that of the first one without a formula
abbrev pub IsFirst : List Decl → Numbered → ℕ → Type 0
IsFirst names Part place =
    ((s : Subproof) × Part place s × (IsTyped names s → ⊥))
    × ((k : ℕ) → k < place → (s : Subproof) → Part k s → IsTyped names s)

abbrev pub Either : Numbered → Numbered → Numbered
Either Front Back k s = Front k s ⊎ Back k s

pub below_either : (count : ℕ) (Front Back : Numbered) → Below count Front → Below count Back → Below count (Either Front Back)
below_either count Front Back f b k s x = ⊎_elim (f k s) (b k s) x

pub below_after : (count more : ℕ) (Part : Numbered) → Below more Part → Below (count + more) (After count Part)
below_after count more Part p k s x = let low : x.0 < more = p x.0 s x.2 in let at : k ≡ count + x.0 = x.1 in omega (arith, low, at)

pub below_more : (count more : ℕ) (Part : Numbered) → count ≤ more → Below count Part → Below more Part
below_more count more Part h p k s x = omega (arith, h, p k s x)

pub below_whole : (variables : List Sort) (hypotheses : List FormulaTree) (p : ProofTree) → Below (proof_nodes p) (IsWhole variables hypotheses p)
below_whole variables hypotheses p k s x = let end : suc k ≡ proof_nodes p = x.0 in omega (arith, end)

pub past_either : (count : ℕ) (Front Back : Numbered) → Past count Front → Past count Back → Past count (Either Front Back)
past_either count Front Back f b k s x = ⊎_elim (f k s) (b k s) x

pub past_after : (count : ℕ) (Part : Numbered) → Past count (After count Part)
past_after count Part k s x = let at : k ≡ count + x.0 = x.1 in omega (arith, at)

pub past_less : (count less : ℕ) (Part : Numbered) → less ≤ count → Past count Part → Past less Part
past_less count less Part h p k s x = let high : count ≤ k = p k s x in omega (arith, h, high)

pub past_whole : (count : ℕ) (variables : List Sort) (hypotheses : List FormulaTree) (p : ProofTree) → count < proof_nodes p → Past count (IsWhole variables hypotheses p)
past_whole count variables hypotheses p h k s x = let end : suc k ≡ proof_nodes p = x.0 in omega (arith, end, h)

pub typed_either : (names : List Decl) (Front Back : Numbered) → AllTyped names Front → AllTyped names Back → AllTyped names (Either Front Back)
typed_either names Front Back f b k s x = ⊎_elim (f k s) (b k s) x

pub typed_after : (names : List Decl) (count : ℕ) (Part : Numbered) → AllTyped names Part → AllTyped names (After count Part)
typed_after names count Part p k s x = p x.0 s x.2

pub typed_whole : (names : List Decl) (variables : List Sort) (hypotheses : List FormulaTree) (p : ProofTree) (a : FormulaTree)
    → Has names variables hypotheses p a → AllTyped names (IsWhole variables hypotheses p)
typed_whole names variables hypotheses p a h k s x = subst (λ t. IsTyped names t) (sym x.1) (a, h)

pub first_front : (names : List Decl) (Front Back : Numbered) (count place : ℕ)
    → Below count Front → Past count Back → IsFirst names Front place → IsFirst names (Either Front Back) place
first_front names Front Back count place below past h =
    let low : place < count = below place h.0.0 h.0.1 in
    ((h.0.0, inl h.0.1, h.0.2), λ k less s x. ⊎_elim (λ (f : Front k s). h.1 k less s f) (λ (b : Back k s). let high : count ≤ k = past k s b in absurd (omega (arith, less, low, high))) x)

pub first_back : (names : List Decl) (Front Back : Numbered) (place : ℕ)
    → AllTyped names Front → IsFirst names Back place → IsFirst names (Either Front Back) place
first_back names Front Back place typed h =
    ((h.0.0, inr h.0.1, h.0.2), λ k less s x. ⊎_elim (λ (f : Front k s). typed k s f) (λ (b : Back k s). h.1 k less s b) x)

pub first_after : (names : List Decl) (count place : ℕ) (Part : Numbered) → IsFirst names Part place → IsFirst names (After count Part) (count + place)
first_after names count place Part h =
    ((h.0.0, (place, refl, h.0.1), h.0.2), λ k less s x. let at : k ≡ count + x.0 = x.1 in let low : x.0 < place = omega (arith, less, at) in h.1 x.0 low s x.2)

pub first_whole : (names : List Decl) (variables : List Sort) (hypotheses : List FormulaTree) (p : ProofTree) (place : ℕ)
    → suc place ≡ proof_nodes p → ((a : FormulaTree) → Has names variables hypotheses p a → ⊥) → IsFirst names (IsWhole variables hypotheses p) place
first_whole names variables hypotheses p place e none = (
  (record { variables = variables; hypotheses = hypotheses; proof = p }, (e, refl), λ t. none t.0 t.1),
  λ k less s x. let end : suc k ≡ proof_nodes p = x.0 in absurd (omega (arith, less, end, e)),
)

-- the same subproofs, told in another way
pub first_same : (names : List Decl) (Part Other : Numbered) (place : ℕ)
    → ((k : ℕ) (s : Subproof) → Part k s → Other k s) → ((k : ℕ) (s : Subproof) → Other k s → Part k s)
    → IsFirst names Part place → IsFirst names Other place
first_same names Part Other place to from h = ((h.0.0, to place h.0.0 h.0.1, h.0.2), λ k less s x. h.1 k less s (from k s x))
