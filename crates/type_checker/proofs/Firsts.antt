-- Where a proof has no formula, the walk ends at the first of its subproofs that has none.
use Rattle.std.proofs.Common.{◌≡◌, ◌⊎◌, inl, inr, ⊎_elim, ℕ, ◌+◌, ◌<◌, ◌≤◌, Bool, true, false, if◌then◌else◌, List, ◌∷◌, Option, Some, None, Ok, Err, refl, ◌∙◌, subst, arith}
use Rattle.std.proofs.lemmas.Bool.{cases_lt}
use Rattle.ck_base.specs.declared.decl.Sort.{Sort}
use Rattle.ck_base.specs.declared.decl.Decl.{Decl}
use Rattle.sorted_terms.specs.Tree.{binary, equal}
use Rattle.formulas.specs.Tree.{FormulaTree, implies, and_also, or_else, for_all, there_is, bottom, holds, joined, quantified, not_so}
use Rattle.formulas.specs.Substitution.{shift, instance}
use Rattle.formulas.specs.Context.{raised}
use Rattle.proof_terms.specs.Tree.{ProofTree, hypothesis, lambda, application, general, special, pair, first, second, left_of, right_of, by_cases, pack, unpack, from_bottom, stable, reflexive, rewriting, an_axiom, induction, computing, ring_equal, hole}
use Rattle.type_checker.specs.Typing.{Has}
use Rattle.type_checker.specs.Place.{proof_nodes, Subproof, IsSubproof, IsWhole, After, IsFirstUntyped, is_assumable}
use Rattle.type_checker.specs.Rules.{fitting, of_leaf, of_one, of_two, of_cases, of_unpacked}
use Rattle.type_checker.specs.Walk.{Walk, found_at, found, continued, with_sides, with_body, walked}
use Rattle.type_checker.proofs.Single.{one_formula, left_side, right_side, sort_over, body_of}
use Rattle.type_checker.proofs.Subproofs.{Numbered, Below, Past, AllTyped, IsFirst, Either, below_either, below_after, below_more, below_whole, past_either, past_after, past_less, past_whole, typed_either, typed_after, typed_whole, first_front, first_back, first_after, first_whole, first_same}
use Rattle.type_checker.proofs.Exact.{has, none_at}

-- The parts that stand under what the parts before tell

-- the cases of a disjunction with these sides, where the part before and the left case have so many nodes
abbrev CasesOf : List Decl → List Sort → List FormulaTree → ProofTree → ProofTree → ProofTree → FormulaTree → FormulaTree → Numbered
CasesOf names variables hypotheses p q r a b =
    Either (After (proof_nodes p) (IsSubproof names variables (a ∷ hypotheses) q)) (After (proof_nodes p + proof_nodes q) (IsSubproof names variables (b ∷ hypotheses) r))

abbrev Cases : List Decl → List Sort → List FormulaTree → ProofTree → ProofTree → ProofTree → Numbered
Cases names variables hypotheses p q r k s =
    (a : FormulaTree) × (b : FormulaTree) × Has names variables hypotheses p (joined or_else a b)
    × (After (proof_nodes p) (IsSubproof names variables (a ∷ hypotheses) q) k s
    ⊎ After (proof_nodes p + proof_nodes q) (IsSubproof names variables (b ∷ hypotheses) r) k s)

-- the part under a new variable and what holds of it
abbrev UnpackedOf : List Decl → List Sort → List FormulaTree → ProofTree → ProofTree → Sort → FormulaTree → Numbered
UnpackedOf names variables hypotheses p q r a = After (proof_nodes p) (IsSubproof names (r ∷ variables) (a ∷ raised hypotheses) q)

abbrev Unpacked : List Decl → List Sort → List FormulaTree → ProofTree → ProofTree → Numbered
Unpacked names variables hypotheses p q k s =
    (r : Sort) × (a : FormulaTree) × Has names variables hypotheses p (quantified there_is r a)
    × After (proof_nodes p) (IsSubproof names (r ∷ variables) (a ∷ raised hypotheses) q) k s

-- the part under an assumed formula
abbrev Assumed : List Decl → List Sort → List FormulaTree → FormulaTree → ProofTree → Numbered
Assumed names variables hypotheses a p k s = (is_assumable names variables a ≡ true) × IsSubproof names variables (a ∷ hypotheses) p k s

-- The numbers of subproofs

below_one : (variables : List Sort) (hypotheses : List FormulaTree) (whole : ProofTree) (count : ℕ) (Part : Numbered)
    → count < proof_nodes whole → Below count Part → Below (proof_nodes whole) (Either Part (IsWhole variables hypotheses whole))
below_one variables hypotheses whole count Part h part =
    below_either (proof_nodes whole) Part (IsWhole variables hypotheses whole) (below_more count (proof_nodes whole) Part (omega (arith, h)) part) (below_whole variables hypotheses whole)

below_two : (variables : List Sort) (hypotheses : List FormulaTree) (whole : ProofTree) (count more : ℕ) (Front Middle : Numbered)
    → count < proof_nodes whole → more < proof_nodes whole → Below count Front → Below more Middle → Below (proof_nodes whole) (Either Front (Either Middle (IsWhole variables hypotheses whole)))
below_two variables hypotheses whole count more Front Middle h g front middle =
    below_either (proof_nodes whole) Front (Either Middle (IsWhole variables hypotheses whole)) (below_more count (proof_nodes whole) Front (omega (arith, h)) front)
    (below_one variables hypotheses whole more Middle g middle)

below : (names : List Decl) (variables : List Sort) (hypotheses : List FormulaTree) (p : ProofTree) → Below (proof_nodes p) (IsSubproof names variables hypotheses p)
below names variables hypotheses (lambda a p) =
    below_one variables hypotheses (lambda a p) (proof_nodes p) (Assumed names variables hypotheses a p) (omega arith) (λ k s x. below names variables (a ∷ hypotheses) p k s x.1)
below names variables hypotheses (general r p) =
    below_one variables hypotheses (general r p) (proof_nodes p) (IsSubproof names (r ∷ variables) (raised hypotheses) p) (omega arith) (below names (r ∷ variables) (raised hypotheses) p)
below names variables hypotheses (by_cases p q r) =
    below_two variables hypotheses (by_cases p q r) (proof_nodes p) (proof_nodes p + proof_nodes q + proof_nodes r) (IsSubproof names variables hypotheses p) (Cases names variables hypotheses p q r) (omega arith) (omega arith)
    (below names variables hypotheses p)
    (λ k s x. below_either (proof_nodes p + proof_nodes q + proof_nodes r) (After (proof_nodes p) (IsSubproof names variables (x.0 ∷ hypotheses) q)) (After (proof_nodes p + proof_nodes q) (IsSubproof names variables (x.1 ∷ hypotheses) r))
    (below_more (proof_nodes p + proof_nodes q) (proof_nodes p + proof_nodes q + proof_nodes r) (After (proof_nodes p) (IsSubproof names variables (x.0 ∷ hypotheses) q)) (omega arith)
    (below_after (proof_nodes p) (proof_nodes q) (IsSubproof names variables (x.0 ∷ hypotheses) q) (below names variables (x.0 ∷ hypotheses) q)))
    (below_after (proof_nodes p + proof_nodes q) (proof_nodes r) (IsSubproof names variables (x.1 ∷ hypotheses) r) (below names variables (x.1 ∷ hypotheses) r))
    k s x.3)
below names variables hypotheses (unpack p q) =
    below_two variables hypotheses (unpack p q) (proof_nodes p) (proof_nodes p + proof_nodes q) (IsSubproof names variables hypotheses p) (Unpacked names variables hypotheses p q) (omega arith) (omega arith)
    (below names variables hypotheses p)
    (λ k s x. below_after (proof_nodes p) (proof_nodes q) (IsSubproof names (x.0 ∷ variables) (x.1 ∷ raised hypotheses) q) (below names (x.0 ∷ variables) (x.1 ∷ raised hypotheses) q) k s x.3)
below names variables hypotheses (application p q) =
    below_two variables hypotheses (application p q) (proof_nodes p) (proof_nodes p + proof_nodes q) (IsSubproof names variables hypotheses p) (After (proof_nodes p) (IsSubproof names variables hypotheses q)) (omega arith) (omega arith)
    (below names variables hypotheses p) (below_after (proof_nodes p) (proof_nodes q) (IsSubproof names variables hypotheses q) (below names variables hypotheses q))
below names variables hypotheses (pair p q) =
    below_two variables hypotheses (pair p q) (proof_nodes p) (proof_nodes p + proof_nodes q) (IsSubproof names variables hypotheses p) (After (proof_nodes p) (IsSubproof names variables hypotheses q)) (omega arith) (omega arith)
    (below names variables hypotheses p) (below_after (proof_nodes p) (proof_nodes q) (IsSubproof names variables hypotheses q) (below names variables hypotheses q))
below names variables hypotheses (rewriting b p q) =
    below_two variables hypotheses (rewriting b p q) (proof_nodes p) (proof_nodes p + proof_nodes q) (IsSubproof names variables hypotheses p) (After (proof_nodes p) (IsSubproof names variables hypotheses q)) (omega arith) (omega arith)
    (below names variables hypotheses p) (below_after (proof_nodes p) (proof_nodes q) (IsSubproof names variables hypotheses q) (below names variables hypotheses q))
below names variables hypotheses (special p t) = below_one variables hypotheses (special p t) (proof_nodes p) (IsSubproof names variables hypotheses p) (omega arith) (below names variables hypotheses p)
below names variables hypotheses (first p) = below_one variables hypotheses (first p) (proof_nodes p) (IsSubproof names variables hypotheses p) (omega arith) (below names variables hypotheses p)
below names variables hypotheses (second p) = below_one variables hypotheses (second p) (proof_nodes p) (IsSubproof names variables hypotheses p) (omega arith) (below names variables hypotheses p)
below names variables hypotheses (left_of b p) = below_one variables hypotheses (left_of b p) (proof_nodes p) (IsSubproof names variables hypotheses p) (omega arith) (below names variables hypotheses p)
below names variables hypotheses (right_of b p) = below_one variables hypotheses (right_of b p) (proof_nodes p) (IsSubproof names variables hypotheses p) (omega arith) (below names variables hypotheses p)
below names variables hypotheses (pack r b t p) = below_one variables hypotheses (pack r b t p) (proof_nodes p) (IsSubproof names variables hypotheses p) (omega arith) (below names variables hypotheses p)
below names variables hypotheses (from_bottom b p) = below_one variables hypotheses (from_bottom b p) (proof_nodes p) (IsSubproof names variables hypotheses p) (omega arith) (below names variables hypotheses p)
below names variables hypotheses (stable p) = below_one variables hypotheses (stable p) (proof_nodes p) (IsSubproof names variables hypotheses p) (omega arith) (below names variables hypotheses p)
below names variables hypotheses p = below_whole variables hypotheses p

-- Every subproof of a proof that has a formula has one.

typed_one : (names : List Decl) (variables : List Sort) (hypotheses : List FormulaTree) (whole : ProofTree) (Part : Numbered) (a : FormulaTree)
    → AllTyped names Part → Has names variables hypotheses whole a → AllTyped names (Either Part (IsWhole variables hypotheses whole))
typed_one names variables hypotheses whole Part a part h =
    typed_either names Part (IsWhole variables hypotheses whole) part (typed_whole names variables hypotheses whole a h)

typed_two : (names : List Decl) (variables : List Sort) (hypotheses : List FormulaTree) (whole : ProofTree) (Front Middle : Numbered) (a : FormulaTree)
    → AllTyped names Front → AllTyped names Middle → Has names variables hypotheses whole a → AllTyped names (Either Front (Either Middle (IsWhole variables hypotheses whole)))
typed_two names variables hypotheses whole Front Middle a front middle h =
    typed_either names Front (Either Middle (IsWhole variables hypotheses whole)) front (typed_one names variables hypotheses whole Middle a middle h)

-- the cases stand under the sides of the one disjunction
cases_of : (names : List Decl) (variables : List Sort) (hypotheses : List FormulaTree) (p q r : ProofTree) (a b : FormulaTree)
    → Has names variables hypotheses p (joined or_else a b) → (k : ℕ) (s : Subproof) → Cases names variables hypotheses p q r k s → CasesOf names variables hypotheses p q r a b k s
cases_of names variables hypotheses p q r a b h k s x =
    let same = one_formula names variables hypotheses p (joined or_else x.0 x.1) (joined or_else a b) x.2 h in
    let part = subst (λ y. CasesOf names variables hypotheses p q r y x.1 k s) (left_side or_else x.0 x.1 a b same) x.3 in
    subst (λ y. CasesOf names variables hypotheses p q r a y k s) (right_side or_else x.0 x.1 a b same) part

unpacked_of : (names : List Decl) (variables : List Sort) (hypotheses : List FormulaTree) (p q : ProofTree) (r : Sort) (a : FormulaTree)
    → Has names variables hypotheses p (quantified there_is r a) → (k : ℕ) (s : Subproof) → Unpacked names variables hypotheses p q k s → UnpackedOf names variables hypotheses p q r a k s
unpacked_of names variables hypotheses p q r a h k s x =
    let same = one_formula names variables hypotheses p (quantified there_is x.0 x.1) (quantified there_is r a) x.2 h in
    let part = subst (λ y. UnpackedOf names variables hypotheses p q y x.1 k s) (sort_over there_is x.0 r x.1 a same) x.3 in
    subst (λ y. UnpackedOf names variables hypotheses p q r y k s) (body_of there_is x.0 r x.1 a same) part

pub typed : (names : List Decl) (variables : List Sort) (hypotheses : List FormulaTree) (p : ProofTree) (a : FormulaTree)
    → Has names variables hypotheses p a → AllTyped names (IsSubproof names variables hypotheses p)
typed names variables hypotheses (lambda b p) a h =
    typed_one names variables hypotheses (lambda b p) (Assumed names variables hypotheses b p) a (λ k s x. typed names variables (b ∷ hypotheses) p h.2 h.3 k s x.1) h
typed names variables hypotheses (general r p) a h =
    typed_one names variables hypotheses (general r p) (IsSubproof names (r ∷ variables) (raised hypotheses) p) a (typed names (r ∷ variables) (raised hypotheses) p h.1 h.2) h
typed names variables hypotheses (by_cases p q r) a h =
    typed_two names variables hypotheses (by_cases p q r) (IsSubproof names variables hypotheses p) (Cases names variables hypotheses p q r) a
    (typed names variables hypotheses p (joined or_else h.1 h.2) h.3)
    (λ k s x. typed_either names (After (proof_nodes p) (IsSubproof names variables (h.1 ∷ hypotheses) q)) (After (proof_nodes p + proof_nodes q) (IsSubproof names variables (h.2 ∷ hypotheses) r))
    (typed_after names (proof_nodes p) (IsSubproof names variables (h.1 ∷ hypotheses) q) (typed names variables (h.1 ∷ hypotheses) q a h.4))
    (typed_after names (proof_nodes p + proof_nodes q) (IsSubproof names variables (h.2 ∷ hypotheses) r) (typed names variables (h.2 ∷ hypotheses) r a h.5))
    k s (cases_of names variables hypotheses p q r h.1 h.2 h.3 k s x))
    h
typed names variables hypotheses (unpack p q) a h =
    typed_two names variables hypotheses (unpack p q) (IsSubproof names variables hypotheses p) (Unpacked names variables hypotheses p q) a
    (typed names variables hypotheses p (quantified there_is h.1 h.2) h.3)
    (λ k s x. typed_after names (proof_nodes p) (IsSubproof names (h.1 ∷ variables) (h.2 ∷ raised hypotheses) q) (typed names (h.1 ∷ variables) (h.2 ∷ raised hypotheses) q (shift a 1 0) h.4)
    k s (unpacked_of names variables hypotheses p q h.1 h.2 h.3 k s x))
    h
typed names variables hypotheses (application p q) a h =
    typed_two names variables hypotheses (application p q) (IsSubproof names variables hypotheses p) (After (proof_nodes p) (IsSubproof names variables hypotheses q)) a (typed names variables hypotheses p (joined implies h.1 a) h.2) (typed_after names (proof_nodes p) (IsSubproof names variables hypotheses q) (typed names variables hypotheses q h.1 h.3)) h
typed names variables hypotheses (pair p q) a h =
    typed_two names variables hypotheses (pair p q) (IsSubproof names variables hypotheses p) (After (proof_nodes p) (IsSubproof names variables hypotheses q)) a (typed names variables hypotheses p h.1 h.3) (typed_after names (proof_nodes p) (IsSubproof names variables hypotheses q) (typed names variables hypotheses q h.2 h.4)) h
typed names variables hypotheses (rewriting b p q) a h =
    typed_two names variables hypotheses (rewriting b p q) (IsSubproof names variables hypotheses p) (After (proof_nodes p) (IsSubproof names variables hypotheses q)) a (typed names variables hypotheses p (holds (binary equal h.2 h.3)) h.4) (typed_after names (proof_nodes p) (IsSubproof names variables hypotheses q) (typed names variables hypotheses q (instance b h.2 0) h.5)) h
typed names variables hypotheses (special p t) a h = typed_one names variables hypotheses (special p t) (IsSubproof names variables hypotheses p) a (typed names variables hypotheses p (quantified for_all h.1 h.2) h.3) h
typed names variables hypotheses (first p) a h = typed_one names variables hypotheses (first p) (IsSubproof names variables hypotheses p) a (typed names variables hypotheses p (joined and_also a h.1) h.2) h
typed names variables hypotheses (second p) a h = typed_one names variables hypotheses (second p) (IsSubproof names variables hypotheses p) a (typed names variables hypotheses p (joined and_also h.1 a) h.2) h
typed names variables hypotheses (left_of b p) a h = typed_one names variables hypotheses (left_of b p) (IsSubproof names variables hypotheses p) a (typed names variables hypotheses p h.2 h.3) h
typed names variables hypotheses (right_of b p) a h = typed_one names variables hypotheses (right_of b p) (IsSubproof names variables hypotheses p) a (typed names variables hypotheses p h.2 h.3) h
typed names variables hypotheses (pack r b t p) a h = typed_one names variables hypotheses (pack r b t p) (IsSubproof names variables hypotheses p) a (typed names variables hypotheses p (instance b t 0) h.3) h
typed names variables hypotheses (from_bottom b p) a h = typed_one names variables hypotheses (from_bottom b p) (IsSubproof names variables hypotheses p) a (typed names variables hypotheses p bottom h.2) h
typed names variables hypotheses (stable p) a h = typed_one names variables hypotheses (stable p) (IsSubproof names variables hypotheses p) a (typed names variables hypotheses p (not_so (not_so a)) h.1) h
typed names variables hypotheses p a h = typed_whole names variables hypotheses p a h

-- Where the walk ended

-- the first one without a formula, where the walk from `n` on ended at `k`
abbrev FirstAt : List Decl → Numbered → ℕ → ℕ → Type 0
FirstAt names Part n k = (place : ℕ) × (k ≡ n + place) × IsFirst names Part place

found_err : (o : Option FormulaTree) (n k : ℕ) → found o n ≡ Err k → k ≡ n
found_err o n k e = by (fitting o) e where
  by : (o : Option FormulaTree) → found_at o n ≡ Err k → k ≡ n
  by None e = cc
  by (Some a) e = absurd (cc)

continued_err : (w : Walk) (next : FormulaTree → ℕ → Walk) (k : ℕ) → continued w next ≡ Err k
    → (w ≡ Err k) ⊎ ((f : FormulaTree) × (m : ℕ) × (w ≡ Ok (f, m)) × (next f m ≡ Err k))
continued_err (Ok r) next k e = inr (r.0, r.1, refl, e)
continued_err (Err place) next k e = inl e

sides_err : (f : FormulaTree) (place : ℕ) (next : FormulaTree → FormulaTree → Walk) (k : ℕ) → with_sides f place next ≡ Err k
    → ((a : FormulaTree) × (b : FormulaTree) × (f ≡ joined or_else a b) × (next a b ≡ Err k)) ⊎ ((k ≡ place) × ((a b : FormulaTree) → f ≡ joined or_else a b → ⊥))
sides_err (joined or_else a b) place next k e = inl (a, b, refl, e)
sides_err f place next k e = inr (cc, λ a b h. absurd (cc))

body_err : (f : FormulaTree) (place : ℕ) (next : Sort → FormulaTree → Walk) (k : ℕ) → with_body f place next ≡ Err k
    → ((s : Sort) × (a : FormulaTree) × (f ≡ quantified there_is s a) × (next s a ≡ Err k)) ⊎ ((k ≡ place) × ((s : Sort) (a : FormulaTree) → f ≡ quantified there_is s a → ⊥))
body_err (quantified there_is s a) place next k e = inl (s, a, refl, e)
body_err f place next k e = inr (cc, λ s a h. absurd (cc))

if_err : (t : Bool) (w : Walk) (place k : ℕ) → (if t then w else Err place) ≡ Err k → ((t ≡ true) × (w ≡ Err k)) ⊎ ((t ≡ false) × (k ≡ place))
if_err true w place k e = inl (refl, e)
if_err false w place k e = inr (refl, cc)

-- The whole, after its parts
module _ (names : List Decl) (variables : List Sort) (hypotheses : List FormulaTree) (whole : ProofTree) (none : (a : FormulaTree) → Has names variables hypotheses whole a → ⊥) (n k : ℕ) where
  -- the whole without parts
  whole_alone : k ≡ n → proof_nodes whole ≡ 1 → FirstAt names (IsWhole variables hypotheses whole) n k
  whole_alone e one = (0, omega (arith, e), first_whole names variables hypotheses whole 0 (omega (arith, one)) none)

  -- the whole, after a part all of whose subproofs have formulas
  after_part : (Part : Numbered) (count : ℕ) → proof_nodes whole ≡ 1 + count → AllTyped names Part → k ≡ n + count → FirstAt names (Either Part (IsWhole variables hypotheses whole)) n k
  after_part Part count e part at = (count, at, first_back names Part (IsWhole variables hypotheses whole) count part (first_whole names variables hypotheses whole count (omega (arith, e)) none))

  -- a part before the whole
  in_part : (Part : Numbered) (count : ℕ) → count < proof_nodes whole → Below count Part → FirstAt names Part n k → FirstAt names (Either Part (IsWhole variables hypotheses whole)) n k
  in_part Part count h part f =
      (f.0, f.1, first_front names Part (IsWhole variables hypotheses whole) count f.0 part (past_whole count variables hypotheses whole h) f.2)

-- what stands after a part all of whose subproofs have formulas
first_later : (names : List Decl) (n k : ℕ) (Front Back : Numbered) → AllTyped names Front → FirstAt names Back n k → FirstAt names (Either Front Back) n k
first_later names n k Front Back front f = (f.0, f.1, first_back names Front Back f.0 front f.2)

-- a walk of one part, and then the rule of the whole
one_place : (names : List Decl) (variables : List Sort) (hypotheses : List FormulaTree) (whole : ProofTree) (n k : ℕ) (w : Walk) (rule : FormulaTree → Option FormulaTree) (Part : Numbered) (count : ℕ)
    → ((a : FormulaTree) → Has names variables hypotheses whole a → ⊥)
    → proof_nodes whole ≡ 1 + count → Below count Part
    → (w ≡ Err k → FirstAt names Part n k)
    → ((f : FormulaTree) (m : ℕ) → w ≡ Ok (f, m) → AllTyped names Part × (m ≡ n + count))
    → continued w (λ f m. found (rule f) m) ≡ Err k
    → FirstAt names (Either Part (IsWhole variables hypotheses whole)) n k
one_place names variables hypotheses whole n k w rule Part count none nodes part fault given e =
    ⊎_elim
    (λ (h : w ≡ Err k). in_part names variables hypotheses whole none n k Part count (omega (arith, nodes)) part (fault h))
    (λ (h : (f : FormulaTree) × (m : ℕ) × (w ≡ Ok (f, m)) × (found (rule f) m ≡ Err k)).
    let g = given h.0 h.1 h.2 in
    let at : k ≡ h.1 = found_err (rule h.0) h.1 k h.3 in
    after_part names variables hypotheses whole none n k Part count nodes g.0 (at ∙ g.1))
    (continued_err w (λ f m. found (rule f) m) k e)

-- a part before two others
front_place : (names : List Decl) (variables : List Sort) (hypotheses : List FormulaTree) (whole : ProofTree) (n k : ℕ) (Front Middle : Numbered) (count : ℕ)
    → count < proof_nodes whole → Below count Front → Past count Middle → FirstAt names Front n k → FirstAt names (Either Front (Either Middle (IsWhole variables hypotheses whole))) n k
front_place names variables hypotheses whole n k Front Middle count h front middle f =
    (f.0, f.1, first_front names Front (Either Middle (IsWhole variables hypotheses whole)) count f.0 front (past_either count Middle (IsWhole variables hypotheses whole) middle (past_whole count variables hypotheses whole h)) f.2)

-- a walk of two parts, and then the rule of the whole
two_place : (names : List Decl) (variables : List Sort) (hypotheses : List FormulaTree) (whole : ProofTree) (n k : ℕ) (w : Walk) (onward : ℕ → Walk) (rule : FormulaTree → FormulaTree → Option FormulaTree) (Front Middle : Numbered) (count more : ℕ)
    → ((a : FormulaTree) → Has names variables hypotheses whole a → ⊥)
    → proof_nodes whole ≡ 1 + more → count ≤ more → Below count Front → Past count Middle → Below more Middle
    → (w ≡ Err k → FirstAt names Front n k)
    → ((f : FormulaTree) (m : ℕ) → w ≡ Ok (f, m) → AllTyped names Front × (m ≡ n + count))
    → ((m : ℕ) → m ≡ n + count → onward m ≡ Err k → FirstAt names Middle n k)
    → ((m : ℕ) → m ≡ n + count → (g : FormulaTree) (l : ℕ) → onward m ≡ Ok (g, l) → AllTyped names Middle × (l ≡ n + more))
    → continued w (λ f m. continued (onward m) (λ g l. found (rule f g) l)) ≡ Err k
    → FirstAt names (Either Front (Either Middle (IsWhole variables hypotheses whole))) n k
two_place names variables hypotheses whole n k w onward rule Front Middle count more none nodes few front past middle fault given fault_middle given_middle e =
    ⊎_elim
    (λ (h : w ≡ Err k). front_place names variables hypotheses whole n k Front Middle count (omega (arith, nodes, few)) front past (fault h))
    (λ (h : (f : FormulaTree) × (m : ℕ) × (w ≡ Ok (f, m)) × (continued (onward m) (λ g l. found (rule f g) l) ≡ Err k)).
    let g = given h.0 h.1 h.2 in
    first_later names n k Front (Either Middle (IsWhole variables hypotheses whole)) g.0
    (one_place names variables hypotheses whole n k (onward h.1) (rule h.0) Middle more none nodes middle (fault_middle h.1 g.1) (given_middle h.1 g.1) h.3))
    (continued_err w (λ f m. continued (onward m) (λ g l. found (rule f g) l)) k e)

-- what the walk tells of a part that has a formula
given_part : (names : List Decl) (variables : List Sort) (hypotheses : List FormulaTree) (p : ProofTree) (n : ℕ) (f : FormulaTree) (m : ℕ)
    → walked names variables hypotheses p n ≡ Ok (f, m) → AllTyped names (IsSubproof names variables hypotheses p) × (m ≡ n + proof_nodes p)
given_part names variables hypotheses p n f m e =
    let i = has names variables hypotheses p n f m e in
    (typed names variables hypotheses p f i.0, i.1)

-- a part that stands after others
later : (names : List Decl) (n m k count : ℕ) (Part : Numbered) → m ≡ n + count → FirstAt names Part m k → FirstAt names (After count Part) n k
later names n m k count Part e f =
    let at : k ≡ m + f.0 = f.1 in
    let end : k ≡ n + (count + f.0) = omega (arith, at, e) in
    (count + f.0, end, first_after names count f.0 Part f.2)

given_later : (names : List Decl) (n m l count more : ℕ) (Part : Numbered) → m ≡ n + count → AllTyped names Part × (l ≡ m + more) → AllTyped names (After count Part) × (l ≡ n + (count + more))
given_later names n m l count more Part e g =
    let at : l ≡ m + more = g.1 in
    let end : l ≡ n + (count + more) = omega (arith, at, e) in
    (typed_after names count Part g.0, end)

-- the cases of the one disjunction, told in the two ways
same_cases : (names : List Decl) (variables : List Sort) (hypotheses : List FormulaTree) (p q r : ProofTree) (a b : FormulaTree) (n k : ℕ) (Whole : Numbered)
    → Has names variables hypotheses p (joined or_else a b)
    → FirstAt names (Either (After (proof_nodes p) (IsSubproof names variables (a ∷ hypotheses) q)) (Either (After (proof_nodes p + proof_nodes q) (IsSubproof names variables (b ∷ hypotheses) r)) Whole)) n k
    → FirstAt names (Either (Cases names variables hypotheses p q r) Whole) n k
same_cases names variables hypotheses p q r a b n k Whole h f = (
  f.0,
  f.1,
  first_same names (Either Left (Either Right Whole)) (Either (Cases names variables hypotheses p q r) Whole) f.0
      (λ j s x. ⊎_elim (λ (y : Left j s). inl (a, b, h, inl y)) (λ (y : Right j s ⊎ Whole j s). ⊎_elim (λ (z : Right j s). inl (a, b, h, inr z)) (λ (z : Whole j s). inr z) y) x)
      (λ j s x. ⊎_elim (λ (y : Cases names variables hypotheses p q r j s). ⊎_elim (λ (z : Left j s). inl z) (λ (z : Right j s). inr (inl z)) (cases_of names variables hypotheses p q r a b h j s y)) (λ (y : Whole j s). inr (inr y)) x)
      f.2,
) where
  Left : Numbered
  Left = After (proof_nodes p) (IsSubproof names variables (a ∷ hypotheses) q)

  Right : Numbered
  Right = After (proof_nodes p + proof_nodes q) (IsSubproof names variables (b ∷ hypotheses) r)

same_unpacked : (names : List Decl) (variables : List Sort) (hypotheses : List FormulaTree) (p q : ProofTree) (r : Sort) (a : FormulaTree) (n k : ℕ) (Whole : Numbered)
    → Has names variables hypotheses p (quantified there_is r a)
    → FirstAt names (Either (UnpackedOf names variables hypotheses p q r a) Whole) n k
    → FirstAt names (Either (Unpacked names variables hypotheses p q) Whole) n k
same_unpacked names variables hypotheses p q r a n k Whole h f = (
  f.0,
  f.1,
  first_same names (Either (UnpackedOf names variables hypotheses p q r a) Whole) (Either (Unpacked names variables hypotheses p q) Whole) f.0
      (λ j s x. ⊎_elim (λ (y : UnpackedOf names variables hypotheses p q r a j s). inl (r, a, h, y)) (λ (y : Whole j s). inr y) x)
      (λ j s x. ⊎_elim (λ (y : Unpacked names variables hypotheses p q j s). inl (unpacked_of names variables hypotheses p q r a h j s y)) (λ (y : Whole j s). inr y) x)
      f.2,
)

past_cases : (names : List Decl) (variables : List Sort) (hypotheses : List FormulaTree) (p q r : ProofTree) → Past (proof_nodes p) (Cases names variables hypotheses p q r)
past_cases names variables hypotheses p q r k s x =
    ⊎_elim
    (λ (y : After (proof_nodes p) (IsSubproof names variables (x.0 ∷ hypotheses) q) k s). past_after (proof_nodes p) (IsSubproof names variables (x.0 ∷ hypotheses) q) k s y)
    (λ (y : After (proof_nodes p + proof_nodes q) (IsSubproof names variables (x.1 ∷ hypotheses) r) k s).
    past_less (proof_nodes p + proof_nodes q) (proof_nodes p) (After (proof_nodes p + proof_nodes q) (IsSubproof names variables (x.1 ∷ hypotheses) r)) (omega arith) (past_after (proof_nodes p + proof_nodes q) (IsSubproof names variables (x.1 ∷ hypotheses) r)) k s y)
    x.3

at_second : (n k m p q : ℕ) → m ≡ n + p → k ≡ m + q → k ≡ n + (p + q)
at_second n k m p q e h = omega (arith, e, h)

at_third : (n k m p q r : ℕ) → m ≡ n + p → k ≡ m + q + r → k ≡ n + (p + q + r)
at_third n k m p q r e h = omega (arith, e, h)

-- The place that the walk tells, by induction on the proof.
pub place : (names : List Decl) (variables : List Sort) (hypotheses : List FormulaTree) (p : ProofTree) (n k : ℕ)
    → walked names variables hypotheses p n ≡ Err k → (place : ℕ) × (k ≡ n + place) × IsFirstUntyped names variables hypotheses p place
place names variables hypotheses (lambda a p) n k e =
    let none = none_at names variables hypotheses (lambda a p) n k e in
    ⊎_elim
    (λ (h : (is_assumable names variables a ≡ true) × (continued (walked names variables (a ∷ hypotheses) p n) (λ b m. found (Some (joined implies a b)) m) ≡ Err k)).
    one_place names variables hypotheses (lambda a p) n k (walked names variables (a ∷ hypotheses) p n) (λ b. Some (joined implies a b)) (Assumed names variables hypotheses a p) (proof_nodes p) none refl
    (λ j s x. below names variables (a ∷ hypotheses) p j s x.1)
    (λ u. let f = place names variables (a ∷ hypotheses) p n k u in (f.0, f.1, first_same names (IsSubproof names variables (a ∷ hypotheses) p) (Assumed names variables hypotheses a p) f.0 (λ j s x. (h.0, x)) (λ j s x. x.1) f.2))
    (λ f m u. let g = given_part names variables (a ∷ hypotheses) p n f m u in ((λ j s x. g.0 j s x.1), g.1))
    h.1)
    (λ (h : (is_assumable names variables a ≡ false) × (k ≡ n + proof_nodes p)).
    after_part names variables hypotheses (lambda a p) none n k (Assumed names variables hypotheses a p) (proof_nodes p) refl (λ j s x. absurd (cc (h.0, x.0))) h.1)
    (if_err (is_assumable names variables a) (continued (walked names variables (a ∷ hypotheses) p n) (λ b m. found (Some (joined implies a b)) m)) (n + proof_nodes p) k e)
place names variables hypotheses (general r p) n k e =
    one_place names variables hypotheses (general r p) n k (walked names (r ∷ variables) (raised hypotheses) p n) (λ a. Some (quantified for_all r a)) (IsSubproof names (r ∷ variables) (raised hypotheses) p) (proof_nodes p)
    (none_at names variables hypotheses (general r p) n k e) refl (below names (r ∷ variables) (raised hypotheses) p)
    (λ u. place names (r ∷ variables) (raised hypotheses) p n k u) (λ f m u. given_part names (r ∷ variables) (raised hypotheses) p n f m u) e
place names variables hypotheses (by_cases p q r) n k e =
    let none = none_at names variables hypotheses (by_cases p q r) n k e in
    ⊎_elim
    (λ (h : walked names variables hypotheses p n ≡ Err k).
    front_place names variables hypotheses (by_cases p q r) n k (IsSubproof names variables hypotheses p) (Cases names variables hypotheses p q r) (proof_nodes p) (omega arith) (below names variables hypotheses p) (past_cases names variables hypotheses p q r) (place names variables hypotheses p n k h))
    (λ (h : (f : FormulaTree) × (m : ℕ) × (walked names variables hypotheses p n ≡ Ok (f, m)) × (with_sides f (m + proof_nodes q + proof_nodes r) (λ a b. continued (walked names variables (a ∷ hypotheses) q m) (λ c j. continued (walked names variables (b ∷ hypotheses) r j) (λ d l. found (of_cases c d) l))) ≡ Err k)).
    let i = has names variables hypotheses p n h.0 h.1 h.2 in
    first_later names n k (IsSubproof names variables hypotheses p) (Either (Cases names variables hypotheses p q r) (IsWhole variables hypotheses (by_cases p q r))) (typed names variables hypotheses p h.0 i.0)
    (⊎_elim
    (λ (d : (a : FormulaTree) × (b : FormulaTree) × (h.0 ≡ joined or_else a b) × (continued (walked names variables (a ∷ hypotheses) q h.1) (λ c j. continued (walked names variables (b ∷ hypotheses) r j) (λ d l. found (of_cases c d) l)) ≡ Err k)).
    same_cases names variables hypotheses p q r d.0 d.1 n k (IsWhole variables hypotheses (by_cases p q r)) (subst (λ x. Has names variables hypotheses p x) d.2 i.0)
    (two_place names variables hypotheses (by_cases p q r) n k (walked names variables (d.0 ∷ hypotheses) q h.1) (λ j. walked names variables (d.1 ∷ hypotheses) r j) (λ x y. of_cases x y)
    (After (proof_nodes p) (IsSubproof names variables (d.0 ∷ hypotheses) q)) (After (proof_nodes p + proof_nodes q) (IsSubproof names variables (d.1 ∷ hypotheses) r)) (proof_nodes p + proof_nodes q) (proof_nodes p + proof_nodes q + proof_nodes r)
    none (omega arith) (omega arith)
    (below_after (proof_nodes p) (proof_nodes q) (IsSubproof names variables (d.0 ∷ hypotheses) q) (below names variables (d.0 ∷ hypotheses) q))
    (past_after (proof_nodes p + proof_nodes q) (IsSubproof names variables (d.1 ∷ hypotheses) r))
    (below_after (proof_nodes p + proof_nodes q) (proof_nodes r) (IsSubproof names variables (d.1 ∷ hypotheses) r) (below names variables (d.1 ∷ hypotheses) r))
    (λ u. later names n h.1 k (proof_nodes p) (IsSubproof names variables (d.0 ∷ hypotheses) q) i.1 (place names variables (d.0 ∷ hypotheses) q h.1 k u))
    (λ f m u. given_later names n h.1 m (proof_nodes p) (proof_nodes q) (IsSubproof names variables (d.0 ∷ hypotheses) q) i.1 (given_part names variables (d.0 ∷ hypotheses) q h.1 f m u))
    (λ m at u. later names n m k (proof_nodes p + proof_nodes q) (IsSubproof names variables (d.1 ∷ hypotheses) r) at (place names variables (d.1 ∷ hypotheses) r m k u))
    (λ m at g l u. given_later names n m l (proof_nodes p + proof_nodes q) (proof_nodes r) (IsSubproof names variables (d.1 ∷ hypotheses) r) at (given_part names variables (d.1 ∷ hypotheses) r m g l u))
    d.3))
    (λ (d : (k ≡ h.1 + proof_nodes q + proof_nodes r) × ((a b : FormulaTree) → h.0 ≡ joined or_else a b → ⊥)).
    after_part names variables hypotheses (by_cases p q r) none n k (Cases names variables hypotheses p q r) (proof_nodes p + proof_nodes q + proof_nodes r) (omega arith)
    (λ j s x. absurd (d.1 x.0 x.1 (one_formula names variables hypotheses p h.0 (joined or_else x.0 x.1) i.0 x.2)))
    (at_third n k h.1 (proof_nodes p) (proof_nodes q) (proof_nodes r) i.1 d.0))
    (sides_err h.0 (h.1 + proof_nodes q + proof_nodes r) (λ a b. continued (walked names variables (a ∷ hypotheses) q h.1) (λ c j. continued (walked names variables (b ∷ hypotheses) r j) (λ d l. found (of_cases c d) l))) k h.3)))
    (continued_err (walked names variables hypotheses p n) (λ f m. with_sides f (m + proof_nodes q + proof_nodes r) (λ a b. continued (walked names variables (a ∷ hypotheses) q m) (λ c j. continued (walked names variables (b ∷ hypotheses) r j) (λ d l. found (of_cases c d) l)))) k e)
place names variables hypotheses (unpack p q) n k e =
    let none = none_at names variables hypotheses (unpack p q) n k e in
    ⊎_elim
    (λ (h : walked names variables hypotheses p n ≡ Err k).
    front_place names variables hypotheses (unpack p q) n k (IsSubproof names variables hypotheses p) (Unpacked names variables hypotheses p q) (proof_nodes p) (omega arith) (below names variables hypotheses p)
    (λ j s x. past_after (proof_nodes p) (IsSubproof names (x.0 ∷ variables) (x.1 ∷ raised hypotheses) q) j s x.3) (place names variables hypotheses p n k h))
    (λ (h : (f : FormulaTree) × (m : ℕ) × (walked names variables hypotheses p n ≡ Ok (f, m)) × (with_body f (m + proof_nodes q) (λ s a. continued (walked names (s ∷ variables) (a ∷ raised hypotheses) q m) (λ c j. found (of_unpacked c) j)) ≡ Err k)).
    let i = has names variables hypotheses p n h.0 h.1 h.2 in
    first_later names n k (IsSubproof names variables hypotheses p) (Either (Unpacked names variables hypotheses p q) (IsWhole variables hypotheses (unpack p q))) (typed names variables hypotheses p h.0 i.0)
    (⊎_elim
    (λ (d : (s : Sort) × (a : FormulaTree) × (h.0 ≡ quantified there_is s a) × (continued (walked names (s ∷ variables) (a ∷ raised hypotheses) q h.1) (λ c j. found (of_unpacked c) j) ≡ Err k)).
    same_unpacked names variables hypotheses p q d.0 d.1 n k (IsWhole variables hypotheses (unpack p q)) (subst (λ x. Has names variables hypotheses p x) d.2 i.0)
    (one_place names variables hypotheses (unpack p q) n k (walked names (d.0 ∷ variables) (d.1 ∷ raised hypotheses) q h.1) (λ c. of_unpacked c)
    (UnpackedOf names variables hypotheses p q d.0 d.1) (proof_nodes p + proof_nodes q)
    none (omega arith)
    (below_after (proof_nodes p) (proof_nodes q) (IsSubproof names (d.0 ∷ variables) (d.1 ∷ raised hypotheses) q) (below names (d.0 ∷ variables) (d.1 ∷ raised hypotheses) q))
    (λ u. later names n h.1 k (proof_nodes p) (IsSubproof names (d.0 ∷ variables) (d.1 ∷ raised hypotheses) q) i.1 (place names (d.0 ∷ variables) (d.1 ∷ raised hypotheses) q h.1 k u))
    (λ f m u. given_later names n h.1 m (proof_nodes p) (proof_nodes q) (IsSubproof names (d.0 ∷ variables) (d.1 ∷ raised hypotheses) q) i.1 (given_part names (d.0 ∷ variables) (d.1 ∷ raised hypotheses) q h.1 f m u))
    d.3))
    (λ (d : (k ≡ h.1 + proof_nodes q) × ((s : Sort) (a : FormulaTree) → h.0 ≡ quantified there_is s a → ⊥)).
    after_part names variables hypotheses (unpack p q) none n k (Unpacked names variables hypotheses p q) (proof_nodes p + proof_nodes q) (omega arith)
    (λ j s x. absurd (d.1 x.0 x.1 (one_formula names variables hypotheses p h.0 (quantified there_is x.0 x.1) i.0 x.2)))
    (at_second n k h.1 (proof_nodes p) (proof_nodes q) i.1 d.0))
    (body_err h.0 (h.1 + proof_nodes q) (λ s a. continued (walked names (s ∷ variables) (a ∷ raised hypotheses) q h.1) (λ c j. found (of_unpacked c) j)) k h.3)))
    (continued_err (walked names variables hypotheses p n) (λ f m. with_body f (m + proof_nodes q) (λ s a. continued (walked names (s ∷ variables) (a ∷ raised hypotheses) q m) (λ c j. found (of_unpacked c) j))) k e)
place names variables hypotheses (application p q) n k e =
    two_place names variables hypotheses (application p q) n k (walked names variables hypotheses p n) (λ m. walked names variables hypotheses q m) (λ f g. of_two names variables (application p q) f g)
    (IsSubproof names variables hypotheses p) (After (proof_nodes p) (IsSubproof names variables hypotheses q)) (proof_nodes p) (proof_nodes p + proof_nodes q)
    (none_at names variables hypotheses (application p q) n k e) (omega arith) (omega arith) (below names variables hypotheses p) (past_after (proof_nodes p) (IsSubproof names variables hypotheses q)) (below_after (proof_nodes p) (proof_nodes q) (IsSubproof names variables hypotheses q) (below names variables hypotheses q))
    (λ u. place names variables hypotheses p n k u) (λ f m u. given_part names variables hypotheses p n f m u)
    (λ m at u. later names n m k (proof_nodes p) (IsSubproof names variables hypotheses q) at (place names variables hypotheses q m k u))
    (λ m at g l u. given_later names n m l (proof_nodes p) (proof_nodes q) (IsSubproof names variables hypotheses q) at (given_part names variables hypotheses q m g l u))
    e
place names variables hypotheses (pair p q) n k e =
    two_place names variables hypotheses (pair p q) n k (walked names variables hypotheses p n) (λ m. walked names variables hypotheses q m) (λ f g. of_two names variables (pair p q) f g)
    (IsSubproof names variables hypotheses p) (After (proof_nodes p) (IsSubproof names variables hypotheses q)) (proof_nodes p) (proof_nodes p + proof_nodes q)
    (none_at names variables hypotheses (pair p q) n k e) (omega arith) (omega arith) (below names variables hypotheses p) (past_after (proof_nodes p) (IsSubproof names variables hypotheses q)) (below_after (proof_nodes p) (proof_nodes q) (IsSubproof names variables hypotheses q) (below names variables hypotheses q))
    (λ u. place names variables hypotheses p n k u) (λ f m u. given_part names variables hypotheses p n f m u)
    (λ m at u. later names n m k (proof_nodes p) (IsSubproof names variables hypotheses q) at (place names variables hypotheses q m k u))
    (λ m at g l u. given_later names n m l (proof_nodes p) (proof_nodes q) (IsSubproof names variables hypotheses q) at (given_part names variables hypotheses q m g l u))
    e
place names variables hypotheses (rewriting b p q) n k e =
    two_place names variables hypotheses (rewriting b p q) n k (walked names variables hypotheses p n) (λ m. walked names variables hypotheses q m) (λ f g. of_two names variables (rewriting b p q) f g)
    (IsSubproof names variables hypotheses p) (After (proof_nodes p) (IsSubproof names variables hypotheses q)) (proof_nodes p) (proof_nodes p + proof_nodes q)
    (none_at names variables hypotheses (rewriting b p q) n k e) (omega arith) (omega arith) (below names variables hypotheses p) (past_after (proof_nodes p) (IsSubproof names variables hypotheses q)) (below_after (proof_nodes p) (proof_nodes q) (IsSubproof names variables hypotheses q) (below names variables hypotheses q))
    (λ u. place names variables hypotheses p n k u) (λ f m u. given_part names variables hypotheses p n f m u)
    (λ m at u. later names n m k (proof_nodes p) (IsSubproof names variables hypotheses q) at (place names variables hypotheses q m k u))
    (λ m at g l u. given_later names n m l (proof_nodes p) (proof_nodes q) (IsSubproof names variables hypotheses q) at (given_part names variables hypotheses q m g l u))
    e
place names variables hypotheses (special p t) n k e =
    one_place names variables hypotheses (special p t) n k (walked names variables hypotheses p n) (λ f. of_one names variables (special p t) f) (IsSubproof names variables hypotheses p) (proof_nodes p)
    (none_at names variables hypotheses (special p t) n k e) refl (below names variables hypotheses p) (λ u. place names variables hypotheses p n k u) (λ f m u. given_part names variables hypotheses p n f m u) e
place names variables hypotheses (first p) n k e =
    one_place names variables hypotheses (first p) n k (walked names variables hypotheses p n) (λ f. of_one names variables (first p) f) (IsSubproof names variables hypotheses p) (proof_nodes p)
    (none_at names variables hypotheses (first p) n k e) refl (below names variables hypotheses p) (λ u. place names variables hypotheses p n k u) (λ f m u. given_part names variables hypotheses p n f m u) e
place names variables hypotheses (second p) n k e =
    one_place names variables hypotheses (second p) n k (walked names variables hypotheses p n) (λ f. of_one names variables (second p) f) (IsSubproof names variables hypotheses p) (proof_nodes p)
    (none_at names variables hypotheses (second p) n k e) refl (below names variables hypotheses p) (λ u. place names variables hypotheses p n k u) (λ f m u. given_part names variables hypotheses p n f m u) e
place names variables hypotheses (left_of b p) n k e =
    one_place names variables hypotheses (left_of b p) n k (walked names variables hypotheses p n) (λ f. of_one names variables (left_of b p) f) (IsSubproof names variables hypotheses p) (proof_nodes p)
    (none_at names variables hypotheses (left_of b p) n k e) refl (below names variables hypotheses p) (λ u. place names variables hypotheses p n k u) (λ f m u. given_part names variables hypotheses p n f m u) e
place names variables hypotheses (right_of b p) n k e =
    one_place names variables hypotheses (right_of b p) n k (walked names variables hypotheses p n) (λ f. of_one names variables (right_of b p) f) (IsSubproof names variables hypotheses p) (proof_nodes p)
    (none_at names variables hypotheses (right_of b p) n k e) refl (below names variables hypotheses p) (λ u. place names variables hypotheses p n k u) (λ f m u. given_part names variables hypotheses p n f m u) e
place names variables hypotheses (pack r b t p) n k e =
    one_place names variables hypotheses (pack r b t p) n k (walked names variables hypotheses p n) (λ f. of_one names variables (pack r b t p) f) (IsSubproof names variables hypotheses p) (proof_nodes p)
    (none_at names variables hypotheses (pack r b t p) n k e) refl (below names variables hypotheses p) (λ u. place names variables hypotheses p n k u) (λ f m u. given_part names variables hypotheses p n f m u) e
place names variables hypotheses (from_bottom b p) n k e =
    one_place names variables hypotheses (from_bottom b p) n k (walked names variables hypotheses p n) (λ f. of_one names variables (from_bottom b p) f) (IsSubproof names variables hypotheses p) (proof_nodes p)
    (none_at names variables hypotheses (from_bottom b p) n k e) refl (below names variables hypotheses p) (λ u. place names variables hypotheses p n k u) (λ f m u. given_part names variables hypotheses p n f m u) e
place names variables hypotheses (stable p) n k e =
    one_place names variables hypotheses (stable p) n k (walked names variables hypotheses p n) (λ f. of_one names variables (stable p) f) (IsSubproof names variables hypotheses p) (proof_nodes p)
    (none_at names variables hypotheses (stable p) n k e) refl (below names variables hypotheses p) (λ u. place names variables hypotheses p n k u) (λ f m u. given_part names variables hypotheses p n f m u) e
place names variables hypotheses (hypothesis i) n k e =
    whole_alone names variables hypotheses (hypothesis i) (none_at names variables hypotheses (hypothesis i) n k e) n k (found_err (of_leaf names variables hypotheses (hypothesis i)) n k e) refl
place names variables hypotheses (reflexive t) n k e =
    whole_alone names variables hypotheses (reflexive t) (none_at names variables hypotheses (reflexive t) n k e) n k (found_err (of_leaf names variables hypotheses (reflexive t)) n k e) refl
place names variables hypotheses (an_axiom i) n k e =
    whole_alone names variables hypotheses (an_axiom i) (none_at names variables hypotheses (an_axiom i) n k e) n k (found_err (of_leaf names variables hypotheses (an_axiom i)) n k e) refl
place names variables hypotheses (induction a) n k e =
    whole_alone names variables hypotheses (induction a) (none_at names variables hypotheses (induction a) n k e) n k (found_err (of_leaf names variables hypotheses (induction a)) n k e) refl
place names variables hypotheses (computing t) n k e =
    whole_alone names variables hypotheses (computing t) (none_at names variables hypotheses (computing t) n k e) n k (found_err (of_leaf names variables hypotheses (computing t)) n k e) refl
place names variables hypotheses (ring_equal s t) n k e =
    whole_alone names variables hypotheses (ring_equal s t) (none_at names variables hypotheses (ring_equal s t) n k e) n k (found_err (of_leaf names variables hypotheses (ring_equal s t)) n k e) refl
place names variables hypotheses (hole i) n k e =
    whole_alone names variables hypotheses (hole i) (none_at names variables hypotheses (hole i) n k e) n k (found_err (of_leaf names variables hypotheses (hole i)) n k e) refl

-- the same for the walk from number 0
pub place_from_zero : (names : List Decl) (variables : List Sort) (hypotheses : List FormulaTree) (p : ProofTree) (k : ℕ)
    → walked names variables hypotheses p 0 ≡ Err k → IsFirstUntyped names variables hypotheses p k
place_from_zero names variables hypotheses p k e =
    let f = place names variables hypotheses p 0 k e in
    let same : f.0 ≡ k = omega (arith, f.1) in
    subst (λ j. IsFirstUntyped names variables hypotheses p j) same f.2

-- The laws

pub typed_or_not : (names : List Decl) (variables : List Sort) (hypotheses : List FormulaTree) (p : ProofTree)
    → ((a : FormulaTree) × Has names variables hypotheses p a) ⊎ ((place : ℕ) × IsFirstUntyped names variables hypotheses p place)
typed_or_not names variables hypotheses p = by (walked names variables hypotheses p 0) refl where
  by : (w : Walk) → walked names variables hypotheses p 0 ≡ w → ((a : FormulaTree) × Has names variables hypotheses p a) ⊎ ((place : ℕ) × IsFirstUntyped names variables hypotheses p place)
  by (Ok r) e = inl (r.0, (has names variables hypotheses p 0 r.0 r.1 e).0)
  by (Err k) e = inr (k, place_from_zero names variables hypotheses p k e)

pub not_both : (names : List Decl) (variables : List Sort) (hypotheses : List FormulaTree) (p : ProofTree) (a : FormulaTree) (place : ℕ)
    → Has names variables hypotheses p a → IsFirstUntyped names variables hypotheses p place → ⊥
not_both names variables hypotheses p a place h f = f.0.2 (typed names variables hypotheses p a h place f.0.0 f.0.1)

pub one_place_only : (names : List Decl) (variables : List Sort) (hypotheses : List FormulaTree) (p : ProofTree) (j k : ℕ)
    → IsFirstUntyped names variables hypotheses p j → IsFirstUntyped names variables hypotheses p k → j ≡ k
one_place_only names variables hypotheses p j k f g =
    ⊎_elim
    (λ (h : j < k). absurd (f.0.2 (g.1 j h f.0.0 f.0.1)))
    (λ (h : k ≤ j). ⊎_elim
    (λ (i : k < j). absurd (g.0.2 (f.1 k i g.0.0 g.0.1)))
    (λ (i : j ≤ k). omega (arith, h, i))
    (cases_lt k j))
    (cases_lt j k)
