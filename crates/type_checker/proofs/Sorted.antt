-- Formulas of proofs may be hypotheses again, where all hypotheses may be.
use Rattle.std.proofs.Common.{◌≡◌, ℕ, zero, suc, ◌+◌, ◌&&◌, true, false, Bool, if◌then◌else◌, List, [], ◌∷◌, Option, Some, None, slice_get, refl, sym, ◌∙◌, ap, subst}
use Rattle.std.proofs.lemmas.Bool.{and_parts, and_from}
use Rattle.ck_base.specs.declared.decl.Sort.{Sort}
use Rattle.ck_base.specs.declared.decl.Sort.TheVariants as sort
use Rattle.ck_base.specs.declared.decl.Decl.{Decl}
use Rattle.sorted_terms.specs.Tree.{TermTree, binary, equal}
use Rattle.sorted_terms.specs.Sorts.{sort_of, has_sort}
use Rattle.sorted_terms.proofs.Sizes.{shift_keeps_size, shift_keeps_depth}
use Rattle.formulas.specs.Tree.{FormulaTree, Connective, implies, and_also, or_else, Quantifier, for_all, there_is, bottom, holds, joined, quantified, not_so}
use Rattle.formulas.specs.Sorts.{well_sorted, fits, size, depth}
use Rattle.formulas.specs.Substitution.{shift}
use Rattle.formulas.specs.Context.{raised}
use Rattle.formulas.proofs.Substituting.{sorted_shift, sorted_instance}
use Rattle.arith_axioms.proofs.Sorting.{axiom_sorted, induction_sorted}
use Rattle.proof_terms.specs.Tree.{ProofTree, hypothesis, lambda, application, general, special, pair, first, second, left_of, right_of, by_cases, pack, unpack, from_bottom, stable, reflexive, rewriting, an_axiom, induction, computing, ring_equal}
use Rattle.type_checker.specs.Typing.{Has}
use Rattle.type_checker.specs.Place.{is_assumable, AreAssumable}
use Rattle.type_checker.proofs.Sides.{fits_left_side, fits_right_side, fits_body}

-- The formula of a proof fits.
pub fitting : (names : List Decl) (variables : List Sort) (hypotheses : List FormulaTree) (p : ProofTree) (a : FormulaTree)
    → Has names variables hypotheses p a → fits a ≡ true
fitting names variables hypotheses (hypothesis k) a h = h.0
fitting names variables hypotheses (lambda b p) a h = h.0
fitting names variables hypotheses (application p q) a h = h.0
fitting names variables hypotheses (general s p) a h = h.0
fitting names variables hypotheses (special p t) a h = h.0
fitting names variables hypotheses (pair p q) a h = h.0
fitting names variables hypotheses (first p) a h = h.0
fitting names variables hypotheses (second p) a h = h.0
fitting names variables hypotheses (left_of b p) a h = h.0
fitting names variables hypotheses (right_of b p) a h = h.0
fitting names variables hypotheses (by_cases p q r) a h = h.0
fitting names variables hypotheses (pack s b t p) a h = h.0
fitting names variables hypotheses (unpack p q) a h = h.0
fitting names variables hypotheses (from_bottom b p) a h = h.0
fitting names variables hypotheses (stable p) a h = h.0
fitting names variables hypotheses (reflexive t) a h = h.0
fitting names variables hypotheses (rewriting b p q) a h = h.0
fitting names variables hypotheses (an_axiom i) a h = h.0
fitting names variables hypotheses (induction b) a h = h.0
fitting names variables hypotheses (computing t) a h = h.0
fitting names variables hypotheses (ring_equal s t) a h = h.0
fitting names variables hypotheses p a h = absurd h

-- Shifted formulas

pub shift_size : (a : FormulaTree) (by above : ℕ) → size (shift a by above) ≡ size a
shift_size bottom by above = refl
shift_size (holds t) by above = ap (λ n. 1 + n) (shift_keeps_size t by above)
shift_size (joined c a b) by above = rw (shift_size a by above, shift_size b by above) refl
shift_size (quantified q s a) by above = ap (λ n. 1 + n) (shift_size a by (suc above))

pub shift_depth : (a : FormulaTree) (by above : ℕ) → depth (shift a by above) ≡ depth a
shift_depth bottom by above = refl
shift_depth (holds t) by above = ap (λ n. 1 + n) (shift_keeps_depth t by above)
shift_depth (joined c a b) by above = rw (shift_depth a by above, shift_depth b by above) refl
shift_depth (quantified q s a) by above = ap (λ n. 1 + n) (shift_depth a by (suc above))

pub shift_fits : (a : FormulaTree) (by above : ℕ) → fits (shift a by above) ≡ fits a
unfolding fits
shift_fits a by above = rw (shift_size a by above, shift_depth a by above) refl

pub shift_sorted : (names : List Decl) (s : Sort) (variables : List Sort) (a : FormulaTree) → well_sorted names (s ∷ variables) (shift a 1 0) ≡ well_sorted names variables a
shift_sorted names s variables a = sorted_shift names a [] (s ∷ []) variables

-- Parts and shifts of what may be a hypothesis

pub assumable_fits : (names : List Decl) (variables : List Sort) (a : FormulaTree) → is_assumable names variables a ≡ true → fits a ≡ true
assumable_fits names variables a h = (and_parts (fits a) (well_sorted names variables a) h).0

pub assumable_sorted : (names : List Decl) (variables : List Sort) (a : FormulaTree) → is_assumable names variables a ≡ true → well_sorted names variables a ≡ true
assumable_sorted names variables a h = (and_parts (fits a) (well_sorted names variables a) h).1

pub raised_assumable : (names : List Decl) (s : Sort) (variables : List Sort) (hypotheses : List FormulaTree)
    → AreAssumable names variables hypotheses → AreAssumable names (s ∷ variables) (raised hypotheses)
raised_assumable names s variables [] h = tt
raised_assumable names s variables (a ∷ hypotheses) h =
    (and_from _ _ (shift_fits a 1 0 ∙ assumable_fits names variables a h.0) (shift_sorted names s variables a ∙ assumable_sorted names variables a h.0), raised_assumable names s variables hypotheses h.1)

pub left_assumable : (names : List Decl) (variables : List Sort) (c : Connective) (a b : FormulaTree) → is_assumable names variables (joined c a b) ≡ true → is_assumable names variables a ≡ true
left_assumable names variables c a b h =
    and_from _ _ (fits_left_side c a b (assumable_fits names variables (joined c a b) h)) (and_parts (well_sorted names variables a) (well_sorted names variables b) (assumable_sorted names variables (joined c a b) h)).0

pub right_assumable : (names : List Decl) (variables : List Sort) (c : Connective) (a b : FormulaTree) → is_assumable names variables (joined c a b) ≡ true → is_assumable names variables b ≡ true
right_assumable names variables c a b h =
    and_from _ _ (fits_right_side c a b (assumable_fits names variables (joined c a b) h)) (and_parts (well_sorted names variables a) (well_sorted names variables b) (assumable_sorted names variables (joined c a b) h)).1

pub body_assumable : (names : List Decl) (variables : List Sort) (q : Quantifier) (s : Sort) (a : FormulaTree) → is_assumable names variables (quantified q s a) ≡ true → is_assumable names (s ∷ variables) a ≡ true
body_assumable names variables q s a h =
    and_from _ _ (fits_body q s a (assumable_fits names variables (quantified q s a) h)) (assumable_sorted names variables (quantified q s a) h)

-- Well-sorted formulas

one_sorted : (names : List Decl) (variables : List Sort) (hypotheses : List FormulaTree) (k : ℕ) (a : FormulaTree) → AreAssumable names variables hypotheses → slice_get hypotheses k ≡ Some a → well_sorted names variables a ≡ true
one_sorted names variables [] k a h e = absurd (cc)
one_sorted names variables (b ∷ hypotheses) zero a h e = let same : b ≡ a = cc in subst (λ x. well_sorted names variables x ≡ true) same (assumable_sorted names variables b h.0)
one_sorted names variables (b ∷ hypotheses) (suc k) a h e = one_sorted names variables hypotheses k a h.1 e

pub sort_known : (o : Option Sort) (s : Sort) → has_sort o s ≡ true → o ≡ Some s
sort_known None s e = absurd (cc)
sort_known (Some sort.Int) sort.Int e = refl
sort_known (Some sort.Int) sort.Bool e = absurd (cc)
sort_known (Some sort.Bool) sort.Int e = absurd (cc)
sort_known (Some sort.Bool) sort.Bool e = refl

pub known_sort : (o : Option Sort) (s : Sort) → o ≡ Some s → has_sort o s ≡ true
known_sort None s e = absurd (cc)
known_sort (Some sort.Int) sort.Int e = refl
known_sort (Some sort.Int) sort.Bool e = absurd (cc)
known_sort (Some sort.Bool) sort.Int e = absurd (cc)
known_sort (Some sort.Bool) sort.Bool e = refl

equal_sides : (t : Bool) → has_sort (if t then Some sort.Bool else None) sort.Bool ≡ true → t ≡ true
equal_sides true e = refl
equal_sides false e = absurd (cc)

-- the right side of a well-sorted equation is an integer
right_integer : (names : List Decl) (variables : List Sort) (s t : TermTree) → well_sorted names variables (holds (binary equal s t)) ≡ true → sort_of names variables t ≡ Some sort.Int
right_integer names variables s t e =
    sort_known (sort_of names variables t) sort.Int (and_parts (has_sort (sort_of names variables s) sort.Int) (has_sort (sort_of names variables t) sort.Int) (equal_sides (has_sort (sort_of names variables s) sort.Int && has_sort (sort_of names variables t) sort.Int) e)).1

-- the formula of a proof is well-sorted, by induction on the proof
sorted : (names : List Decl) (variables : List Sort) (hypotheses : List FormulaTree) (p : ProofTree) (a : FormulaTree)
    → AreAssumable names variables hypotheses → Has names variables hypotheses p a → well_sorted names variables a ≡ true
sorted names variables hypotheses (hypothesis k) a all h = one_sorted names variables hypotheses k a all h.1
sorted names variables hypotheses (lambda a p) c all h =
    let fit : fits a ≡ true = fits_left_side implies a h.2 (subst (λ x. fits x ≡ true) h.4 h.0) in
    subst (λ x. well_sorted names variables x ≡ true) (sym h.4) (and_from _ _ h.1 (sorted names variables (a ∷ hypotheses) p h.2 (and_from _ _ fit h.1, all) h.3))
sorted names variables hypotheses (application p q) b all h =
    (and_parts (well_sorted names variables h.1) (well_sorted names variables b) (sorted names variables hypotheses p (joined implies h.1 b) all h.2)).1
sorted names variables hypotheses (general s p) c all h =
    subst (λ x. well_sorted names variables x ≡ true) (sym h.3) (sorted names (s ∷ variables) (raised hypotheses) p h.1 (raised_assumable names s variables hypotheses all) h.2)
sorted names variables hypotheses (special p t) c all h =
    subst (λ x. well_sorted names variables x ≡ true) (sym h.5) (sorted_instance names t h.1 variables h.4 h.2 [] ∙ sorted names variables hypotheses p (quantified for_all h.1 h.2) all h.3)
sorted names variables hypotheses (pair p q) c all h =
    subst (λ x. well_sorted names variables x ≡ true) (sym h.5) (and_from _ _ (sorted names variables hypotheses p h.1 all h.3) (sorted names variables hypotheses q h.2 all h.4))
sorted names variables hypotheses (first p) a all h =
    (and_parts (well_sorted names variables a) (well_sorted names variables h.1) (sorted names variables hypotheses p (joined and_also a h.1) all h.2)).0
sorted names variables hypotheses (second p) b all h =
    (and_parts (well_sorted names variables h.1) (well_sorted names variables b) (sorted names variables hypotheses p (joined and_also h.1 b) all h.2)).1
sorted names variables hypotheses (left_of b p) c all h =
    subst (λ x. well_sorted names variables x ≡ true) (sym h.4) (and_from _ _ (sorted names variables hypotheses p h.2 all h.3) h.1)
sorted names variables hypotheses (right_of a p) c all h =
    subst (λ x. well_sorted names variables x ≡ true) (sym h.4) (and_from _ _ h.1 (sorted names variables hypotheses p h.2 all h.3))
sorted names variables hypotheses (by_cases p q r) c all h =
    let whole : is_assumable names variables (joined or_else h.1 h.2) ≡ true = and_from _ _ (fitting names variables hypotheses p (joined or_else h.1 h.2) h.3) (sorted names variables hypotheses p (joined or_else h.1 h.2) all h.3) in
    sorted names variables (h.1 ∷ hypotheses) q c (left_assumable names variables or_else h.1 h.2 whole, all) h.4
sorted names variables hypotheses (pack s a t p) c all h = subst (λ x. well_sorted names variables x ≡ true) (sym h.4) h.1
sorted names variables hypotheses (unpack p q) c all h =
    let whole : is_assumable names variables (quantified there_is h.1 h.2) ≡ true = and_from _ _ (fitting names variables hypotheses p (quantified there_is h.1 h.2) h.3) (sorted names variables hypotheses p (quantified there_is h.1 h.2) all h.3) in
    sym (shift_sorted names h.1 variables c)
    ∙ sorted names (h.1 ∷ variables) (h.2 ∷ raised hypotheses) q (shift c 1 0) (body_assumable names variables there_is h.1 h.2 whole, raised_assumable names h.1 variables hypotheses all) h.4
sorted names variables hypotheses (from_bottom a p) c all h = subst (λ x. well_sorted names variables x ≡ true) (sym h.3) h.1
sorted names variables hypotheses (stable p) a all h =
    let denied = (and_parts (well_sorted names variables (not_so a)) true (sorted names variables hypotheses p (not_so (not_so a)) all h.1)).0 in
    (and_parts (well_sorted names variables a) true denied).0
sorted names variables hypotheses (reflexive t) c all h = subst (λ x. well_sorted names variables x ≡ true) (sym h.2) (rw h.1 refl)
sorted names variables hypotheses (rewriting a p q) c all h =
    let right : sort_of names variables h.3 ≡ Some sort.Int = right_integer names variables h.2 h.3 (sorted names variables hypotheses p (holds (binary equal h.2 h.3)) all h.4) in
    subst (λ x. well_sorted names variables x ≡ true) (sym h.6) (sorted_instance names h.3 sort.Int variables right a [] ∙ h.1)
sorted names variables hypotheses (an_axiom i) a all h = axiom_sorted names variables i a h.1
sorted names variables hypotheses (induction a) c all h = subst (λ x. well_sorted names variables x ≡ true) (sym h.2) (induction_sorted names variables a h.1)
sorted names variables hypotheses (computing t) c all h = subst (λ x. well_sorted names variables x ≡ true) (sym h.3) (known_sort (sort_of names variables t) sort.Bool h.1)
sorted names variables hypotheses (ring_equal s t) c all h = subst (λ x. well_sorted names variables x ≡ true) (sym h.4) (rw (h.1, h.2) refl)
sorted names variables hypotheses p a all h = absurd h

-- the formula of a proof may be a hypothesis
pub assumable : (names : List Decl) (variables : List Sort) (hypotheses : List FormulaTree) (p : ProofTree) (a : FormulaTree)
    → AreAssumable names variables hypotheses → Has names variables hypotheses p a → is_assumable names variables a ≡ true
assumable names variables hypotheses p a all h = and_from _ _ (fitting names variables hypotheses p a h) (sorted names variables hypotheses p a all h)
