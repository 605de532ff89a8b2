-- What the rules compute from formulas that fit.
use Rattle.std.proofs.Common.{◌≡◌, ℕ, zero, suc, ◌+◌, ◌<◌, ◌≤◌, ◌^◌, Bool, true, false, ◌&&◌, if◌then◌else◌, List, [], ◌∷◌, length, Option, Some, None, slice_get, refl, sym, subst, ◌∙◌, arith}
use Rattle.ck_base.specs.declared.decl.Sort.{Sort}
use Rattle.ck_base.specs.declared.decl.Sort.TheVariants as sort
use Rattle.ck_base.specs.declared.decl.Decl.{Decl}
use Rattle.sorted_terms.specs.Tree.{TermTree, boolean, binary, equal}
use Rattle.sorted_terms.specs.Sorts.{sort_of, has_sort}
use Rattle.formulas.specs.Tree.{FormulaTree, implies, and_also, or_else, for_all, bottom, holds, joined, quantified}
use Rattle.formulas.specs.Sorts.{depth, fits, well_sorted}
use Rattle.formulas.specs.Substitution.{shift, instance, occurs, HasIndicesBelow}
use Rattle.formulas.specs.Context.{AllIndicesBelow}
use Rattle.formulas.proofs.Substituting.{undone}
use Rattle.arith_axioms.specs.Axioms.{induction as induction_form}
use Rattle.type_checker.specs.Place.{is_assumable, AreAssumable}
use Rattle.type_checker.specs.Rules.{fitting, given, first_of, second_of, denied_of, and_then, applied, of_cases, of_unpacked}
use Rattle.type_checker.specs.Same.{same_formula}
use Rattle.type_checker.specs.SameLaws.{formula_is}
use Rattle.type_checker.proofs.Sides.{fits_bounds, fits_left_side, fits_right_side, fits_body}
use Rattle.type_checker.proofs.Sorted.{shift_fits, assumable_fits, assumable_sorted, sort_known}
use Rattle.type_checker.proofs.Rooms.{sorted_indices, fitting_instance_room}

apart : true ≡ false → ⊥
apart e = absurd (cc)

-- a formula that fits is as it is
pub fits_kept : (a : FormulaTree) → fits a ≡ true → fitting (Some a) ≡ Some a
fits_kept a h = rw h refl

pub first_kept : (f : FormulaTree) → fits f ≡ true → fitting (first_of f) ≡ first_of f
first_kept bottom h = refl
first_kept (holds t) h = refl
first_kept (joined implies a b) h = refl
first_kept (joined and_also a b) h = fits_kept a (fits_left_side and_also a b h)
first_kept (joined or_else a b) h = refl
first_kept (quantified q s a) h = refl

pub second_kept : (f : FormulaTree) → fits f ≡ true → fitting (second_of f) ≡ second_of f
second_kept bottom h = refl
second_kept (holds t) h = refl
second_kept (joined implies a b) h = refl
second_kept (joined and_also a b) h = fits_kept b (fits_right_side and_also a b h)
second_kept (joined or_else a b) h = refl
second_kept (quantified q s a) h = refl

-- what is denied is the left side where the right one is falsity
pub denied_given : (a b : FormulaTree) → denied_of (joined implies a b) ≡ given (same_formula bottom b) a
denied_given a bottom = refl
denied_given a (holds t) = refl
denied_given a (joined c b d) = refl
denied_given a (quantified q s b) = refl

denied_kept : (f : FormulaTree) → fits f ≡ true → fitting (denied_of f) ≡ denied_of f
denied_kept bottom h = refl
denied_kept (holds t) h = refl
denied_kept (joined implies a bottom) h = fits_kept a (fits_left_side implies a bottom h)
denied_kept (joined implies a (holds t)) h = refl
denied_kept (joined implies a (joined c b d)) h = refl
denied_kept (joined implies a (quantified q s b)) h = refl
denied_kept (joined and_also a b) h = refl
denied_kept (joined or_else a b) h = refl
denied_kept (quantified q s a) h = refl

fits_from : (a : FormulaTree) (b : Bool) → fits a ≡ b → (if b then Some a else None) ≡ Some a → fits a ≡ true
fits_from a true e h = e
fits_from a false e h = absurd (cc)

then_kept : (o : Option FormulaTree) → fitting o ≡ o → fitting (and_then o denied_of) ≡ and_then o denied_of
then_kept None h = refl
then_kept (Some a) h = denied_kept a (fits_from a (fits a) refl h)

pub stable_kept : (f : FormulaTree) → fits f ≡ true → fitting (and_then (denied_of f) denied_of) ≡ and_then (denied_of f) denied_of
stable_kept f h = then_kept (denied_of f) (denied_kept f h)

given_kept : (t : Bool) (a : FormulaTree) → fits a ≡ true → fitting (given t a) ≡ given t a
given_kept true a h = fits_kept a h
given_kept false a h = refl

pub applied_kept : (f c : FormulaTree) → fits f ≡ true → fitting (applied f c) ≡ applied f c
applied_kept bottom c h = refl
applied_kept (holds t) c h = refl
applied_kept (joined implies a b) c h = given_kept (same_formula a c) b (fits_right_side implies a b h)
applied_kept (joined and_also a b) c h = refl
applied_kept (joined or_else a b) c h = refl
applied_kept (quantified q s a) c h = refl

pub cases_kept : (f g : FormulaTree) → fits f ≡ true → fitting (of_cases f g) ≡ of_cases f g
cases_kept f g h = given_kept (same_formula f g) f h

-- what does not fit is not what fits
pub unfit_differs : (x f : FormulaTree) → fits f ≡ true → fitting (Some x) ≡ None → same_formula x f ≡ false
unfit_differs x f h e = by (same_formula x f) refl where
  by : (t : Bool) → same_formula x f ≡ t → t ≡ false
  by false s = refl
  by true s =
      let fit : fits x ≡ true = subst (λ y. fits y ≡ true) (sym (formula_is x f s)) h in
      let both : ◌≡◌ {A = Option FormulaTree} (Some x) None = sym (fits_kept x fit) ∙ e in
      absurd (cc)

-- the hypotheses
pub hypothesis_kept : (names : List Decl) (variables : List Sort) (hypotheses : List FormulaTree) (k : ℕ) → AreAssumable names variables hypotheses → fitting (slice_get hypotheses k) ≡ slice_get hypotheses k
hypothesis_kept names variables [] k h = refl
hypothesis_kept names variables (a ∷ hypotheses) zero h = fits_kept a (assumable_fits names variables a h.0)
hypothesis_kept names variables (a ∷ hypotheses) (suc k) h = hypothesis_kept names variables hypotheses k h.1

pub hypotheses_room : (names : List Decl) (variables : List Sort) (hypotheses : List FormulaTree) → AreAssumable names variables hypotheses → length variables < 2 ^ 31 + 2 ^ 30 → AllIndicesBelow (2 ^ 32) hypotheses
hypotheses_room names variables [] h few = tt
hypotheses_room names variables (a ∷ hypotheses) h few =
    let low : depth a ≤ 256 = (fits_bounds a (assumable_fits names variables a h.0)).1 in
    let bound : length variables + depth a ≤ 2 ^ 32 = omega (arith, low, few) in
    (sorted_indices names variables a (2 ^ 32) bound (assumable_sorted names variables a h.0), hypotheses_room names variables hypotheses h.1 few)

-- an instance at a term of its sort that fits has indices below 2^32
pub given_room : (names : List Decl) (variables : List Sort) (s : Sort) (a : FormulaTree) (t : TermTree) → well_sorted names (s ∷ variables) a ≡ true → has_sort (sort_of names variables t) s ≡ true → length variables < 2 ^ 31 + 2 ^ 30 → fits (instance a t 0) ≡ true → HasIndicesBelow (2 ^ 32) (instance a t 0)
given_room names variables s a t sorted of few fit = fitting_instance_room names variables s a t sorted fit (sort_known (sort_of names variables t) s of) (omega (arith, few))

-- the same of the body of a universal formula
pub special_room : (names : List Decl) (variables : List Sort) (s : Sort) (a : FormulaTree) (t : TermTree) → is_assumable names variables (quantified for_all s a) ≡ true → has_sort (sort_of names variables t) s ≡ true → length variables < 2 ^ 31 + 2 ^ 30 → fits (instance a t 0) ≡ true → HasIndicesBelow (2 ^ 32) (instance a t 0)
special_room names variables s a t good of few fit = given_room names variables s a t (assumable_sorted names variables (quantified for_all s a) good) of few fit

-- the sides of a well-sorted equation are integers
equation_if : (t u : Bool) → has_sort (if t && u then Some sort.Bool else None) sort.Bool ≡ true → (t ≡ true) × (u ≡ true)
equation_if true true e = (refl, refl)
equation_if true false e = absurd (cc)
equation_if false u e = absurd (cc)

pub equation_left : (names : List Decl) (variables : List Sort) (s t : TermTree) → well_sorted names variables (holds (binary equal s t)) ≡ true → has_sort (sort_of names variables s) sort.Int ≡ true
equation_left names variables s t h = (equation_if (has_sort (sort_of names variables s) sort.Int) (has_sort (sort_of names variables t) sort.Int) h).0

pub equation_right : (names : List Decl) (variables : List Sort) (s t : TermTree) → well_sorted names variables (holds (binary equal s t)) ≡ true → has_sort (sort_of names variables t) sort.Int ≡ true
equation_right names variables s t h = (equation_if (has_sort (sort_of names variables s) sort.Int) (has_sort (sort_of names variables t) sort.Int) h).1

-- what `unshift` answers
pub lowered_some : (r a : FormulaTree) → shift r 1 0 ≡ a → occurs 0 a ≡ false → fits a ≡ true → Some r ≡ fitting (of_unpacked a)
lowered_some r a e absent h =
    let back : instance a (boolean true) 0 ≡ r = subst (λ x. instance x (boolean true) 0 ≡ r) e (undone r (boolean true) 0) in
    let fit : fits r ≡ true = sym (shift_fits r 1 0) ∙ subst (λ x. fits x ≡ true) (sym e) h in
    rw absent (rw back (sym (fits_kept r fit)))

pub lowered_none : (a : FormulaTree) → occurs 0 a ≡ true → None ≡ fitting (of_unpacked a)
lowered_none a e = rw e refl

-- the induction form of what does not fit does not fit
induction_fits : (a : FormulaTree) → fits (induction_form a) ≡ true → fits a ≡ true
induction_fits a h =
    fits_right_side implies _ a (fits_body for_all sort.Int _ (fits_right_side implies _ _ (fits_right_side implies _ _ h)))

unfit_given : (t : Bool) (a : FormulaTree) → fits a ≡ false → fitting (given t a) ≡ None
unfit_given true a h = rw h refl
unfit_given false a h = refl

pub unfit_induction : (t : Bool) (a : FormulaTree) → fits a ≡ false → None ≡ fitting (given t (induction_form a))
unfit_induction t a h = sym (unfit_given t (induction_form a) (by (fits (induction_form a)) refl)) where
  by : (u : Bool) → fits (induction_form a) ≡ u → u ≡ false
  by false e = refl
  by true e = absurd (apart (sym (induction_fits a e) ∙ h))
