-- Substitution keeps truth and sorts, by induction on the formula: under a quantifier the front has one item more.
use Rattle.std.proofs.Common.{◌≡◌, ℕ, suc, ◌<◌, false, ◌&&◌, List, ◌∷◌, ◌++◌, length, Some, set, true, ap, sym, ◌∙◌, refl}
use Rattle.ck_base.specs.declared.decl.Sort.{Sort}
use Rattle.ck_base.specs.declared.decl.Sort.TheVariants as sort
use Rattle.ck_base.specs.declared.decl.Decl.{Decl}
use Rattle.sorted_terms.specs.Tree.{TermTree, name}
use Rattle.sorted_terms.specs.Values.{as_truth, State, Environment, value}
use Rattle.sorted_terms.specs.Sorts.{has_sort, sort_of}
use Rattle.sorted_terms.proofs.Substituting.{value_shift, value_instance, value_replaced, sort_shift, sort_instance, sort_replaced, term_undone, term_room}
use Rattle.formulas.specs.Tree.{FormulaTree, bottom, holds, joined, quantified}
use Rattle.formulas.specs.Truth.{Joins, Ranges, Truth}
use Rattle.formulas.specs.Sorts.{well_sorted}
use Rattle.formulas.specs.Substitution.{shift, instance, replaced, occurs}

-- Truth, as equalities of statements

pub truth_shift : (a : FormulaTree) (state : State) (front new back : Environment) → Truth (shift a (length new) (length front)) state (front ++ (new ++ back)) ≡ Truth a state (front ++ back)
truth_shift bottom state front new back = refl
truth_shift (holds t) state front new back = ap (λ v. as_truth v ≡ true) (value_shift t state front new back)
truth_shift (joined c a b) state front new back = λ i. Joins c (truth_shift a state front new back i) (truth_shift b state front new back i)
truth_shift (quantified q s a) state front new back = λ i. Ranges q s (λ v. truth_shift a state (v ∷ front) new back i)

pub truth_instance : (a : FormulaTree) (inserted : TermTree) (state : State) (front back : Environment) → Truth (instance a inserted (length front)) state (front ++ back) ≡ Truth a state (front ++ value inserted state back ∷ back)
truth_instance bottom inserted state front back = refl
truth_instance (holds t) inserted state front back = ap (λ v. as_truth v ≡ true) (value_instance t inserted state front back)
truth_instance (joined c a b) inserted state front back = λ i. Joins c (truth_instance a inserted state front back i) (truth_instance b inserted state front back i)
truth_instance (quantified q s a) inserted state front back = λ i. Ranges q s (λ v. truth_instance a inserted state (v ∷ front) back i)

pub truth_replaced : (a : FormulaTree) (x : ℕ) (inserted : TermTree) (state : State) (front back : Environment) → x < length state → Truth (replaced a x inserted (length front)) state (front ++ back) ≡ Truth a (set state x (value inserted state back)) (front ++ back)
truth_replaced bottom x inserted state front back h = refl
truth_replaced (holds t) x inserted state front back h = ap (λ v. as_truth v ≡ true) (value_replaced t x inserted state front back h)
truth_replaced (joined c a b) x inserted state front back h = λ i. Joins c (truth_replaced a x inserted state front back h i) (truth_replaced b x inserted state front back h i)
truth_replaced (quantified q s a) x inserted state front back h = λ i. Ranges q s (λ v. truth_replaced a x inserted state (v ∷ front) back h i)

-- Sorts

module _ (names : List Decl) where
  pub sorted_shift : (a : FormulaTree) (front new back : List Sort) → well_sorted names (front ++ (new ++ back)) (shift a (length new) (length front)) ≡ well_sorted names (front ++ back) a
  sorted_shift bottom front new back = refl
  sorted_shift (holds t) front new back = ap (λ o. has_sort o sort.Bool) (sort_shift names t front new back)
  sorted_shift (joined c a b) front new back = λ i. sorted_shift a front new back i && sorted_shift b front new back i
  sorted_shift (quantified q s a) front new back = sorted_shift a (s ∷ front) new back

  module _ (inserted : TermTree) (s : Sort) (back : List Sort) (known : sort_of names back inserted ≡ Some s) where
    pub sorted_instance : (a : FormulaTree) (front : List Sort) → well_sorted names (front ++ back) (instance a inserted (length front)) ≡ well_sorted names (front ++ s ∷ back) a
    sorted_instance bottom front = refl
    sorted_instance (holds t) front = ap (λ o. has_sort o sort.Bool) (sort_instance names inserted s back known t front)
    sorted_instance (joined c a b) front = λ i. sorted_instance a front i && sorted_instance b front i
    sorted_instance (quantified q r a) front = sorted_instance a (r ∷ front)

  module _ (x : ℕ) (inserted : TermTree) (back : List Sort) (same : sort_of names back inserted ≡ sort_of names back (name x)) where
    pub sorted_replaced : (a : FormulaTree) (front : List Sort) → well_sorted names (front ++ back) (replaced a x inserted (length front)) ≡ well_sorted names (front ++ back) a
    sorted_replaced bottom front = refl
    sorted_replaced (holds t) front = ap (λ o. has_sort o sort.Bool) (sort_replaced names x inserted back same t front)
    sorted_replaced (joined c a b) front = λ i. sorted_replaced a front i && sorted_replaced b front i
    sorted_replaced (quantified q s a) front = sorted_replaced a (s ∷ front)

-- A shift by one is undone

pub undone : (a : FormulaTree) (inserted : TermTree) (above : ℕ) → instance (shift a 1 above) inserted above ≡ a
undone bottom inserted above = refl
undone (holds t) inserted above = ap holds (term_undone t inserted above)
undone (joined c a b) inserted above = λ i. joined c (undone a inserted above i) (undone b inserted above i)
undone (quantified q s a) inserted above = ap (quantified q s) (undone a inserted (suc above))

pub same_shifted : (a b : FormulaTree) (above : ℕ) → shift a 1 above ≡ shift b 1 above → a ≡ b
same_shifted a b above e = sym (undone a (name 0) above) ∙ ap (λ c. instance c (name 0) above) e ∙ undone b (name 0) above

pub room : (a : FormulaTree) (above : ℕ) → occurs above (shift a 1 above) ≡ false
room bottom above = refl
room (holds t) above = term_room t above
room (joined c a b) above = rw (room a above, room b above) refl
room (quantified q s a) above = room a (suc above)
