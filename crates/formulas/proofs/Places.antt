-- Substitution at a place that is above every index.
use Rattle.std.proofs.Common.{◌≡◌, ℕ, suc, ◌≤◌, ◌^◌, Bool, false, ◌||◌, arith, ap, ap₂, sym, subst, refl}
use Rattle.sorted_terms.specs.Tree.{TermTree}
use Rattle.sorted_terms.specs.Substitution.{HasTermIndicesBelow}
use Rattle.sorted_terms.proofs.Past as Past
use Rattle.sorted_terms.proofs.Past.{term_shift_past, term_instance_past, term_absent_past, term_replaced_past}
use Rattle.formulas.specs.Tree.{FormulaTree, bottom, holds, joined, quantified}
use Rattle.formulas.specs.Substitution.{shift, instance, replaced, occurs, HasIndicesBelow}

module _ (bound : ℕ) where
  shift_above : (a : FormulaTree) (by above : ℕ) → bound ≤ above → HasIndicesBelow bound a → shift a by above ≡ a
  shift_above bottom by above h i = refl
  shift_above (holds t) by above h i = ap holds (term_shift_past bound t by above h i)
  shift_above (joined c a b) by above h i = ap₂ (joined c) (shift_above a by above h i.0) (shift_above b by above h i.1)
  shift_above (quantified q s a) by above h i = ap (quantified q s) (shift_above a by (suc above) (omega (arith, h)) i)

  instance_above : (a : FormulaTree) (inserted : TermTree) (place : ℕ) → bound ≤ place → HasIndicesBelow bound a → instance a inserted place ≡ a
  instance_above bottom inserted place h i = refl
  instance_above (holds t) inserted place h i = ap holds (term_instance_past bound t inserted place h i)
  instance_above (joined c a b) inserted place h i = ap₂ (joined c) (instance_above a inserted place h i.0) (instance_above b inserted place h i.1)
  instance_above (quantified q s a) inserted place h i = ap (quantified q s) (instance_above a inserted (suc place) (omega (arith, h)) i)

  absent_above : (a : FormulaTree) (place : ℕ) → bound ≤ place → HasIndicesBelow bound a → occurs place a ≡ false
  absent_above bottom place h i = refl
  absent_above (holds t) place h i = term_absent_past bound t place h i
  absent_above (joined c a b) place h i = rw (absent_above a place h i.0) (absent_above b place h i.1)
  absent_above (quantified q s a) place h i = absent_above a (suc place) (omega (arith, h)) i

  replaced_above : (a : FormulaTree) (x : ℕ) (inserted : TermTree) (under other : ℕ) → bound ≤ under → HasIndicesBelow bound (replaced a x inserted under) → replaced a x inserted other ≡ replaced a x inserted under
  replaced_above bottom x inserted under other h i = refl
  replaced_above (holds t) x inserted under other h i = ap holds (term_replaced_past bound t x inserted under other h i)
  replaced_above (joined c a b) x inserted under other h i = ap₂ (joined c) (replaced_above a x inserted under other h i.0) (replaced_above b x inserted under other h i.1)
  replaced_above (quantified q s a) x inserted under other h i = ap (quantified q s) (replaced_above a x inserted (suc under) (suc other) (omega (arith, h)) i)

-- The same in words of 32 bits, one place further in.
pub shift_past : (a : FormulaTree) (by above : ℕ) → 2 ^ 32 ≤ suc above → HasIndicesBelow (2 ^ 32) a → shift a by (suc above) ≡ a
shift_past a by above h i = shift_above (2 ^ 32) a by (suc above) h i

pub instance_past : (a : FormulaTree) (inserted : TermTree) (at : ℕ) → 2 ^ 32 ≤ suc at → HasIndicesBelow (2 ^ 32) a → instance a inserted (suc at) ≡ a
instance_past a inserted at h i = instance_above (2 ^ 32) a inserted (suc at) h i

pub absent_past : (a : FormulaTree) (at : ℕ) → 2 ^ 32 ≤ suc at → HasIndicesBelow (2 ^ 32) a → occurs (suc at) a ≡ false
absent_past a at h i = absent_above (2 ^ 32) a (suc at) h i

pub replaced_past : (a : FormulaTree) (x : ℕ) (inserted : TermTree) (under : ℕ) → 2 ^ 32 ≤ suc under → HasIndicesBelow (2 ^ 32) (replaced a x inserted (suc under)) → replaced a x inserted under ≡ replaced a x inserted (suc under)
replaced_past a x inserted under h i = replaced_above (2 ^ 32) a x inserted (suc under) under h i

pub replaced_room : (a : FormulaTree) (x : ℕ) (inserted : TermTree) (under : ℕ) → 2 ^ 32 ≤ suc under → HasIndicesBelow (2 ^ 32) (replaced a x inserted (suc under)) → HasIndicesBelow (2 ^ 32) (replaced a x inserted under)
replaced_room a x inserted under h i = subst (HasIndicesBelow (2 ^ 32)) (sym (replaced_past a x inserted under h i)) i

-- A formula without an index is as it was after a shift and after an instance, and has none after a
-- replacement by a term without one.
pub closed_shift : (a : FormulaTree) (by above bound : ℕ) → HasIndicesBelow 0 a → HasIndicesBelow bound (shift a by above)
closed_shift bottom by above bound i = tt
closed_shift (holds t) by above bound i = Past.closed_shift t by above bound i
closed_shift (joined c a b) by above bound i = (closed_shift a by above bound i.0, closed_shift b by above bound i.1)
closed_shift (quantified q s a) by above bound i = closed_shift a by (suc above) bound i

pub closed_instance : (a : FormulaTree) (inserted : TermTree) (place bound : ℕ) → HasIndicesBelow 0 a → HasIndicesBelow bound (instance a inserted place)
closed_instance bottom inserted place bound i = tt
closed_instance (holds t) inserted place bound i = Past.closed_instance t inserted place bound i
closed_instance (joined c a b) inserted place bound i = (closed_instance a inserted place bound i.0, closed_instance b inserted place bound i.1)
closed_instance (quantified q s a) inserted place bound i = closed_instance a inserted (suc place) bound i

pub closed_replacement : (a : FormulaTree) (x : ℕ) (inserted : TermTree) (under bound : ℕ) → HasIndicesBelow 0 a → HasTermIndicesBelow 0 inserted → HasIndicesBelow bound (replaced a x inserted under)
closed_replacement bottom x inserted under bound i j = tt
closed_replacement (holds t) x inserted under bound i j = Past.closed_replacement t x inserted under bound i j
closed_replacement (joined c a b) x inserted under bound i j = (closed_replacement a x inserted under bound i.0 j, closed_replacement b x inserted under bound i.1 j)
closed_replacement (quantified q s a) x inserted under bound i j = closed_replacement a x inserted (suc under) bound i j
