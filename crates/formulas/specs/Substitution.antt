-- Substitution on formulas. Under a quantifier every place is one further in.
use Rattle.std.specs.Prelude.{ℕ, suc, Bool, false, ◌||◌}
use Rattle.sorted_terms.specs.Tree.{TermTree}
use Rattle.sorted_terms.specs.Substitution.{shift_term, instance_term, replace_term, occurs_term, HasTermIndicesBelow}
use Rattle.formulas.specs.Tree.{FormulaTree, bottom, holds, joined, quantified}

-- every index that is at least `above` goes up by `by`
abbrev pub shift : FormulaTree → ℕ → ℕ → FormulaTree
shift bottom by above = bottom
shift (holds t) by above = holds (shift_term t by above)
shift (joined c a b) by above = joined c (shift a by above) (shift b by above)
shift (quantified q s a) by above = quantified q s (shift a by (suc above))

-- `inserted`, shifted by `place`, stands for index `place`, and higher indices go down by one
abbrev pub instance : FormulaTree → TermTree → ℕ → FormulaTree
instance bottom inserted place = bottom
instance (holds t) inserted place = holds (instance_term t inserted place)
instance (joined c a b) inserted place = joined c (instance a inserted place) (instance b inserted place)
instance (quantified q s a) inserted place = quantified q s (instance a inserted (suc place))

-- `inserted`, shifted by `under`, stands for the declared name `x`
abbrev pub replaced : FormulaTree → ℕ → TermTree → ℕ → FormulaTree
replaced bottom x inserted under = bottom
replaced (holds t) x inserted under = holds (replace_term t x inserted under)
replaced (joined c a b) x inserted under = joined c (replaced a x inserted under) (replaced b x inserted under)
replaced (quantified q s a) x inserted under = quantified q s (replaced a x inserted (suc under))

-- the index occurs free in the formula
abbrev pub occurs : ℕ → FormulaTree → Bool
occurs place bottom = false
occurs place (holds t) = occurs_term place t
occurs place (joined c a b) = occurs place a || occurs place b
occurs place (quantified q s a) = occurs (suc place) a

-- every index of the formula is below `bound`
abbrev pub HasIndicesBelow : ℕ → FormulaTree → Type 0
HasIndicesBelow bound bottom = Unit {0}
HasIndicesBelow bound (holds t) = HasTermIndicesBelow bound t
HasIndicesBelow bound (joined c a b) = HasIndicesBelow bound a × HasIndicesBelow bound b
HasIndicesBelow bound (quantified q s a) = HasIndicesBelow bound a
