-- The formulas that are kept under numbers, and what is told of a formula by numbers of its parts.
use Rattle.std.specs.Prelude.{◌≡◌, ℕ, ◌<◌, List, length, Option, Some, None, slice_get, true}
use Rattle.formulas.specs.Tree.{FormulaTree, formula_tree, bottom, holds, joined, quantified}
use Rattle.formulas.specs.Sorts.{fits}
use Rattle.formulas.specs.declared.formula.Formula.{Formula}

-- the formula, or falsity where there is none
abbrev pub or_bottom : Option Formula → FormulaTree
or_bottom None = bottom
or_bottom (Some a) = formula_tree a

-- the formula with that number
abbrev pub formula_at : List Formula → ℕ → FormulaTree
formula_at formulas number = or_bottom (slice_get formulas number)

-- the formula is the one with that number, and the number is one of those given
abbrev pub IsAt : List Formula → ℕ → FormulaTree → Type 0
IsAt formulas number a = (number < length formulas) × (formula_at formulas number ≡ a)

-- The parts of the formula are the formulas with these numbers. A quantifier has its part on the left; a number
-- that is not used is 0.
abbrev pub HasParts : List Formula → FormulaTree → ℕ → ℕ → Type 0
HasParts formulas bottom left right = (left ≡ 0) × (right ≡ 0)
HasParts formulas (holds t) left right = (left ≡ 0) × (right ≡ 0)
HasParts formulas (joined c a b) left right = IsAt formulas left a × IsAt formulas right b
HasParts formulas (quantified q s a) left right = IsAt formulas left a × (right ≡ 0)

-- the formula has a number, if it fits
abbrev pub IsNumbered : List Formula → FormulaTree → Type 0
IsNumbered formulas a = fits a ≡ true → (number : ℕ) × IsAt formulas number a
