-- Truth of formulas without quantifiers, by computation.
use Rattle.std.specs.Prelude.{Bool, true, false, not, ◌&&◌, ◌||◌}
use Rattle.sorted_terms.specs.Values.{as_truth, State, Environment, value}
use Rattle.formulas.specs.Tree.{Connective, implies, and_also, or_else, FormulaTree, bottom, holds, joined, quantified}

-- a quantifier stands in the formula
abbrev pub has_quantifier : FormulaTree → Bool
has_quantifier bottom = false
has_quantifier (holds t) = false
has_quantifier (joined c a b) = has_quantifier a || has_quantifier b
has_quantifier (quantified q s a) = true

-- the truth table of a connective
abbrev pub joined_truth : Connective → Bool → Bool → Bool
joined_truth implies x y = not x || y
joined_truth and_also x y = x && y
joined_truth or_else x y = x || y

-- the truth value of a formula without quantifiers; false at a quantifier, where nothing is computed
abbrev pub computed : FormulaTree → State → Environment → Bool
computed bottom state environment = false
computed (holds t) state environment = as_truth (value t state environment)
computed (joined c a b) state environment = joined_truth c (computed a state environment) (computed b state environment)
computed (quantified q s a) state environment = false
