use Rattle.formulas.specs.Tree.{formula_tree}
use Rattle.formulas.specs.Sorts.{size}
use Rattle.formulas.proofs.substitution.+replace_var.Given as goal

abbrev pub decreases-replace_var : goal.decreases-replace_var
decreases-replace_var l = size (formula_tree l.a.now)
