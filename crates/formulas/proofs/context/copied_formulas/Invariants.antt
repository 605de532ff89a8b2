use Rattle.std.proofs.Common.{◌≡◌, take, map}
use Rattle.formulas.specs.Tree.{formula_tree}
use Rattle.formulas.proofs.context.copied_formulas.Given as goal

abbrev pub invariant-loop-formula : goal.invariant-loop-formula
invariant-loop-formula l = map formula_tree l.copied ≡ map formula_tree (take l.formula-index l.formulas)
