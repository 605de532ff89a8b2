use Rattle.std.proofs.Common.{◌≡◌, ◌^◌, take, drop, map}
use Rattle.formulas.specs.Tree.{formula_tree}
use Rattle.formulas.specs.Context.{raised, AllIndicesBelow}
use Rattle.formulas.proofs.context.raised_formulas.Given as goal

abbrev pub invariant-loop-formula : goal.invariant-loop-formula
invariant-loop-formula l = record {
  done : map formula_tree l.raised ≡ raised (map formula_tree (take l.formula-index l.formulas));
  room : AllIndicesBelow (2 ^ 32) (raised (map formula_tree (drop l.formula-index l.formulas)));
}
