use Rattle.std.specs.Prelude.{◌≡◌}
use Rattle.formulas.specs.Tree.{formula_tree}
use Rattle.formulas.specs.Substitution.{HasIndicesBelow}
use Rattle.formulas.specs.Sorts.{size}
use Rattle.trials.proofs.formula_rows.levels.Given as goal

abbrev pub invariant-loop : goal.invariant-loop
invariant-loop l = record { closed : HasIndicesBelow 0 (formula_tree l.a); size : size (formula_tree l.a) ≡ l.counter }
