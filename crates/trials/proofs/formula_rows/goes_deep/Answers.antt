use Rattle.std.proofs.Common.{◌^◌, pos}
use Rattle.sorted_terms.specs.Tree.{integer}
use Rattle.formulas.specs.Tree.{formula_tree}
use Rattle.formulas.proofs.Places.{closed_shift, closed_instance, closed_replacement}
use Rattle.trials.proofs.formula_rows.goes_deep.Goals as goal

pub shift-requires : goal.shift-requires
shift-requires g c = closed_shift (formula_tree c.in_ok-a.a) 1 0 (2 ^ 32) c.in_ok-a.ensures.closed

pub instantiate-requires : goal.instantiate-requires
instantiate-requires g c = closed_instance (formula_tree c.in_ok-a.a) (integer (pos 1)) 0 (2 ^ 32) c.in_ok-a.ensures.closed

pub replace_var-requires : goal.replace_var-requires
replace_var-requires g c = closed_replacement (formula_tree c.in_ok-a.a) 0 (integer (pos 1)) 0 (2 ^ 32) c.in_ok-a.ensures.closed tt
