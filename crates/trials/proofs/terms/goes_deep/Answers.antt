use Rattle.std.proofs.Common.{◌^◌, pos}
use Rattle.sorted_terms.specs.Tree.{term_tree, integer}
use Rattle.sorted_terms.proofs.Past.{closed_shift, closed_instance, closed_replacement}
use Rattle.trials.proofs.terms.goes_deep.Goals as goal

pub shift-requires : goal.shift-requires
shift-requires g c = closed_shift (term_tree c.in_ok-t.t) 1 0 (2 ^ 32) c.in_ok-t.ensures

pub instantiate-requires : goal.instantiate-requires
instantiate-requires g c = closed_instance (term_tree c.in_ok-t.t) (integer (pos 1)) 0 (2 ^ 32) c.in_ok-t.ensures

pub replace_var-requires : goal.replace_var-requires
replace_var-requires g c = closed_replacement (term_tree c.in_ok-t.t) 0 (integer (pos 1)) 0 (2 ^ 32) c.in_ok-t.ensures tt
