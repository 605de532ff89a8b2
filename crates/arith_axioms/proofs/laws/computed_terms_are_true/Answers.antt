use Rattle.arith_axioms.proofs.Constants.{computed_true}
use Rattle.arith_axioms.proofs.laws.computed_terms_are_true.Goals as goal

pub returns : goal.returns
returns c = computed_true
