use Rattle.arith_axioms.proofs.Differences.{one_difference}
use Rattle.arith_axioms.proofs.laws.least_difference_is_one.Goals as goal

pub returns : goal.returns
returns c = one_difference
