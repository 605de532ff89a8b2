use Rattle.arith_axioms.proofs.Expansions.{within_weight, total_bounded}
use Rattle.arith_axioms.proofs.laws.totals_are_bounded.Goals as goal

pub returns-clause-sum : goal.returns-clause-sum
returns-clause-sum c = within_weight

pub returns-clause-each : goal.returns-clause-each
returns-clause-each c = total_bounded
