use Rattle.arith_axioms.proofs.Expansions.{kept}
use Rattle.arith_axioms.proofs.laws.expansion_keeps_value.Goals as goal

pub returns : goal.returns
returns c = kept
