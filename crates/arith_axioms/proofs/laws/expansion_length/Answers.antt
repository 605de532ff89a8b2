use Rattle.arith_axioms.proofs.Expansions.{expansion_length}
use Rattle.arith_axioms.proofs.laws.expansion_length.Goals as goal

pub returns : goal.returns
returns c = expansion_length
