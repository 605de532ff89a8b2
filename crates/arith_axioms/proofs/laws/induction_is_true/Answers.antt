use Rattle.arith_axioms.proofs.Truths.{induction_true}
use Rattle.arith_axioms.proofs.laws.induction_is_true.Goals as goal

pub returns : goal.returns
returns c = induction_true
