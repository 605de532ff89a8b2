use Rattle.arith_axioms.proofs.Truths.{axiom_true}
use Rattle.arith_axioms.proofs.laws.axioms_are_true.Goals as goal

pub returns : goal.returns
returns c = axiom_true
