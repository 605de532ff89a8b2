use Rattle.ck_text.proofs.ProofExactness.{one}
use Rattle.ck_text.proofs.laws.one_proof.Goals as goal

pub returns : goal.returns
returns c = one
