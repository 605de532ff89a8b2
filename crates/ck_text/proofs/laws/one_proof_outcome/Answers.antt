use Rattle.ck_text.proofs.ProofOutcomes.{one_outcome}
use Rattle.ck_text.proofs.laws.one_proof_outcome.Goals as goal

pub returns : goal.returns
returns c = one_outcome
