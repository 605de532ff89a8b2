use Rattle.ck_text.proofs.ProofReturning.{proof_reads_back}
use Rattle.ck_text.proofs.laws.proof_reads_back.Goals as goal

pub returns : goal.returns
returns c = proof_reads_back
