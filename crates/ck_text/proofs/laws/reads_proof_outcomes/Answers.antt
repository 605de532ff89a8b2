use Rattle.ck_text.proofs.ProofAnswers.{reads_proof_outcomes}
use Rattle.ck_text.proofs.laws.reads_proof_outcomes.Goals as goal

pub returns : goal.returns
returns c = reads_proof_outcomes
