use Rattle.ck_text.proofs.ProofLevels.{proof_levels}
use Rattle.ck_text.proofs.laws.proof_levels.Goals as goal

pub returns : goal.returns
returns c = proof_levels
