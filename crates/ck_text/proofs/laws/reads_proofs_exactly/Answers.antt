use Rattle.ck_text.proofs.ProofExactness.{exactly}
use Rattle.ck_text.proofs.laws.reads_proofs_exactly.Goals as goal

pub returns : goal.returns
returns c = exactly
