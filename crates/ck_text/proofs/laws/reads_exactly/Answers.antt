use Rattle.ck_text.proofs.Exactness.{exactly}
use Rattle.ck_text.proofs.laws.reads_exactly.Goals as goal

pub returns : goal.returns
returns c = exactly
