use Rattle.ck_text.proofs.Exactness.{one}
use Rattle.ck_text.proofs.laws.one_text.Goals as goal

pub returns : goal.returns
returns c = one
