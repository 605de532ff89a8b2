use Rattle.ck_text.proofs.Outcomes.{reads_outcomes}
use Rattle.ck_text.proofs.laws.reads_outcomes.Goals as goal

pub returns : goal.returns
returns c = reads_outcomes
