use Rattle.ck_text.proofs.Rescanning.{printed_scans}
use Rattle.ck_text.proofs.laws.printed_scans.Goals as goal

pub returns : goal.returns
returns c = printed_scans
