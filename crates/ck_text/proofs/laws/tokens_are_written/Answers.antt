use Rattle.ck_text.proofs.Scanning.{tokens_are_written}
use Rattle.ck_text.proofs.laws.tokens_are_written.Goals as goal

pub returns : goal.returns
returns c = tokens_are_written
