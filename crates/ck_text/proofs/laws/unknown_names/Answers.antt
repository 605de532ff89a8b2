use Rattle.ck_text.proofs.Unknowns.{unknown_names}
use Rattle.ck_text.proofs.laws.unknown_names.Goals as goal

pub returns : goal.returns
returns c = unknown_names
