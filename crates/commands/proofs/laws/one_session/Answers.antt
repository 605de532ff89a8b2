use Rattle.commands.proofs.Determined.{one_session}
use Rattle.commands.proofs.laws.one_session.Goals as goal

pub returns : goal.returns
returns c = one_session
