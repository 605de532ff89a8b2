use Rattle.commands.proofs.Sessions.{refusals_change_nothing}
use Rattle.commands.proofs.laws.refusals_change_nothing.Goals as goal

pub returns : goal.returns
returns c = refusals_change_nothing
