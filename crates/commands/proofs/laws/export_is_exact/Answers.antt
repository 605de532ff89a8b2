use Rattle.commands.proofs.Sessions.{export_is_exact}
use Rattle.commands.proofs.laws.export_is_exact.Goals as goal

pub returns : goal.returns
returns c = export_is_exact
