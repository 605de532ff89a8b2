use Rattle.commands.proofs.Sessions.{export_is_valid}
use Rattle.commands.proofs.laws.export_is_valid.Goals as goal

pub returns : goal.returns
returns c = export_is_valid
