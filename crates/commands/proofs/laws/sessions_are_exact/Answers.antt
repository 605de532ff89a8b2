use Rattle.commands.proofs.Determined.{plays_exactly}
use Rattle.commands.proofs.laws.sessions_are_exact.Goals as goal

pub returns : goal.returns
returns c = plays_exactly
