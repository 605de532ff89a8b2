use Rattle.type_checker.proofs.Sound.{sound}
use Rattle.type_checker.proofs.laws.typing_is_sound.Goals as goal

pub returns : goal.returns
returns c = sound
