use Rattle.cert_check.proofs.Sound.{meets}
use Rattle.cert_check.proofs.laws.deriving_is_sound.Goals as goal

pub returns : goal.returns
returns c = meets
