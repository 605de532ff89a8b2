use Rattle.cert_check.proofs.Sound.{keeps_promise}
use Rattle.cert_check.proofs.laws.valid_files_keep_their_promise.Goals as goal

pub returns : goal.returns
returns c = keeps_promise
