use Rattle.cert_codec.proofs.Whole as whole
use Rattle.cert_codec.proofs.laws.no_proper_prefix.Goals as goal

pub returns : goal.returns
returns c = whole.no_proper_prefix
