use Rattle.cert_codec.proofs.Whole as whole
use Rattle.cert_codec.proofs.laws.one_spelling.Goals as goal

pub returns : goal.returns
returns c = whole.one_spelling
