use Rattle.script_reader.proofs.Readers.{one_meaning}
use Rattle.script_reader.proofs.laws.one_meaning.Goals as goal

pub returns : goal.returns
returns c = one_meaning
