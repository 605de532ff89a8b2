use Rattle.formulas.proofs.Computed.{decided}
use Rattle.formulas.proofs.laws.truth_is_computed.Goals as goal

pub returns : goal.returns
returns c = decided
