use Rattle.formulas.proofs.Stability.{stable}
use Rattle.formulas.proofs.laws.truth_is_stable.Goals as goal

pub returns : goal.returns
returns c = stable
