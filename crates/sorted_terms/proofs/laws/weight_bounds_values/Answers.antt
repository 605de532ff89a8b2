use Rattle.sorted_terms.proofs.Weighing.{bounded}
use Rattle.sorted_terms.proofs.laws.weight_bounds_values.Goals as goal

pub returns : goal.returns
returns c = bounded
