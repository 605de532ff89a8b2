use Rattle.sorted_terms.proofs.Substituting.{value_shift}
use Rattle.sorted_terms.proofs.laws.shift_keeps_values.Goals as goal

pub returns : goal.returns
returns c = value_shift
