use Rattle.std.proofs.Common.{[]}
use Rattle.sorted_terms.proofs.Substituting.{value_instance}
use Rattle.sorted_terms.proofs.laws.instance_keeps_values.Goals as goal

pub returns : goal.returns
returns c t inserted state environment = value_instance t inserted state [] environment
