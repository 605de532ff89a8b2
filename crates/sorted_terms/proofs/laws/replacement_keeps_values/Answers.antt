use Rattle.std.proofs.Common.{[]}
use Rattle.sorted_terms.proofs.Substituting.{value_replaced}
use Rattle.sorted_terms.proofs.laws.replacement_keeps_values.Goals as goal

pub returns : goal.returns
returns c t x inserted state environment h = value_replaced t x inserted state [] environment h
