use Rattle.sorted_terms.proofs.Substituting.{value_sorted}
use Rattle.sorted_terms.proofs.laws.values_have_sorts.Goals as goal

pub returns : goal.returns
returns c = value_sorted
