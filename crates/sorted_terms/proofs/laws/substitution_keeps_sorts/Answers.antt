use Rattle.sorted_terms.proofs.Substituting.{sort_shift, sort_instance, sort_replaced}
use Rattle.sorted_terms.proofs.laws.substitution_keeps_sorts.Goals as goal

pub returns-clause-shift : goal.returns-clause-shift
returns-clause-shift c = sort_shift

pub returns-clause-instance : goal.returns-clause-instance
returns-clause-instance c names t inserted s front back known = sort_instance names inserted s back known t front

pub returns-clause-replacement : goal.returns-clause-replacement
returns-clause-replacement c names t x inserted front back same = sort_replaced names x inserted back same t front
