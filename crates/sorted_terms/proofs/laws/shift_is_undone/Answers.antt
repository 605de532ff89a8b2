use Rattle.sorted_terms.proofs.Substituting.{term_undone, same_shifted}
use Rattle.sorted_terms.proofs.laws.shift_is_undone.Goals as goal

pub returns-clause-by_instance : goal.returns-clause-by_instance
returns-clause-by_instance c = term_undone

pub returns-clause-one_to_one : goal.returns-clause-one_to_one
returns-clause-one_to_one c = same_shifted
