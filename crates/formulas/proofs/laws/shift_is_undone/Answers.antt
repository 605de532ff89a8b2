use Rattle.formulas.proofs.Substituting.{undone, same_shifted}
use Rattle.formulas.proofs.laws.shift_is_undone.Goals as goal

pub returns-clause-by_instance : goal.returns-clause-by_instance
returns-clause-by_instance c = undone

pub returns-clause-one_to_one : goal.returns-clause-one_to_one
returns-clause-one_to_one c = same_shifted
