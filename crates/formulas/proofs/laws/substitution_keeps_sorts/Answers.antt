use Rattle.formulas.proofs.Substituting.{sorted_shift, sorted_instance, sorted_replaced}
use Rattle.formulas.proofs.laws.substitution_keeps_sorts.Goals as goal

pub returns-clause-shift : goal.returns-clause-shift
returns-clause-shift c = sorted_shift

pub returns-clause-instance : goal.returns-clause-instance
returns-clause-instance c names a inserted s front back known = sorted_instance names inserted s back known a front

pub returns-clause-replacement : goal.returns-clause-replacement
returns-clause-replacement c names a x inserted front back same = sorted_replaced names x inserted back same a front
