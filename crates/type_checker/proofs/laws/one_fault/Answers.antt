use Rattle.type_checker.proofs.Firsts.{typed_or_not, not_both, one_place_only}
use Rattle.type_checker.proofs.laws.one_fault.Goals as goal

pub returns-clause-some : goal.returns-clause-some
returns-clause-some c = typed_or_not

pub returns-clause-apart : goal.returns-clause-apart
returns-clause-apart c = not_both

pub returns-clause-single : goal.returns-clause-single
returns-clause-single c = one_place_only
