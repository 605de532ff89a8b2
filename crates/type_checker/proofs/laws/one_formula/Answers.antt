use Rattle.type_checker.proofs.Single as single
use Rattle.type_checker.proofs.laws.one_formula.Goals as goal

pub returns : goal.returns
returns c = single.one_formula
