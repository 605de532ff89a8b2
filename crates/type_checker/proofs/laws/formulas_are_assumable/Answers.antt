use Rattle.type_checker.proofs.Sorted.{assumable}
use Rattle.type_checker.proofs.laws.formulas_are_assumable.Goals as goal

pub returns : goal.returns
returns c = assumable
