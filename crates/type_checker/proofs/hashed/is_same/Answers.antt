use Rattle.formulas.specs.Tree.{formula_tree}
use Rattle.type_checker.specs.SameLaws.{same_is}
use Rattle.type_checker.proofs.hashed.is_same.Goals as goal

pub returns : goal.returns
returns c = same_is c.same.result (formula_tree c.args.a.now) (formula_tree c.args.b.now) c.same.ensures
