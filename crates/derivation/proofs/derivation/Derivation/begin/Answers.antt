use Rattle.std.proofs.Common.{◌≡◌, arith}
use Rattle.formulas.specs.Tree.{formula_tree}
use Rattle.derivation.proofs.Derived.{begun_derived}
use Rattle.derivation.proofs.derivation.Derivation.begin.Goals as goal

pub returns-clause-kept : goal.returns-clause-kept
returns-clause-kept c = record {
  derived = begun_derived (formula_tree c.args.pre) (formula_tree c.args.post) c.requires.pre.0 c.requires.pre.1 c.requires.post.0 c.requires.post.1;
  count = omega (arith, c.size.ensures, c.size-2.ensures);
  closed = tt;
}
