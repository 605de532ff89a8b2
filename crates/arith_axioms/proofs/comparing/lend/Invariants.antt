use Rattle.std.proofs.Common.{◌≡◌, ◌++◌, take, map}
use Rattle.arith_axioms.specs.Gathering.{shown}
use Rattle.arith_axioms.proofs.comparing.lend.Given as goal

abbrev pub invariant-loop-coefficient : goal.invariant-loop-coefficient
invariant-loop-coefficient l = map shown l.entries.items ≡ map shown l.fn.entries.items ++ take l.coefficient-index l.monomials
