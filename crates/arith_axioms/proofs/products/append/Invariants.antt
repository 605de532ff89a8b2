use Rattle.std.proofs.Common.{◌≡◌, ◌++◌, take}
use Rattle.arith_axioms.proofs.products.append.Given as goal

abbrev pub invariant-loop-f : goal.invariant-loop-f
invariant-loop-f l = l.all ≡ l.fn.all ++ take l.f-index l.p
