use Rattle.std.proofs.Common.{◌≡◌, length}
use Rattle.arith_axioms.specs.Gathering.{factors_order}
use Rattle.arith_axioms.proofs.products.order_factors.Given as goal

abbrev pub invariant-loop-left : goal.invariant-loop-left
invariant-loop-left l = factors_order l.left l.right ≡ factors_order l.p l.q

abbrev pub decreases-loop-left : goal.decreases-loop-left
decreases-loop-left l = length l.left
