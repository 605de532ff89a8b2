use Rattle.std.proofs.Common.{◌≡◌, ◌+◌, ◌++◌, length}
use Rattle.arith_axioms.specs.Polynomials.{joined_products}
use Rattle.arith_axioms.specs.Gathering.{IsInOrder}
use Rattle.arith_axioms.proofs.products.joined.Given as goal

abbrev pub invariant-loop-left : goal.invariant-loop-left
invariant-loop-left l =
    (l.all ++ joined_products l.left l.right ≡ joined_products l.p l.q) × IsInOrder l.left × IsInOrder l.right

abbrev pub decreases-loop-left : goal.decreases-loop-left
decreases-loop-left l = length l.left + length l.right
