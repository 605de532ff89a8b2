use Rattle.std.proofs.Common.{◌≡◌, ◌*◌, ◌^◌, ◌<◌, ◌++◌, length, unsigned_abs}
use Rattle.arith_axioms.specs.Polynomials.{times_each, absolute_sum}
use Rattle.arith_axioms.specs.Gathering.{AreInOrder}
use Rattle.arith_axioms.proofs.expanding.add_row.Given as goal

abbrev pub invariant-loop-rest : goal.invariant-loop-rest
invariant-loop-rest l =
    (l.all.items ++ times_each l.coefficient l.product l.rest ≡ l.fn.all.items ++ times_each l.coefficient l.product l.others) × (unsigned_abs l.coefficient * absolute_sum l.rest < 2 ^ 127) × AreInOrder l.rest

abbrev pub decreases-loop-rest : goal.decreases-loop-rest
decreases-loop-rest l = length l.rest
