use Rattle.std.proofs.Common.{◌≡◌, ◌+◌, ◌+ℤ◌, ◌^◌, ◌<◌, length, unsigned_abs}
use Rattle.arith_axioms.specs.Polynomials.{total_in, absolute_sum}
use Rattle.arith_axioms.proofs.comparing.total.Given as goal

abbrev pub invariant-loop-rest : goal.invariant-loop-rest
invariant-loop-rest l =
    (l.sum +ℤ total_in l.rest l.product ≡ total_in l.monomials l.product) × (unsigned_abs l.sum + absolute_sum l.rest < 2 ^ 127)

abbrev pub decreases-loop-rest : goal.decreases-loop-rest
decreases-loop-rest l = length l.rest
