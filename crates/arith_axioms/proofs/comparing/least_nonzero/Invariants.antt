use Rattle.std.proofs.Common.{◌≡◌, ◌+◌, ◌^◌, ◌<◌, length, map, unsigned_abs}
use Rattle.arith_axioms.specs.Polynomials.{Product, total_in, absolute_sum}
use Rattle.arith_axioms.specs.Gathering.{shown, IsRising, carry}
use Rattle.arith_axioms.proofs.comparing.least_nonzero.Given as goal

abbrev pub invariant-loop-rest : goal.invariant-loop-rest
invariant-loop-rest l =
    ((p : Product) → total_in (carry l.sum (map shown l.rest)) p ≡ total_in (map shown l.entries) p) × IsRising (map shown l.rest) × (unsigned_abs l.sum + absolute_sum (map shown l.rest) < 2 ^ 127)

abbrev pub decreases-loop-rest : goal.decreases-loop-rest
decreases-loop-rest l = length l.rest
