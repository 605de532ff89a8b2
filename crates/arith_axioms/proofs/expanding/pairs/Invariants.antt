use Rattle.std.proofs.Common.{◌≡◌, ◌*◌, ◌^◌, ◌<◌, ◌++◌, length}
use Rattle.arith_axioms.specs.Polynomials.{all_pairs, absolute_sum}
use Rattle.arith_axioms.specs.Gathering.{AreInOrder}
use Rattle.arith_axioms.proofs.expanding.pairs.Given as goal

abbrev pub invariant-loop-rest : goal.invariant-loop-rest
invariant-loop-rest l =
    (l.all.items ++ all_pairs l.rest l.others ≡ all_pairs l.monomials l.others) × (absolute_sum l.rest * absolute_sum l.others < 2 ^ 127) × AreInOrder l.rest

abbrev pub decreases-loop-rest : goal.decreases-loop-rest
decreases-loop-rest l = length l.rest
