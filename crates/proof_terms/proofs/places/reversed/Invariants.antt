use Rattle.std.proofs.Common.{◌≡◌, ◌++◌, length, reverse}
use Rattle.proof_terms.proofs.places.reversed.Given as goal

abbrev pub invariant-loop-i : goal.invariant-loop-i
invariant-loop-i l = reverse l.fn.path ≡ l.forward ++ reverse l.left

abbrev pub decreases-loop-i : goal.decreases-loop-i
decreases-loop-i l = length l.left
