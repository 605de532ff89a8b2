use Rattle.std.proofs.Common.{◌≡◌, length, map, reverse}
use Rattle.formulas.specs.Tree.{formula_tree}
use Rattle.proof_terms.specs.Tree.{proof_tree}
use Rattle.derivation.specs.Derivation.{abstracted}
use Rattle.derivation.proofs.derivation.abstracted.Given as goal

abbrev pub invariant-loop-a : goal.invariant-loop-a
invariant-loop-a l =
    abstracted (reverse (map formula_tree l.hypotheses)) (proof_tree l.proof) ≡ abstracted (reverse (map formula_tree l.fn.hypotheses)) (proof_tree l.fn.proof)

abbrev pub decreases-loop-a : goal.decreases-loop-a
decreases-loop-a l = length l.hypotheses
