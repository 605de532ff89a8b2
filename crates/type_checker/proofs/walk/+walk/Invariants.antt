use Rattle.proof_terms.specs.Tree.{proof_tree}
use Rattle.type_checker.specs.Place.{proof_nodes}
use Rattle.type_checker.proofs.walk.+walk.Given as goal

abbrev pub decreases-walk : goal.decreases-walk
decreases-walk l = proof_nodes (proof_tree l.p.now)
