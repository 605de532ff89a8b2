use Rattle.proof_terms.proofs.Filled.{holes_replaced}
use Rattle.proof_terms.proofs.laws.fragment_holes_replace_hole.Goals as goal

pub returns : goal.returns
returns c = holes_replaced
