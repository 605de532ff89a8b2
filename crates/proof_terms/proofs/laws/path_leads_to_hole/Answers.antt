use Rattle.proof_terms.proofs.Reached.{leads_to_hole}
use Rattle.proof_terms.proofs.laws.path_leads_to_hole.Goals as goal

pub returns : goal.returns
returns c = leads_to_hole
