use Rattle.ck_text.proofs.ProofNodes.{proof_nodes}
use Rattle.ck_text.proofs.laws.few_proof_nodes.Goals as goal

pub returns : goal.returns
returns c = proof_nodes
