use Rattle.proof_terms.proofs.Reached.{one_path}
use Rattle.proof_terms.proofs.laws.path_is_unique.Goals as goal

pub returns : goal.returns
returns c = one_path
