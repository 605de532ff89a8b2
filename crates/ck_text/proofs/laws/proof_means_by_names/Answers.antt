use Rattle.ck_text.proofs.ProofMeanings.{means_known}
use Rattle.ck_text.proofs.laws.proof_means_by_names.Goals as goal

pub returns : goal.returns
returns c = means_known
