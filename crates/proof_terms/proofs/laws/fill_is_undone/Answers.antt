use Rattle.proof_terms.proofs.Reached.{undone}
use Rattle.proof_terms.proofs.laws.fill_is_undone.Goals as goal

pub returns : goal.returns
returns c = undone
