use Rattle.ck_text.proofs.ProofFitting.{proof_text_is}
use Rattle.ck_text.proofs.ProofReturning.{proof_text_means}
use Rattle.ck_text.proofs.laws.proofs_have_texts.Goals as goal

pub returns-clause-grammar : goal.returns-clause-grammar
returns-clause-grammar c = proof_text_is

pub returns-clause-meaning : goal.returns-clause-meaning
returns-clause-meaning c = proof_text_means
