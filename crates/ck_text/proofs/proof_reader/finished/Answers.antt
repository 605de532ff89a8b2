use Rattle.ck_text.proofs.ProofCalls.{not_finished}
use Rattle.ck_text.proofs.proof_reader.finished.Goals as goal

pub returns-in-len1-up : goal.returns-in-len1-up
returns-in-len1-up c = not_finished c.args.stage c.args.calls.now c.in-len1-up.len_at_least
