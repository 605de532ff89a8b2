use Rattle.ck_text.proofs.ProofRescanning.{proof_printed_scans}
use Rattle.ck_text.proofs.laws.printed_proof_scans.Goals as goal

pub returns : goal.returns
returns c = proof_printed_scans
