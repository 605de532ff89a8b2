use Rattle.proof_terms.proofs.Filled.{not_filled}
use Rattle.proof_terms.proofs.Reached.{filled_at_path}
use Rattle.proof_terms.proofs.laws.fill_is_at_path.Goals as goal

pub returns-clause-at_path : goal.returns-clause-at_path
returns-clause-at_path c = filled_at_path

pub returns-clause-without_hole : goal.returns-clause-without_hole
returns-clause-without_hole c p fragment k h = not_filled p k fragment h
