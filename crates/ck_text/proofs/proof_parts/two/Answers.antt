use Rattle.std.proofs.Common.{ap}
use Rattle.ck_text.specs.ProofItems as spec
use Rattle.ck_text.specs.ProofViews as views
use Rattle.ck_text.proofs.ProofRules.{only_two}
use Rattle.ck_text.proofs.proof_parts.two.Goals as goal

pub returns-in_default : goal.returns-in_default
returns-in_default c =
    ap spec.kept_proof (only_two c.args.h (views.part c.args.x) (views.part c.args.y)
    c.in_default.not-Lam c.in_default.not-Left c.in_default.not-Right c.in_default.not-Absurd c.in_default.not-App c.in_default.not-Pair c.in_default.not-Unpack c.in_default.not-Gen c.in_default.not-Inst c.in_default.not-Ring)
