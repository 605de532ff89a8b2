use Rattle.std.proofs.Common.{ap}
use Rattle.ck_text.specs.ProofItems as spec
use Rattle.ck_text.specs.ProofViews as views
use Rattle.ck_text.proofs.ProofRules.{only_three}
use Rattle.ck_text.proofs.proof_parts.three.Goals as goal

pub returns-in_default : goal.returns-in_default
returns-in_default c = ap spec.kept_proof (only_three c.args.h (views.part c.args.x) (views.part c.args.y) (views.part c.args.z) c.in_default.not-Cases c.in_default.not-Rewrite)
