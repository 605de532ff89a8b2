use Rattle.std.proofs.Common.{ap}
use Rattle.ck_text.specs.ProofItems as spec
use Rattle.ck_text.specs.ProofViews as views
use Rattle.ck_text.proofs.ProofRules.{only_pack}
use Rattle.ck_text.proofs.proof_parts.four.Goals as goal

pub returns-in_default : goal.returns-in_default
returns-in_default c = ap spec.kept_proof (only_pack c.args.h (views.part c.args.x) (views.part c.args.y) (views.part c.args.z) (views.part c.args.last) c.in_default.not-Pack)
