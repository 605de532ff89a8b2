use Rattle.std.proofs.Common.{◌≡◌, ◌+◌, ◌≤◌, [], None, length, map}
use Rattle.ck_base.specs.declared.limits.TheConstants.{FORMULA_DEPTH, NESTING, PROOF_DEPTH}
use Rattle.ck_text.specs.ProofItems as spec
use Rattle.ck_text.specs.ProofViews as views
use Rattle.ck_text.specs.Views as expression_views
use Rattle.ck_text.proofs.ProofRooms.{Fine}
use Rattle.ck_text.proofs.proof_reader.run.Given as goal

abbrev pub invariant-loop-rest : goal.invariant-loop-rest
invariant-loop-rest l =
    (spec.run NESTING PROOF_DEPTH FORMULA_DEPTH l.holes (views.scope l.outer) (map expression_views.placed l.placed) (spec.expecting []) None None
    ≡ spec.run NESTING PROOF_DEPTH FORMULA_DEPTH l.holes (views.scope l.outer) (map expression_views.placed l.rest) (views.state l.stage l.calls) l.deep l.unknown)
    × (views.held l.stage + length l.calls + length l.rest ≤ length l.placed)
    × expression_views.AreSmall (map expression_views.placed l.rest)
    × Fine l.holes (views.scope l.outer) (views.state l.stage l.calls)

abbrev pub decreases-loop-rest : goal.decreases-loop-rest
decreases-loop-rest l = length l.rest
