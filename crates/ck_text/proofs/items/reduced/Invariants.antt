use Rattle.std.proofs.Common.{◌≡◌, ◌≤◌, length}
use Rattle.ck_base.specs.declared.limits.TheConstants.{FORMULA_DEPTH}
use Rattle.ck_text.specs.Items as spec
use Rattle.ck_text.specs.Views as views
use Rattle.ck_text.proofs.items.reduced.Given as goal

abbrev pub invariant-loop-alloc : goal.invariant-loop-alloc
invariant-loop-alloc l = (spec.reduced FORMULA_DEPTH l.least (views.stack l.fn.stack) (views.item l.fn.i) ≡ spec.reduced FORMULA_DEPTH l.least (views.stack l.stack) (views.item l.i)) × (length l.stack ≤ length l.fn.stack)

abbrev pub decreases-loop-alloc : goal.decreases-loop-alloc
decreases-loop-alloc l = length l.stack
