use Rattle.std.proofs.Common.{◌≡◌, ◌+◌, ◌≤◌, [], None, length, map}
use Rattle.ck_base.specs.declared.limits.TheConstants.{FORMULA_DEPTH, NESTING}
use Rattle.ck_text.specs.Items as spec
use Rattle.ck_text.specs.Texts as grammar
use Rattle.ck_text.specs.Views as views
use Rattle.ck_text.proofs.reader.run.Given as goal

abbrev pub invariant-loop-rest : goal.invariant-loop-rest
invariant-loop-rest l =
    (spec.run NESTING FORMULA_DEPTH l.asked (grammar.whole_scope l.names l.variables) (map views.placed l.placed) (spec.wanting []) None
    ≡ spec.run NESTING FORMULA_DEPTH l.asked (grammar.whole_scope l.names l.variables) (map views.placed l.rest) (views.state l.mode l.stack) l.unknown)
    × (length l.stack + length l.rest ≤ length l.placed)
    × views.AreSmall (map views.placed l.rest)
    × views.HasRoom (views.state l.mode l.stack)

abbrev pub decreases-loop-rest : goal.decreases-loop-rest
decreases-loop-rest l = length l.rest
