use Rattle.std.proofs.Common.{◌≡◌, ◌+◌, ◌≤◌, [], length}
use Rattle.std.specs.Option.{option_map}
use Rattle.ck_text.specs.Texts as grammar
use Rattle.ck_text.specs.Items as spec
use Rattle.ck_text.specs.Views as views
use Rattle.ck_text.proofs.names.bound_place.Given as goal

abbrev pub invariant-loop-rest : goal.invariant-loop-rest
invariant-loop-rest l =
    (grammar.place_of l.name (spec.bound_by [] (views.stack l.frames)) ≡ option_map (λ k. l.count + k) (grammar.place_of l.name (spec.bound_by [] (views.stack l.rest))))
    × (length (spec.bound_by [] (views.stack l.frames)) ≡ l.count + length (spec.bound_by [] (views.stack l.rest)))
    × (l.count + length l.rest ≤ length l.frames)

abbrev pub decreases-loop-rest : goal.decreases-loop-rest
decreases-loop-rest l = length l.rest
