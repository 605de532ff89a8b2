use Rattle.std.proofs.Common.{◌≡◌, ◌++◌, map, length}
use Rattle.ck_text.specs.Tokens.{scan}
use Rattle.ck_text.specs.Views as views
use Rattle.ck_text.proofs.scan.tokens.Given as goal

abbrev pub invariant-loop-rest : goal.invariant-loop-rest
invariant-loop-rest l = map views.placed l.placed ++ scan 0 l.rest ≡ scan 0 l.bytes

abbrev pub decreases-loop-rest : goal.decreases-loop-rest
decreases-loop-rest l = length l.rest
