use Rattle.std.proofs.Common.{◌≡◌, ◌++◌, length}
use Rattle.script_reader.specs.Tokens.{scan}
use Rattle.script_reader.proofs.token.tokens.Given as goal

abbrev pub invariant-loop-rest : goal.invariant-loop-rest
invariant-loop-rest l = l.tokens ++ scan 0 l.rest ≡ scan 0 l.line

abbrev pub decreases-loop-rest : goal.decreases-loop-rest
decreases-loop-rest l = length l.rest
