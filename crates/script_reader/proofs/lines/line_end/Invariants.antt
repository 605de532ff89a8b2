use Rattle.std.proofs.Common.{◌≡◌, ◌+◌, length}
use Rattle.script_reader.specs.Lines.{is_inside}
use Rattle.script_reader.specs.Tokens.{count_while}
use Rattle.script_reader.proofs.lines.line_end.Given as goal

abbrev pub invariant-loop-rest : goal.invariant-loop-rest
invariant-loop-rest l = (l.count + count_while is_inside l.rest ≡ count_while is_inside l.script) × (l.count + length l.rest ≡ length l.script)

abbrev pub decreases-loop-rest : goal.decreases-loop-rest
decreases-loop-rest l = length l.rest
