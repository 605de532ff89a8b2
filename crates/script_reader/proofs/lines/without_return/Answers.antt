use Rattle.std.proofs.Common.{◌≡◌, ◌+◌, sym, ◌∙◌, arith}
use Rattle.script_reader.proofs.Scans.{return_is_last, other_is_last}
use Rattle.script_reader.proofs.lines.without_return.Goals as goal

pub returns-then-line-last-eq13 : goal.returns-then-line-last-eq13
returns-then-line-last-eq13 c = c.front.ensures ∙ return_is_last c.args.line.now c.in-Some.last (omega (arith, c.in-Some.ensures)) c.if-line-last-eq13.true

pub returns-else-line-last-eq13 : goal.returns-else-line-last-eq13
returns-else-line-last-eq13 c = other_is_last c.args.line.now c.in-Some.last (omega (arith, c.in-Some.ensures)) c.if-line-last-eq13.false
