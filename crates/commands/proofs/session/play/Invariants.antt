use Rattle.std.proofs.Common.{length}
use Rattle.script_reader.specs.Lines.{lines_of}
use Rattle.commands.specs.Session.{state_of}
use Rattle.commands.specs.Answers.{IsKeptSession}
use Rattle.commands.proofs.Sessions.{IsUnderway}
use Rattle.commands.proofs.session.play.Given as goal

abbrev pub invariant-loop-line : goal.invariant-loop-line
invariant-loop-line l = record {
  underway : IsUnderway (lines_of l.script) (lines_of l.rest) l.transcript (state_of l.session);
  kept : IsKeptSession l.session;
}

abbrev pub decreases-loop-line : goal.decreases-loop-line
decreases-loop-line l = length l.rest
