use Rattle.std.proofs.Common.{◌≡◌, refl, sym, subst}
use Rattle.script_reader.specs.Lines.{lines_of}
use Rattle.commands.specs.declared.session.Answer.{Answer}
use Rattle.commands.specs.Session.{state_of}
use Rattle.commands.specs.Answers.{Answers}
use Rattle.commands.proofs.Sessions.{goes_on}
use Rattle.commands.proofs.session.play.Goals as goal

pub loop-line-preserved : goal.loop-line-preserved
loop-line-preserved c =
    let h = subst (λ (a : Answer). Answers (state_of c.loop-line.session) c.in-Some.line.now c.loop-line.transcript c.answer_line.new.out a) c.in-Next.is c.in_ok-next.ensures in
    record {
      underway = goes_on (lines_of c.args.script.now) (lines_of c.loop-line.rest.now) c.loop-line.transcript (state_of c.loop-line.session) c.in-Some.line.now h.1 (lines_of c.in-Some.more.now) c.answer_line.new.out (state_of c.in-Next.next) c.loop-line.invariant.underway c.in-Some.ensures.lines h.2 h.3;
      kept = h.0;
    }
