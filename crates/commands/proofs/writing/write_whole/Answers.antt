use Rattle.std.proofs.Common.{◌≡◌, arith, length-drop}
use Rattle.commands.proofs.Transfers.{extends, holds_front}
use Rattle.commands.proofs.writing.write_whole.Goals as goal

pub returns-in-Err-clause-front : goal.returns-in-Err-clause-front
returns-in-Err-clause-front g c = holds_front _ _ _ c.args.name.now c.args.bytes.now c.loop-written.written c.loop-written.invariant.holds c.in-Err.ensures.bytes

pub loop-written-preserved : goal.loop-written-preserved
loop-written-preserved g c =
    let bytes = rw c.tail.ensures at c.in-Ok.ensures.bytes in
    let bound = rw c.tail.ensures at c.in-Ok.ensures.bound in
    record {
      within = omega (arith, bound.1, length-drop c.loop-written.written c.args.bytes.now, c.loop-written.invariant.within);
      stage = c.in-Ok.ensures.begun;
      holds = extends _ _ _ c.args.name.now c.args.bytes.now c.loop-written.written c.in-Ok.taken c.loop-written.invariant.holds bytes;
      later = omega (arith, c.in-Ok.ensures.cause.later, c.loop-written.invariant.later);
    }
