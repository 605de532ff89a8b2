use Rattle.std.proofs.Common.{arith, length-drop}
use Rattle.commands.proofs.Transfers.{stops, grows}
use Rattle.commands.proofs.printing.print.Goals as goal

pub returns-in_err-written-clause-printed : goal.returns-in_err-written-clause-printed
returns-in_err-written-clause-printed g c =
    stops _ _ _ _ _ _ c.args.text.now c.loop-written.written c.loop-written.invariant.gained c.in_err-written.ensures.bytes c.loop-written.invariant.later c.in_err-written.ensures.cause.failed

pub loop-written-preserved : goal.loop-written-preserved
loop-written-preserved g c =
    let bytes = rw c.tail.ensures at c.in_ok-written.ensures.bytes in
    let bound = rw c.tail.ensures at c.in_ok-written.ensures.bound in
    record {
      within = omega (arith, bound.1, length-drop c.loop-written.written c.args.text.now, c.loop-written.invariant.within);
      gained = grows _ _ _ c.args.text.now c.loop-written.written c.in_ok-written.field-0 c.loop-written.invariant.gained bytes;
      later = omega (arith, c.in_ok-written.ensures.cause.later, c.loop-written.invariant.later);
    }
