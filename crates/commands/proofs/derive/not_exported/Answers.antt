use Rattle.std.proofs.Common.{◌≡◌, codes, arith}
use Rattle.commands.proofs.Transfers.{prints_after, prints_front}
use Rattle.commands.proofs.derive.not_exported.Goals as goal

pub returns-in-Err-clause-out_fault : goal.returns-in-Err-clause-out_fault
returns-in-Err-clause-out_fault g c = λ _.
    let printed = rw c.as_bytes.ensures at c.in-Err.ensures.printed in
    (c.in-Err.ensures.cause, prints_front _ _ _ _ c.args.transcript.now (codes "not exported\n") printed c.in-Err.ensures.cause)

pub returns-in-Err-print-clause-out_fault : goal.returns-in-Err-print-clause-out_fault
returns-in-Err-print-clause-out_fault g c = λ _.
    let before = rw c.as_bytes.ensures at c.in-Ok.ensures.whole in
    (omega (arith, c.in-Err-print.ensures.cause, c.in-Ok.ensures.later), prints_after _ _ _ _ _ _ c.args.transcript.now (codes "not exported\n") before c.in-Err-print.ensures.printed c.in-Ok.ensures.later)
