use Rattle.std.proofs.Common.{arith, ◌≡◌, ◌+◌, length}
use Rattle.commands.proofs.Transfers.{too_many}
use Rattle.commands.proofs.reading.read_whole.Goals as goal

pub returns-clause-long : goal.returns-clause-long
returns-clause-long g c = λ _.
    let more : length c.loop-piece.bytes.items ≡ c.args.limit + 1 = omega (arith, c.loop-piece.invariant.short) in
    too_many _ c.args.name.now c.loop-piece.bytes.items _ c.args.limit c.loop-piece.invariant.underway more
