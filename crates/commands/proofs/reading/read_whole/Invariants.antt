use Rattle.std.proofs.Common.{◌≡◌, ◌+◌, ◌≤◌, true, length, ◌-◌}
use Rattle.commands.proofs.Transfers.{IsUnderway}
use Rattle.commands.proofs.reading.read_whole.Given as goal

abbrev pub invariant-loop-piece : goal.invariant-loop-piece
invariant-loop-piece g l = record {
  files : g.I.Origin.files l.input ≡ g.I.Origin.files l.fn.input;
  begun : g.I.Origin.is_begun l.input ≡ true;
  underway : IsUnderway (g.I.Origin.files l.fn.input) l.fn.name l.bytes.items (g.I.Origin.left l.input);
  short : length l.bytes.items ≤ l.limit + 1;
  later : g.I.Origin.faults l.fn.input ≤ g.I.Origin.faults l.input;
}

abbrev pub decreases-loop-piece : goal.decreases-loop-piece
decreases-loop-piece g l = l.limit + 1 - length l.bytes.items
