use Rattle.std.proofs.Common.{◌≡◌, ◌-◌, ◌≤◌, length, take}
use Rattle.ck_base.specs.Outside.{begun, file, Becomes}
use Rattle.commands.proofs.writing.write_whole.Given as goal

abbrev pub invariant-loop-written : goal.invariant-loop-written
invariant-loop-written g l = record {
  within : l.written ≤ length l.bytes;
  stage : g.T.Target.stage l.target ≡ begun;
  holds : Becomes (g.T.Target.written l.fn.target) (g.T.Target.written l.target) (file l.name (take l.written l.bytes));
  later : g.T.Target.faults l.fn.target ≤ g.T.Target.faults l.target;
}

abbrev pub decreases-loop-written : goal.decreases-loop-written
decreases-loop-written g l = length l.bytes - l.written
