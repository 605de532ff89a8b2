use Rattle.std.proofs.Common.{length}
use Rattle.trials_proofs.proofs.asking.+is_single.Given as goal

abbrev pub decreases-is_single : goal.decreases-is_single
decreases-is_single l = length l.numbers.now
