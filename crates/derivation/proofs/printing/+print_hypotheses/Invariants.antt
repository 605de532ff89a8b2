use Rattle.std.proofs.Common.{length}
use Rattle.derivation.proofs.printing.+print_hypotheses.Given as goal

abbrev pub decreases-print_hypotheses : goal.decreases-print_hypotheses
decreases-print_hypotheses l = length l.hypotheses.now
