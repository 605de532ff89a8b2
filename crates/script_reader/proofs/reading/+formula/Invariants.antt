use Rattle.std.proofs.Common.{◌+◌, ◌*◌}
use Rattle.script_reader.proofs.reading.+formula.Given as goal

abbrev pub decreases-formula : goal.decreases-formula
decreases-formula l = 2 * l.levels + 1

abbrev pub decreases-operand : goal.decreases-operand
decreases-operand l = 2 * l.levels
