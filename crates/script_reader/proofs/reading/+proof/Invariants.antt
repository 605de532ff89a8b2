use Rattle.std.proofs.Common.{◌+◌, ◌*◌}
use Rattle.script_reader.proofs.reading.+proof.Given as goal

abbrev pub decreases-proof : goal.decreases-proof
decreases-proof l = 2 * l.levels

abbrev pub decreases-abstraction : goal.decreases-abstraction
decreases-abstraction l = 2 * l.levels + 1

abbrev pub decreases-application : goal.decreases-application
decreases-application l = 2 * l.levels + 1
