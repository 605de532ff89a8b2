use Rattle.formulas.proofs.Substituting.{room}
use Rattle.formulas.proofs.laws.shift_makes_room.Goals as goal

pub returns : goal.returns
returns c = room
