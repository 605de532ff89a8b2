use Rattle.sorted_terms.proofs.Substituting.{term_room}
use Rattle.sorted_terms.proofs.laws.shift_makes_room.Goals as goal

pub returns : goal.returns
returns c = term_room
