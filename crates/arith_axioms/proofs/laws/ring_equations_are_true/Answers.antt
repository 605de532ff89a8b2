use Rattle.arith_axioms.proofs.Totals.{equal_terms}
use Rattle.arith_axioms.proofs.laws.ring_equations_are_true.Goals as goal

pub returns : goal.returns
returns c = λ names variables s t sorted_s sorted_t allowed. equal_terms names variables s t sorted_s sorted_t allowed.1
