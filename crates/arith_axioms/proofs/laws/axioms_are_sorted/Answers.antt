use Rattle.arith_axioms.proofs.Sorting.{axiom_sorted, induction_sorted}
use Rattle.arith_axioms.proofs.laws.axioms_are_sorted.Goals as goal

pub returns-clause-table : goal.returns-clause-table
returns-clause-table c = axiom_sorted

pub returns-clause-induction : goal.returns-clause-induction
returns-clause-induction c = induction_sorted
