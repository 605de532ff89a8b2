use Rattle.arith_axioms.proofs.Totals.{equal_terms, one_value}
use Rattle.arith_axioms.proofs.laws.same_polynomials_are_equal.Goals as goal

pub returns-clause-equal : goal.returns-clause-equal
returns-clause-equal c = equal_terms

pub returns-clause-value : goal.returns-clause-value
returns-clause-value c = one_value
