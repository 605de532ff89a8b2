use Rattle.sorted_terms.specs.Tree.{term_tree}
use Rattle.sorted_terms.specs.Sorts.{term_size}
use Rattle.arith_axioms.proofs.expanding.+expand.Given as goal

abbrev pub decreases-expand : goal.decreases-expand
decreases-expand l = term_size (term_tree l.t.now)
