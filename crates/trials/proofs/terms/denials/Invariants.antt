use Rattle.sorted_terms.specs.Tree.{term_tree}
use Rattle.sorted_terms.specs.Substitution.{HasTermIndicesBelow}
use Rattle.trials.proofs.terms.denials.Given as goal

abbrev pub invariant-loop : goal.invariant-loop
invariant-loop l = HasTermIndicesBelow 0 (term_tree l.t)
