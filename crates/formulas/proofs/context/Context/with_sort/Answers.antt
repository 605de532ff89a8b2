use Rattle.std.proofs.Common.{◌≡◌, ◌^◌, map, reverse, ap, sym, subst, ◌∙◌}
use Rattle.formulas.specs.Tree.{formula_tree}
use Rattle.formulas.specs.Substitution.{shift}
use Rattle.formulas.specs.Context.{raised, AllIndicesBelow}
use Rattle.formulas.proofs.Contexts.{map_reverse}
use Rattle.formulas.proofs.context.Context.with_sort.Goals as goal

pub returns-clause-hypotheses : goal.returns-clause-hypotheses
returns-clause-hypotheses c =
    ap reverse (c.in_ok-hyps.ensures ∙ ap (λ hyps. raised (map formula_tree hyps)) c.as_slice-2.ensures)
    ∙ sym (map_reverse (λ a. shift a 1 0) (map formula_tree c.args.self.now.hyps))
