use Rattle.std.proofs.Common.{◌≡◌, ◌+◌, ◌≤◌, ◌∷◌, refl, length, map, reverse, sym, ap, ◌∙◌, arith}
use Rattle.formulas.specs.Tree.{formula_tree}
use Rattle.formulas.specs.Context.{hypotheses_of}
use Rattle.derivation.specs.Derivation.{DerivationTree, progress_tree, proving, derivation_tree, left_of, right_of}
use Rattle.derivation.proofs.Derived.{intro_kept, left_small, hypotheses_count}
use Rattle.derivation.proofs.derivation.Derivation.intro.Goals as goal

pub overflow_add-nodes-2 : goal.overflow_add-nodes-2
overflow_add-nodes-2 c =
    let answers = rw c.in-Proving.is at c.requires.derived.answers in
    omega (arith, c.requires.count, c.requires.derived.within.few, left_small _ _ (sym c.in-Some.ensures) answers.2)

pub returns-clause-kept : goal.returns-clause-kept
returns-clause-kept c =
    let hypotheses = hypotheses_of c.in-Proving.context in
    let limits = c.is_within.ensures.0 c.if-not-is_within.false in
    let count : length hypotheses ≡ length c.in-Proving.context.hyps = hypotheses_count c.in-Proving.context in
    let next : DerivationTree = record {
      pre = formula_tree c.args.self.now.pre;
      post = formula_tree c.args.self.now.post;
      progress = proving (hypotheses_of c.assume.new.context) (formula_tree c.assume.new.goal);
    } in
    let next_is : next ≡ record { pre = formula_tree c.args.self.now.pre; post = formula_tree c.args.self.now.post; progress = proving (left_of (formula_tree c.in-Proving.goal) ∷ hypotheses) (right_of (formula_tree c.in-Proving.goal)) } =
    rw (c.in_ok-assume.ensures.context, c.in_ok-assume.ensures.goal) refl in
    let kept = intro_kept (derivation_tree c.args.self.now) next c.args.hole c.args.self.now.nodes c.in-Some.assumed hypotheses (formula_tree c.in-Proving.goal) c.requires.derived (ap progress_tree c.in-Proving.is) (c.if-hole-proof_hole.false ∙ c.proof_hole.ensures) (sym c.in-Some.ensures) c.requires.count next_is limits.0 (omega (arith, limits.1, count, c.len.ensures)) in
    record { derived = kept.1; count = kept.2; closed = c.in_ok-assume.ensures.closed ∙ (rw c.in-Proving.is at c.requires.closed) }
