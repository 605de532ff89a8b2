use Rattle.std.proofs.Common.{◌≡◌, ◌+◌, ◌-◌, ◌≤◌, refl, length, sym, ap, ◌∙◌, arith}
use Rattle.formulas.specs.Tree.{formula_tree}
use Rattle.formulas.specs.Context.{hypotheses_of}
use Rattle.proof_terms.specs.Tree.{proof_tree}
use Rattle.proof_terms.specs.Size.{proof_depth, proof_size}
use Rattle.proof_terms.proofs.Sizes.{depth_within_size}
use Rattle.derivation.specs.Derivation.{DerivationTree, ProgressTree, progress_tree, proving, finished, abstracted, assumed_in, derivation_tree}
use Rattle.derivation.proofs.Derived.{assumed_kept, exact_kept, exact_within, hypotheses_count, no_variables}
use Rattle.derivation.proofs.derivation.Derivation.exact.Goals as goal

pub overflow_add-levels : goal.overflow_add-levels
overflow_add-levels c =
    let within = rw c.in-Proving.is at c.requires.kept.derived.within.low in
    omega (arith, within, hypotheses_count c.in-Proving.context, c.len.ensures, c.depth.ensures, depth_within_size (proof_tree c.args.proof), c.requires.few)

pub returns-then-not-is_within-clause-refused : goal.returns-then-not-is_within-clause-refused
returns-then-not-is_within-clause-refused c = λ _ next s.
    let limits = exact_within (derivation_tree c.args.self.now) next c.args.hole c.args.self.now.nodes (proof_tree c.args.proof) (hypotheses_of c.in-Proving.context) (formula_tree c.in-Proving.goal) (ap progress_tree c.in-Proving.is) c.requires.kept.count s in
    let few : c.args.self.now.nodes - 1 + c.size.result ≤ 200000 = omega (arith, c.size.ensures, limits.0) in
    let low : c.len.result + c.depth.result ≤ 2048 = omega (arith, c.depth.ensures, c.len.ensures, hypotheses_count c.in-Proving.context, limits.1) in
    absurd (cc (sym c.if-not-is_within.true ∙ c.is_within.ensures.1 (few, low)))

pub shows-requires-clause-assumed : goal.shows-requires-clause-assumed
shows-requires-clause-assumed c = assumed_kept (derivation_tree c.args.self.now) (hypotheses_of c.in-Proving.context) (formula_tree c.in-Proving.goal) c.requires.kept.derived (ap progress_tree c.in-Proving.is)

pub returns-clause-taken : goal.returns-clause-taken
returns-clause-taken c =
    let hypotheses = hypotheses_of c.in-Proving.context in
    let limits = c.is_within.ensures.0 c.if-not-is_within.false in
    let open_is : progress_tree c.args.self.now.progress ≡ proving hypotheses (formula_tree c.in-Proving.goal) = ap progress_tree c.in-Proving.is in
    let progress : progress_tree c.finish.new.progress ≡ finished (abstracted hypotheses (proof_tree c.args.proof)) =
    c.in_ok-finish.ensures ∙ ap (λ (g : ProgressTree). finished (abstracted (assumed_in g) (proof_tree c.args.proof))) open_is in
    let next : DerivationTree = record { pre = formula_tree c.args.self.now.pre; post = formula_tree c.args.self.now.post; progress = progress_tree c.finish.new.progress } in
    let next_is : next ≡ record { pre = formula_tree c.args.self.now.pre; post = formula_tree c.args.self.now.post; progress = finished (abstracted hypotheses (proof_tree c.args.proof)) } = rw progress refl in
    let has = rw c.if-not-branch.false at c.in_ok-shows.ensures in
    (exact_kept (derivation_tree c.args.self.now) next c.args.hole c.args.self.now.nodes (proof_tree c.args.proof) hypotheses (formula_tree c.in-Proving.goal) c.requires.kept.derived c.requires.built open_is (c.if-hole-proof_hole.false ∙ c.proof_hole.ensures) c.requires.kept.count has next_is (omega (arith, c.size.ensures, limits.0)) (omega (arith, c.depth.ensures, c.len.ensures, hypotheses_count c.in-Proving.context, limits.1))).0

pub returns-clause-kept : goal.returns-clause-kept
returns-clause-kept c =
    let hypotheses = hypotheses_of c.in-Proving.context in
    let limits = c.is_within.ensures.0 c.if-not-is_within.false in
    let open_is : progress_tree c.args.self.now.progress ≡ proving hypotheses (formula_tree c.in-Proving.goal) = ap progress_tree c.in-Proving.is in
    let progress : progress_tree c.finish.new.progress ≡ finished (abstracted hypotheses (proof_tree c.args.proof)) =
    c.in_ok-finish.ensures ∙ ap (λ (g : ProgressTree). finished (abstracted (assumed_in g) (proof_tree c.args.proof))) open_is in
    let next : DerivationTree = record { pre = formula_tree c.args.self.now.pre; post = formula_tree c.args.self.now.post; progress = progress_tree c.finish.new.progress } in
    let next_is : next ≡ record { pre = formula_tree c.args.self.now.pre; post = formula_tree c.args.self.now.post; progress = finished (abstracted hypotheses (proof_tree c.args.proof)) } = rw progress refl in
    let has = rw c.if-not-branch.false at c.in_ok-shows.ensures in
    let kept = exact_kept (derivation_tree c.args.self.now) next c.args.hole c.args.self.now.nodes (proof_tree c.args.proof) hypotheses (formula_tree c.in-Proving.goal) c.requires.kept.derived c.requires.built open_is (c.if-hole-proof_hole.false ∙ c.proof_hole.ensures) c.requires.kept.count has next_is (omega (arith, c.size.ensures, limits.0)) (omega (arith, c.depth.ensures, c.len.ensures, hypotheses_count c.in-Proving.context, limits.1)) in
    record { derived = kept.1; count = omega (arith, kept.2, c.size.ensures); closed = no_variables c.finish.new.progress _ progress }
