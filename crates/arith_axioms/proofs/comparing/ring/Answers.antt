use Rattle.std.proofs.Common.{◌≡◌, ◌≢◌, ◌↔◌, Err, IfErr, subst, sym}
use Rattle.std.proofs.lemmas.Result.{err_from_is_err_and}
use Rattle.sorted_terms.specs.Tree.{term_tree}
use Rattle.arith_axioms.specs.declared.no_ring.NoRing.TheVariants as no_ring
use Rattle.arith_axioms.specs.Ring.{AreMany, IsRingEquation}
use Rattle.arith_axioms.proofs.Differences.{bound_refuses}
use Rattle.arith_axioms.proofs.comparing.ring.Goals as goal

pub returns-in_err-bounds-clause-refused : goal.returns-in_err-bounds-clause-refused
returns-in_err-bounds-clause-refused c =
    let p = err_from_is_err_and c.from_residual.result c.from_residual.ensures.1 in
    let same : c.from_residual.result ≡ c.bounds.result = cc (p.1, p.2, c.in_err-bounds.was) in
    subst (λ r. IfErr r (λ e. e ≢ no_ring.NoMemory → IsRingEquation (term_tree c.args.s.now) (term_tree c.args.t.now) → ⊥)) (sym same)
    (bound_refuses (term_tree c.args.s.now) (term_tree c.args.t.now) c.bounds.result c.bounds.ensures.wide c.bounds.ensures.many c.bounds.ensures.err)

pub returns-in_err-bounds-clause-many : goal.returns-in_err-bounds-clause-many
returns-in_err-bounds-clause-many c = λ count.
    let p = err_from_is_err_and c.from_residual.result c.from_residual.ensures.1 in
    let same : c.from_residual.result ≡ c.bounds.result = cc (p.1, p.2, c.in_err-bounds.was) in
    subst (λ r. r ≡ Err (no_ring.Many count) ↔ AreMany (term_tree c.args.s.now) (term_tree c.args.t.now) count) (sym same) (c.bounds.ensures.many count)
