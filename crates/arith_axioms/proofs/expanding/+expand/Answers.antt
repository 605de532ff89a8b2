use Rattle.std.proofs.Common.{◌≡◌, arith, ◌*◌, ◌^◌, ◌<◌, not, ◌++◌, false, subst, sym, ap, ap₂, ◌∙◌, IfOk}
use Rattle.sorted_terms.specs.declared.term.Term.{Term}
use Rattle.sorted_terms.specs.Tree.{term_tree}
use Rattle.sorted_terms.specs.Sorts.{term_size}
use Rattle.sorted_terms.specs.Weights.{term_weight}
use Rattle.arith_axioms.specs.Polynomials.{all_pairs, expansion}
use Rattle.arith_axioms.specs.Gathering.{signed}
use Rattle.arith_axioms.proofs.Constants.{left_narrow, right_narrow}
use Rattle.arith_axioms.proofs.Rooms.{signed_minus, signed_plus, signed_difference, signed_times, expansion_in_order, product_room}
use Rattle.arith_axioms.proofs.expanding.+expand.Goals as goal

pub expand-requires-in-Mul : goal.expand-requires-in-Mul
expand-requires-in-Mul t c =
    let smaller : term_size (term_tree c.deref-in-Mul.result.now) < term_size (term_tree c.args.t.now) =
    subst (λ (x : Term). term_size (term_tree x) < term_size (term_tree c.args.t.now)) (sym c.deref-in-Mul.ensures)
    (subst (λ (x : Term). term_size (term_tree c.in-Mul.s.value) < term_size (term_tree x)) (sym c.in-Mul.is) (omega arith)) in (
      omega (arith, c.decreases, smaller),
      subst (λ (x : Term). term_weight (term_tree x) < 2 ^ 127) (sym c.deref-in-Mul.ensures) (left_narrow (term_tree c.in-Mul.s.value) (term_tree c.in-Mul.t.value) (rw c.in-Mul.is at c.requires)),
    )

pub expand-requires-in-Mul-2 : goal.expand-requires-in-Mul-2
expand-requires-in-Mul-2 t c =
    let smaller : term_size (term_tree c.deref-in-Mul-3.result.now) < term_size (term_tree c.args.t.now) =
    subst (λ (x : Term). term_size (term_tree x) < term_size (term_tree c.args.t.now)) (sym c.deref-in-Mul-3.ensures)
    (subst (λ (x : Term). term_size (term_tree c.in-Mul.t.value) < term_size (term_tree x)) (sym c.in-Mul.is) (omega arith)) in (
      omega (arith, c.decreases, smaller),
      subst (λ (x : Term). term_weight (term_tree x) < 2 ^ 127) (sym c.deref-in-Mul-3.ensures) (right_narrow (term_tree c.in-Mul.s.value) (term_tree c.in-Mul.t.value) (rw c.in-Mul.is at c.requires)),
    )

pub pairs-requires-clause-room : goal.pairs-requires-clause-room
pairs-requires-clause-room t c =
    product_room c.args.negative (term_tree c.deref-in-Mul.result.now) (term_tree c.deref-in-Mul-3.result.now) c.deref-in-Mul-2.result.now c.deref-in-Mul-4.result.now
    (c.deref-in-Mul-2.ensures.value ∙ c.in_ok-expand-in-Mul.ensures)
    (c.deref-in-Mul-4.ensures.value ∙ c.in_ok-expand-in-Mul-2.ensures)
    (subst (λ (x : Term). term_weight (term_tree x) * term_weight (term_tree c.deref-in-Mul-3.result.now) < 2 ^ 127) (sym c.deref-in-Mul.ensures)
    (subst (λ (y : Term). term_weight (term_tree c.in-Mul.s.value) * term_weight (term_tree y) < 2 ^ 127) (sym c.deref-in-Mul-3.ensures)
    (rw c.in-Mul.is at c.requires)))

pub pairs-requires-clause-left : goal.pairs-requires-clause-left
pairs-requires-clause-left t c =
    expansion_in_order c.args.negative (term_tree c.deref-in-Mul.result.now) c.deref-in-Mul-2.result.now (c.deref-in-Mul-2.ensures.value ∙ c.in_ok-expand-in-Mul.ensures)

pub pairs-requires-clause-right : goal.pairs-requires-clause-right
pairs-requires-clause-right t c =
    expansion_in_order false (term_tree c.deref-in-Mul-3.result.now) c.deref-in-Mul-4.result.now (c.deref-in-Mul-4.ensures.value ∙ c.in_ok-expand-in-Mul-2.ensures)

pub returns-in-Neg : goal.returns-in-Neg
returns-in-Neg t c =
    subst (λ z. IfOk c.expand.result (λ es. es.items ≡ z))
    (ap (λ (x : Term). signed (not c.args.negative) (expansion (term_tree x))) c.deref.ensures
    ∙ signed_minus c.args.negative (term_tree c.in-Neg.t.value)
    ∙ ap (λ (x : Term). signed c.args.negative (expansion (term_tree x))) (sym c.in-Neg.is))
    c.expand.ensures

pub returns-in_ok-expand-in-Add-2 : goal.returns-in_ok-expand-in-Add-2
returns-in_ok-expand-in-Add-2 t c =
    subst (λ z. IfOk c.both.result (λ es. es.items ≡ z))
    (ap₂ (λ x y. x ++ y) c.in_ok-expand-in-Add.ensures c.in_ok-expand-in-Add-2.ensures
    ∙ ap₂ (λ (x y : Term). signed c.args.negative (expansion (term_tree x)) ++ signed c.args.negative (expansion (term_tree y))) c.deref-in-Add.ensures c.deref-in-Add-2.ensures
    ∙ signed_plus c.args.negative (term_tree c.in-Add.s.value) (term_tree c.in-Add.t.value)
    ∙ ap (λ (x : Term). signed c.args.negative (expansion (term_tree x))) (sym c.in-Add.is))
    c.both.ensures

pub returns-in_ok-expand-in-Sub-2 : goal.returns-in_ok-expand-in-Sub-2
returns-in_ok-expand-in-Sub-2 t c =
    subst (λ z. IfOk c.both-in-Sub.result (λ es. es.items ≡ z))
    (ap₂ (λ x y. x ++ y) c.in_ok-expand-in-Sub.ensures c.in_ok-expand-in-Sub-2.ensures
    ∙ ap₂ (λ (x y : Term). signed c.args.negative (expansion (term_tree x)) ++ signed (not c.args.negative) (expansion (term_tree y))) c.deref-in-Sub.ensures c.deref-in-Sub-2.ensures
    ∙ signed_difference c.args.negative (term_tree c.in-Sub.s.value) (term_tree c.in-Sub.t.value)
    ∙ ap (λ (x : Term). signed c.args.negative (expansion (term_tree x))) (sym c.in-Sub.is))
    c.both-in-Sub.ensures

pub returns-in_ok-expand-in-Mul-2 : goal.returns-in_ok-expand-in-Mul-2
returns-in_ok-expand-in-Mul-2 t c =
    subst (λ z. IfOk c.pairs.result (λ es. es.items ≡ z))
    (ap₂ all_pairs (c.deref-in-Mul-2.ensures.value ∙ c.in_ok-expand-in-Mul.ensures) (c.deref-in-Mul-4.ensures.value ∙ c.in_ok-expand-in-Mul-2.ensures)
    ∙ ap₂ (λ (x y : Term). all_pairs (signed c.args.negative (expansion (term_tree x))) (expansion (term_tree y))) c.deref-in-Mul.ensures c.deref-in-Mul-3.ensures
    ∙ signed_times c.args.negative (term_tree c.in-Mul.s.value) (term_tree c.in-Mul.t.value)
    ∙ ap (λ (x : Term). signed c.args.negative (expansion (term_tree x))) (sym c.in-Mul.is))
    c.pairs.ensures
