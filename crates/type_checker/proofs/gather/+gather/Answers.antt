use Rattle.std.proofs.Common.{◌≡◌, subst, sym, inl, inr}
use Rattle.formulas.specs.Tree.{formula_tree}
use Rattle.proof_terms.specs.Tree.{proof_tree}
use Rattle.proof_terms.specs.declared.proof.Proof.{Proof}
use Rattle.type_checker.specs.Gathered.{AreNumbered}
use Rattle.type_checker.proofs.Gathered.{number_kept, numbers_kept, on_ok}
use Rattle.type_checker.proofs.gather.+gather.Goals as goal

pub returns-in_err-gather-in-Cases-2-clause-kept : goal.returns-in_err-gather-in-Cases-2-clause-kept
returns-in_err-gather-in-Cases-2-clause-kept t c = λ i f h. c.gather-in-Cases.ensures.kept i f (c.gather.ensures.kept i f h)

pub returns-in_ok-gather-in-Cases-2-clause-numbered : goal.returns-in_ok-gather-in-Cases-2-clause-numbered
returns-in_ok-gather-in-Cases-2-clause-numbered t c =
    let before = c.gather.new.interner in
    let middle = c.gather-in-Cases.new.interner in
    let after = c.gather-in-Cases-2.new.interner in
    let part = proof_tree c.in-Cases.part.value in
    let left = proof_tree c.in-Cases.left.value in
    let first = subst (λ p. AreNumbered before (proof_tree p)) c.deref.ensures c.in_ok-gather-in-Cases.ensures.numbered in
    let second = subst (λ p. AreNumbered middle (proof_tree p)) c.deref-in-Cases.ensures c.in_ok-gather-in-Cases-2.ensures.numbered in
    on_ok c.gather-in-Cases-2.result
    (λ third. subst (λ p. AreNumbered after (proof_tree p)) (sym c.in-Cases.is) (
      numbers_kept middle after c.gather-in-Cases-2.ensures.kept part (numbers_kept before middle c.gather-in-Cases.ensures.kept part first),
      numbers_kept middle after c.gather-in-Cases-2.ensures.kept left second,
      subst (λ p. AreNumbered after (proof_tree p)) c.deref-in-Cases-2.ensures third,
    ))
    c.gather-in-Cases-2.ensures.numbered

pub returns-in_ok-gather-in-Cases-2-clause-kept : goal.returns-in_ok-gather-in-Cases-2-clause-kept
returns-in_ok-gather-in-Cases-2-clause-kept t c = λ i f h. c.gather-in-Cases-2.ensures.kept i f (c.gather-in-Cases.ensures.kept i f (c.gather.ensures.kept i f h))

pub returns-in_ok-gather-in-App-clause-numbered : goal.returns-in_ok-gather-in-App-clause-numbered
returns-in_ok-gather-in-App-clause-numbered t c =
    let before = c.gather-in-App.new.interner in
    let after = c.gather-in-App-2.new.interner in
    let left = proof_tree c.in-App.left.value in
    let first = numbers_kept before after c.gather-in-App-2.ensures.kept left (subst (λ p. AreNumbered before (proof_tree p)) c.deref-in-App.ensures c.in_ok-gather-in-App.ensures.numbered) in
    let of : (p : Proof) → c.args.p.now ≡ p → AreNumbered after (proof_tree p) → AreNumbered after (proof_tree c.args.p.now)
    = λ p e h. subst (λ x. AreNumbered after (proof_tree x)) (sym e) h in
    on_ok c.gather-in-App-2.result
    (λ last. let second = subst (λ p. AreNumbered after (proof_tree p)) c.deref-in-App-2.ensures last in
    elim c.in-App.is [
      | inl p ↦ of _ p (first, second)
      | inr more ↦ elim more [ inl p ↦ of _ p (first, second) | inr more ↦ elim more [ inl p ↦ of _ p.1 (first, second) | inr p ↦ of _ p (first, second) ] ]
    ])
    c.gather-in-App-2.ensures.numbered

pub returns-in_ok-gather-in-App-clause-kept : goal.returns-in_ok-gather-in-App-clause-kept
returns-in_ok-gather-in-App-clause-kept t c = λ i f h. c.gather-in-App-2.ensures.kept i f (c.gather-in-App.ensures.kept i f h)

pub returns-in_ok-add-in-Lam-clause-numbered : goal.returns-in_ok-add-in-Lam-clause-numbered
returns-in_ok-add-in-Lam-clause-numbered t c =
    let before = c.add.new.self in
    let after = c.gather-in-Lam.new.interner in
    let first = number_kept before after c.gather-in-Lam.ensures.kept (formula_tree c.in-Lam.a) c.in_ok-add-in-Lam.ensures.numbered in
    let of : (p : Proof) → c.args.p.now ≡ p → AreNumbered after (proof_tree p) → AreNumbered after (proof_tree c.args.p.now)
    = λ p e h. subst (λ x. AreNumbered after (proof_tree x)) (sym e) h in
    on_ok c.gather-in-Lam.result
    (λ last. let second = subst (λ p. AreNumbered after (proof_tree p)) c.deref-in-Lam.ensures last in
    elim c.in-Lam.is [
      | inl p ↦ of _ p (first, second)
      | inr more ↦ elim more [
        | inl p ↦ of _ p (first, second)
        | inr more ↦ elim more [ inl p ↦ of _ p (first, second) | inr more ↦ elim more [ inl p ↦ of _ p.2 (first, second) | inr p ↦ of _ p (first, second) ] ]
      ]
    ])
    c.gather-in-Lam.ensures.numbered

pub returns-in_ok-add-in-Lam-clause-kept : goal.returns-in_ok-add-in-Lam-clause-kept
returns-in_ok-add-in-Lam-clause-kept t c = λ i f h. c.gather-in-Lam.ensures.kept i f (c.add.ensures.kept i f h)
