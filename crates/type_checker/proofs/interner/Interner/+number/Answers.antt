use Rattle.std.proofs.Common.{◌≡◌, ℕ, subst, sym, refl, inl, inr}
use Rattle.formulas.specs.Tree.{formula_tree}
use Rattle.formulas.specs.declared.formula.Formula.{Formula}
use Rattle.type_checker.specs.Interner.{IsAt, HasParts}
use Rattle.type_checker.proofs.Linked.{no_part_in, none_some, found, only}
use Rattle.type_checker.proofs.interner.Interner.+number.Goals as goal
use Rattle.type_checker.proofs.interner.Interner.+number.Goals.{in-Bottom, in-Bottom-2, in-All+in_ok-number-in-All, in-Imp+in_ok-number-in-Imp+in_ok-number-in-Imp-2}

pub returns-in_err-number-in-All-clause-only : goal.returns-in_err-number-in-All-clause-only
returns-in_err-number-in-All-clause-only t c =
    let formulas = c.args.self.now in
    λ n h. absurd (no_part_in formulas c.self.inside.table.entries c.self.view_is c.self.invariant (formula_tree c.args.a.now) (formula_tree c.in-All.b.value)
    (λ l r h. (l, elim c.in-All.is [ inl p ↦ (subst (λ a. HasParts formulas (formula_tree a) l r) p.1 h).0 | inr p ↦ (subst (λ a. HasParts formulas (formula_tree a) l r) p.1 h).0 ]))
    (λ m at. none_some m (c.in_err-number-in-All.ensures.only m (subst (λ b. IsAt formulas m (formula_tree b)) (sym c.deref.ensures) at))) n h)

pub returns-in_err-number-in-Imp-clause-only : goal.returns-in_err-number-in-Imp-clause-only
returns-in_err-number-in-Imp-clause-only t c =
    let formulas = c.args.self.now in
    let part : (l r : ℕ) → HasParts formulas (formula_tree c.args.a.now) l r → IsAt formulas l (formula_tree c.in-Imp.b.value) = λ l r h. elim c.in-Imp.is [
      | inl p ↦ (subst (λ a. HasParts formulas (formula_tree a) l r) p h).0
      | inr more ↦ elim more [ inl p ↦ (subst (λ a. HasParts formulas (formula_tree a) l r) p h).0 | inr p ↦ (subst (λ a. HasParts formulas (formula_tree a) l r) p h).0 ]
    ] in
    λ n h. absurd (no_part_in formulas c.self.inside.table.entries c.self.view_is c.self.invariant (formula_tree c.args.a.now) (formula_tree c.in-Imp.b.value)
    (λ l r h. (l, part l r h))
    (λ m at. none_some m (c.in_err-number-in-Imp.ensures.only m (subst (λ b. IsAt formulas m (formula_tree b)) (sym c.deref-in-Imp.ensures) at))) n h)

pub returns-in_err-number-in-Imp-2-clause-only : goal.returns-in_err-number-in-Imp-2-clause-only
returns-in_err-number-in-Imp-2-clause-only t c =
    let formulas = c.args.self.now in
    let part : (l r : ℕ) → HasParts formulas (formula_tree c.args.a.now) l r → IsAt formulas r (formula_tree c.in-Imp.c.value) = λ l r h. elim c.in-Imp.is [
      | inl p ↦ (subst (λ a. HasParts formulas (formula_tree a) l r) p h).1
      | inr more ↦ elim more [ inl p ↦ (subst (λ a. HasParts formulas (formula_tree a) l r) p h).1 | inr p ↦ (subst (λ a. HasParts formulas (formula_tree a) l r) p h).1 ]
    ] in
    λ n h. absurd (no_part_in formulas c.self.inside.table.entries c.self.view_is c.self.invariant (formula_tree c.args.a.now) (formula_tree c.in-Imp.c.value)
    (λ l r h. (r, part l r h))
    (λ m at. none_some m (c.in_err-number-in-Imp-2.ensures.only m (subst (λ b. IsAt formulas m (formula_tree b)) (sym c.deref-in-Imp-2.ensures) at))) n h)

parts : (t : ℕ) (c : goal.After-get_index_of t) → HasParts c.args.self.now (formula_tree c.args.a.now) c.match-a.left.0 c.match-a.left.1
parts t c =
    let formulas = c.args.self.now in
    let of : (l r : ℕ) (a : Formula) → c.args.a.now ≡ a → c.match-a.left ≡ (l, r) → HasParts formulas (formula_tree a) l r → HasParts formulas (formula_tree c.args.a.now) c.match-a.left.0 c.match-a.left.1
    = λ l r a p q h. subst (λ x. HasParts formulas (formula_tree c.args.a.now) x.0 x.1) (sym q) (subst (λ x. HasParts formulas (formula_tree x) l r) (sym p) h) in
    elim c.match-a.branch [
      | in-Bottom w ↦ elim w.in-Bottom.is [ inl p ↦ of 0 0 _ p w.left-is (refl, refl) | inr p ↦ of 0 0 _ p.1 w.left-is (refl, refl) ]
      | in-Bottom-2 w ↦ elim w.in-Bottom.is [ inl p ↦ of 0 0 _ p w.left-is (refl, refl) | inr p ↦ of 0 0 _ p.1 w.left-is (refl, refl) ]
      | in-All+in_ok-number-in-All w ↦
          let part = subst (λ b. IsAt formulas w.in_ok-number-in-All.field-0 (formula_tree b)) w.deref.ensures w.in_ok-number-in-All.ensures.some in
          elim w.in-All.is [ inl p ↦ of w.in_ok-number-in-All.field-0 0 _ p.1 w.left-is (part, refl) | inr p ↦ of w.in_ok-number-in-All.field-0 0 _ p.1 w.left-is (part, refl) ]
      | in-Imp+in_ok-number-in-Imp+in_ok-number-in-Imp-2 w ↦
          let left = subst (λ b. IsAt formulas w.in_ok-number-in-Imp.field-0 (formula_tree b)) w.deref-in-Imp.ensures w.in_ok-number-in-Imp.ensures.some in
          let right = subst (λ b. IsAt formulas w.in_ok-number-in-Imp-2.field-0 (formula_tree b)) w.deref-in-Imp-2.ensures w.in_ok-number-in-Imp-2.ensures.some in
          elim w.in-Imp.is [
            | inl p ↦ of w.in_ok-number-in-Imp.field-0 w.in_ok-number-in-Imp-2.field-0 _ p w.left-is (left, right)
            | inr more ↦ elim more [
              | inl p ↦ of w.in_ok-number-in-Imp.field-0 w.in_ok-number-in-Imp-2.field-0 _ p w.left-is (left, right)
              | inr p ↦ of w.in_ok-number-in-Imp.field-0 w.in_ok-number-in-Imp-2.field-0 _ p w.left-is (left, right)
            ]
          ]
    ]

pub returns-clause-some : goal.returns-clause-some
returns-clause-some t c = found c.args.self.now c.self.inside.table.entries c.self.view_is c.self.invariant (record { formula = c.args.a; left = c.match-a.left.0; right = c.match-a.left.1 }) (parts t c) c.get_index_of.result c.get_index_of.ensures.index

pub returns-clause-only : goal.returns-clause-only
returns-clause-only t c = only c.args.self.now c.self.inside.table.entries c.self.view_is c.self.invariant (record { formula = c.args.a; left = c.match-a.left.0; right = c.match-a.left.1 }) (parts t c) c.get_index_of.ensures.unique c.get_index_of.result c.get_index_of.ensures.index
