use Rattle.std.proofs.Common.{◌≡◌, ℕ, ◌^◌, ◌<◌, ◌≤◌, ◌⊎◌, ⊎_elim, suc, ap, subst, sym, arith}
use Rattle.ck_base.specs.declared.decl.Sort.{Sort}
use Rattle.sorted_terms.specs.Tree.{TermTree, term_tree}
use Rattle.formulas.specs.Tree.{FormulaTree, Quantifier, for_all, there_is, quantified, formula_tree}
use Rattle.formulas.specs.Sorts.{size}
use Rattle.formulas.specs.Substitution.{HasIndicesBelow, replaced}
use Rattle.formulas.proofs.Places.{replaced_room}
use Rattle.formulas.proofs.substitution.+replace_var.Goals as goal

-- the part of a quantifier is smaller, and its answer at the same place has room
room : (a part : FormulaTree) (x : ℕ) (inserted : TermTree) (under : ℕ) (q : Quantifier) (s : Sort) → a ≡ quantified q s part → 2 ^ 32 ≤ suc under
    → HasIndicesBelow (2 ^ 32) (replaced a x inserted under) → (size part < size a) × HasIndicesBelow (2 ^ 32) (replaced part x inserted under)
room a part x inserted under q s e h i =
    (subst (λ b. size part < size b) (sym e) (omega arith), replaced_room part x inserted under h (subst (λ b. HasIndicesBelow (2 ^ 32) (replaced b x inserted under)) e i))

pub replace_var-requires-in-None : goal.replace_var-requires-in-None
replace_var-requires-in-None t c =
    let full : 2 ^ 32 ≤ suc c.args.under = omega (arith, c.in-None.ensures) in
    let part : (q : Quantifier) × (s : Sort) × (formula_tree c.args.a.now ≡ quantified q s (formula_tree c.in-All.part.value)) =
    ⊎_elim (λ h. (for_all, h.0, ap formula_tree h.1)) (λ h. (there_is, h.0, ap formula_tree h.1)) c.in-All.is in
    let at_part : (size (formula_tree c.deref-in-None.result.now) < size (formula_tree c.args.a.now)) × HasIndicesBelow (2 ^ 32) (replaced (formula_tree c.deref-in-None.result.now) c.args.name (term_tree c.args.with.now) c.args.under) =
    subst (λ z. (size (formula_tree z) < size (formula_tree c.args.a.now)) × HasIndicesBelow (2 ^ 32) (replaced (formula_tree z) c.args.name (term_tree c.args.with.now) c.args.under))
    (sym c.deref-in-None.ensures)
    (room (formula_tree c.args.a.now) (formula_tree c.in-All.part.value) c.args.name (term_tree c.args.with.now) c.args.under part.0 part.1 part.2 full c.requires) in
    (omega (arith, c.decreases, at_part.0), at_part.1)
