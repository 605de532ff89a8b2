-- The computed test of two formulas tells the same of them in either order.
use Rattle.std.proofs.Common.{◌≡◌, Bool, true, false, refl, sym, subst, ◌∙◌}
use Rattle.formulas.specs.Tree.{FormulaTree}
use Rattle.type_checker.specs.Same.{same_formula}
use Rattle.type_checker.specs.SameLaws.{formula_is, formula_same}

apart : false ≡ true → ⊥
apart e = absurd (cc)

pub same_either_way : (a b : FormulaTree) → same_formula a b ≡ same_formula b a
same_either_way a b = by (same_formula a b) (same_formula b a) refl refl where
  by : (t u : Bool) → same_formula a b ≡ t → same_formula b a ≡ u → t ≡ u
  by true true e f = refl
  by false false e f = refl
  by true false e f = absurd (apart (sym (subst (λ x. same_formula b x ≡ false) (formula_is a b e) f) ∙ formula_same b))
  by false true e f = absurd (apart (sym (subst (λ x. same_formula a x ≡ false) (formula_is b a f) e) ∙ formula_same a))
