-- Truth without quantifiers is computed, by induction on the formula and the table of each connective.
use Rattle.std.proofs.Common.{◌≡◌, ◌↔◌, Bool, true, false, refl}
use Rattle.std.proofs.lemmas.Bool.{or_parts}
use Rattle.sorted_terms.specs.Values.{State, Environment}
use Rattle.formulas.specs.Tree.{Connective, implies, and_also, or_else, FormulaTree, bottom, holds, joined, quantified}
use Rattle.formulas.specs.Truth.{Joins, Truth}
use Rattle.formulas.specs.Computed.{has_quantifier, joined_truth, computed}

clash : false ≡ true → ⊥
clash e = absurd (cc)

tables : (c : Connective) {A B : Type 0} (x y : Bool) → A ↔ (x ≡ true) → B ↔ (y ≡ true) → Joins c A B ↔ (joined_truth c x y ≡ true)
tables implies true true p q = ((λ f. refl), (λ e u. q.1 refl))
tables implies true false p q = ((λ f. q.0 (f (p.1 refl))), (λ e. absurd (clash e)))
tables implies false y p q = ((λ f. refl), (λ e u. absurd (clash (p.0 u))))
tables and_also true true p q = ((λ f. refl), (λ e. (p.1 refl, q.1 refl)))
tables and_also true false p q = ((λ f. q.0 f.1), (λ e. absurd (clash e)))
tables and_also false y p q = ((λ f. p.0 f.0), (λ e. absurd (clash e)))
tables or_else true y p q = ((λ f. refl), (λ e k. k.0 (p.1 refl)))
tables or_else false true p q = ((λ f. refl), (λ e k. k.1 (q.1 refl)))
tables or_else false false p q = ((λ f. absurd (f ((λ u. clash (p.0 u)), (λ v. clash (q.0 v))))), (λ e. absurd (clash e)))

pub decided : (a : FormulaTree) (state : State) (environment : Environment) → has_quantifier a ≡ false → Truth a state environment ↔ (computed a state environment ≡ true)
decided bottom state environment h = ((λ x. absurd x), (λ e. clash e))
decided (holds t) state environment h = ((λ e. e), (λ e. e))
decided (joined c a b) state environment h =
    let parts = or_parts (has_quantifier a) (has_quantifier b) h in
    tables c (computed a state environment) (computed b state environment) (decided a state environment parts.0) (decided b state environment parts.1)
decided (quantified q s a) state environment h = absurd (cc)
