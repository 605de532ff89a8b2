-- Truth is stable under double negation, by induction on the formula.
use Rattle.std.proofs.Common.{◌≡◌, Bool, true, false, ◌∷◌, refl}
use Rattle.sorted_terms.specs.Values.{as_truth, State, Environment, value}
use Rattle.formulas.specs.Tree.{implies, and_also, or_else, for_all, there_is, FormulaTree, bottom, holds, joined, quantified}
use Rattle.formulas.specs.Truth.{Truth}

stable_boolean : (b : Bool) → ((b ≡ true → ⊥) → ⊥) → b ≡ true
stable_boolean true h = refl
stable_boolean false h = absurd (h (λ e. absurd (cc)))

pub stable : (a : FormulaTree) (state : State) (environment : Environment) → ((Truth a state environment → ⊥) → ⊥) → Truth a state environment
stable bottom state environment h = h (λ x. x)
stable (holds t) state environment h = stable_boolean (as_truth (value t state environment)) h
stable (joined implies a b) state environment h = λ x. stable b state environment (λ k. h (λ f. k (f x)))
stable (joined and_also a b) state environment h = (stable a state environment (λ k. h (λ p. k p.0)), stable b state environment (λ k. h (λ p. k p.1)))
stable (joined or_else a b) state environment h = λ k. h (λ d. d k)
stable (quantified for_all s a) state environment h = λ v o. stable a state (v ∷ environment) (λ k. h (λ f. k (f v o)))
stable (quantified there_is s a) state environment h = λ k. h (λ e. e k)
