-- The formula of a proof is true where all hypotheses are, by induction on the proof.
use Rattle.std.proofs.Common.{◌≡◌, ℕ, zero, suc, true, List, [], ◌∷◌, Some, slice_get, sym, subst, ap}
use mathlib.Core.Path.{transport}
use Rattle.ck_base.specs.declared.decl.Decl.{Decl}
use Rattle.ck_base.specs.declared.decl.Sort.{Sort}
use Rattle.sorted_terms.specs.Tree.{binary, equal}
use Rattle.sorted_terms.specs.Values.{Value, number, truth, same_value, State, Environment, IsState, AreOf, value}
use Rattle.sorted_terms.proofs.Substituting.{value_sorted}
use Rattle.formulas.specs.Tree.{FormulaTree, bottom, holds, joined, implies, and_also, or_else, quantified, for_all, there_is, not_so}
use Rattle.formulas.specs.Truth.{Truth, AllTrue}
use Rattle.formulas.specs.Substitution.{shift, instance}
use Rattle.formulas.specs.Context.{raised}
use Rattle.formulas.proofs.Substituting.{truth_shift, truth_instance}
use Rattle.formulas.proofs.Stability as stability
use Rattle.arith_axioms.proofs.Truths.{axiom_true, induction_true}
use Rattle.arith_axioms.proofs.Constants.{computed_true}
use Rattle.arith_axioms.proofs.Totals.{equal_terms}
use Rattle.proof_terms.specs.Tree.{ProofTree, hypothesis, lambda, application, general, special, pair, first, second, left_of, right_of, by_cases, pack, unpack, from_bottom, stable, reflexive, rewriting, an_axiom, induction, computing, ring_equal}
use Rattle.type_checker.specs.Typing.{Has}
use Rattle.type_checker.specs.SameLaws.{integer_is, integer_same, boolean_is, boolean_same}

one_true : (hypotheses : List FormulaTree) (k : ℕ) (a : FormulaTree) (state : State) (environment : Environment) → AllTrue hypotheses state environment → slice_get hypotheses k ≡ Some a → Truth a state environment
one_true [] k a state environment all e = absurd (cc)
one_true (b ∷ hypotheses) zero a state environment all e = let same : b ≡ a = cc in subst (λ x. Truth x state environment) same all.0
one_true (b ∷ hypotheses) (suc k) a state environment all e = one_true hypotheses k a state environment all.1 e

-- the hypotheses do not speak of a new variable
raised_true : (hypotheses : List FormulaTree) (v : Value) (state : State) (environment : Environment) → AllTrue hypotheses state environment → AllTrue (raised hypotheses) state (v ∷ environment)
raised_true [] v state environment all = tt
raised_true (a ∷ hypotheses) v state environment all =
    (transport (sym (truth_shift a state [] (v ∷ []) environment)) all.0, raised_true hypotheses v state environment all.1)

value_is : (u v : Value) → same_value u v ≡ true → u ≡ v
value_is (number m) (number n) e = ap number (integer_is m n e)
value_is (number m) (truth b) e = absurd (cc)
value_is (truth a) (number n) e = absurd (cc)
value_is (truth a) (truth b) e = ap truth (boolean_is a b e)

value_same : (v : Value) → same_value v v ≡ true
value_same (number n) = integer_same n
value_same (truth b) = boolean_same b

pub sound :
    (names : List Decl) (variables : List Sort) (hypotheses : List FormulaTree) (p : ProofTree) (a : FormulaTree)
    → Has names variables hypotheses p a
    → (state : State) (environment : Environment) → IsState names state → AreOf variables environment
    → AllTrue hypotheses state environment → Truth a state environment
sound names variables hypotheses (hypothesis k) a h state environment is are all = one_true hypotheses k a state environment all h.1
sound names variables hypotheses (lambda a p) c h state environment is are all =
    subst (λ x. Truth x state environment) (sym h.4) (λ t. sound names variables (a ∷ hypotheses) p h.2 h.3 state environment is are (t, all))
sound names variables hypotheses (application p q) b h state environment is are all =
    sound names variables hypotheses p (joined implies h.1 b) h.2 state environment is are all (sound names variables hypotheses q h.1 h.3 state environment is are all)
sound names variables hypotheses (general s p) c h state environment is are all =
    subst (λ x. Truth x state environment) (sym h.3)
    (λ v o. sound names (s ∷ variables) (raised hypotheses) p h.1 h.2 state (v ∷ environment) is (o, are) (raised_true hypotheses v state environment all))
sound names variables hypotheses (special p t) c h state environment is are all =
    subst (λ x. Truth x state environment) (sym h.5)
    (transport (sym (truth_instance h.2 t state [] environment))
    (sound names variables hypotheses p (quantified for_all h.1 h.2) h.3 state environment is are all (value t state environment) (value_sorted names variables t h.1 h.4 state environment is are)))
sound names variables hypotheses (pair p q) c h state environment is are all =
    subst (λ x. Truth x state environment) (sym h.5)
    (sound names variables hypotheses p h.1 h.3 state environment is are all, sound names variables hypotheses q h.2 h.4 state environment is are all)
sound names variables hypotheses (first p) a h state environment is are all =
    (sound names variables hypotheses p (joined and_also a h.1) h.2 state environment is are all).0
sound names variables hypotheses (second p) b h state environment is are all =
    (sound names variables hypotheses p (joined and_also h.1 b) h.2 state environment is are all).1
sound names variables hypotheses (left_of b p) c h state environment is are all =
    subst (λ x. Truth x state environment) (sym h.4) (λ k. k.0 (sound names variables hypotheses p h.2 h.3 state environment is are all))
sound names variables hypotheses (right_of a p) c h state environment is are all =
    subst (λ x. Truth x state environment) (sym h.4) (λ k. k.1 (sound names variables hypotheses p h.2 h.3 state environment is are all))
sound names variables hypotheses (by_cases p q r) c h state environment is are all =
    stability.stable c state environment (λ k. sound names variables hypotheses p (joined or_else h.1 h.2) h.3 state environment is are all
    ((λ t. k (sound names variables (h.1 ∷ hypotheses) q c h.4 state environment is are (t, all))), (λ t. k (sound names variables (h.2 ∷ hypotheses) r c h.5 state environment is are (t, all)))))
sound names variables hypotheses (pack s a t p) c h state environment is are all =
    subst (λ x. Truth x state environment) (sym h.4)
    (λ k. k (value t state environment) (value_sorted names variables t s h.2 state environment is are)
    (transport (truth_instance a t state [] environment) (sound names variables hypotheses p (instance a t 0) h.3 state environment is are all)))
sound names variables hypotheses (unpack p q) c h state environment is are all =
    stability.stable c state environment (λ k. sound names variables hypotheses p (quantified there_is h.1 h.2) h.3 state environment is are all
    (λ v o t. k (transport (truth_shift c state [] (v ∷ []) environment)
    (sound names (h.1 ∷ variables) (h.2 ∷ raised hypotheses) q (shift c 1 0) h.4 state (v ∷ environment) is (o, are) (t, raised_true hypotheses v state environment all)))))
sound names variables hypotheses (from_bottom a p) c h state environment is are all =
    absurd (sound names variables hypotheses p bottom h.2 state environment is are all)
sound names variables hypotheses (stable p) a h state environment is are all =
    stability.stable a state environment (sound names variables hypotheses p (not_so (not_so a)) h.1 state environment is are all)
sound names variables hypotheses (reflexive t) c h state environment is are all =
    subst (λ x. Truth x state environment) (sym h.2) (value_same (value t state environment))
sound names variables hypotheses (rewriting a p q) c h state environment is are all =
    let equal_values : value h.2 state environment ≡ value h.3 state environment =
    value_is (value h.2 state environment) (value h.3 state environment) (sound names variables hypotheses p (holds (binary equal h.2 h.3)) h.4 state environment is are all) in
    subst (λ x. Truth x state environment) (sym h.6)
    (transport (sym (truth_instance a h.3 state [] environment))
    (subst (λ v. Truth a state (v ∷ environment)) equal_values
    (transport (truth_instance a h.2 state [] environment) (sound names variables hypotheses q (instance a h.2 0) h.5 state environment is are all))))
sound names variables hypotheses (an_axiom i) a h state environment is are all = axiom_true i a state environment h.1
sound names variables hypotheses (induction a) c h state environment is are all =
    subst (λ x. Truth x state environment) (sym h.2) (induction_true a state environment)
sound names variables hypotheses (computing t) c h state environment is are all =
    subst (λ x. Truth x state environment) (sym h.3) (computed_true t state environment h.2)
sound names variables hypotheses (ring_equal s t) c h state environment is are all =
    subst (λ x. Truth x state environment) (sym h.4) (equal_terms names variables s t h.1 h.2 h.3.1 state environment is are)
sound names variables hypotheses p a h state environment is are all = absurd h
