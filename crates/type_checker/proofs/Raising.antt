-- Hypotheses under more variables.
use Rattle.std.proofs.Common.{◌≡◌, ℕ, zero, suc, ◌+◌, ◌<◌, ◌≤◌, ⊎_elim, nat_lt, if◌then◌else◌, List, [], ◌∷◌, Some, slice_get, refl, ap, subst, add-zero}
use Rattle.std.specs.Option.{option_map}
use Rattle.std.proofs.lemmas.Bool.{cases_lt, lt-ltb, le-ltb}
use Rattle.sorted_terms.specs.Tree.{TermTree, name, index, integer, boolean, unary, binary}
use Rattle.sorted_terms.specs.Substitution.{shift_term}
use Rattle.formulas.specs.Tree.{FormulaTree, bottom, holds, joined, quantified}
use Rattle.formulas.specs.Substitution.{shift, HasIndicesBelow}
use Rattle.formulas.specs.Context.{raised, AllIndicesBelow}

-- a shift by nothing changes nothing
index_none : (k above : ℕ) → (if nat_lt k above then k else k + 0) ≡ k
index_none k above = ⊎_elim (λ (h : k < above). rw (lt-ltb k above h) refl) (λ (h : above ≤ k). rw (le-ltb k above h) (add-zero k)) (cases_lt k above)

term_none : (t : TermTree) (above : ℕ) → shift_term t 0 above ≡ t
term_none (name x) above = refl
term_none (index k) above = ap (λ k. index k) (index_none k above)
term_none (integer n) above = refl
term_none (boolean b) above = refl
term_none (unary sign t) above = ap (λ t. unary sign t) (term_none t above)
term_none (binary sign s t) above = cc (term_none s above, term_none t above)

pub shift_none : (a : FormulaTree) (above : ℕ) → shift a 0 above ≡ a
shift_none bottom above = refl
shift_none (holds t) above = ap (λ t. holds t) (term_none t above)
shift_none (joined c a b) above = cc (shift_none a above, shift_none b above)
shift_none (quantified q s a) above = ap (λ a. quantified q s a) (shift_none a (suc above))

-- a raised hypothesis
pub get_raised : (hypotheses : List FormulaTree) (k : ℕ) → slice_get (raised hypotheses) k ≡ option_map (λ a. shift a 1 0) (slice_get hypotheses k)
get_raised [] k = refl
get_raised (a ∷ hypotheses) zero = refl
get_raised (a ∷ hypotheses) (suc k) = get_raised hypotheses k

-- one of formulas whose indices are all below a bound
pub held_below : (bound : ℕ) (hypotheses : List FormulaTree) (k : ℕ) (a : FormulaTree) → AllIndicesBelow bound hypotheses → slice_get hypotheses k ≡ Some a → HasIndicesBelow bound a
held_below bound [] k a h e = absurd (cc)
held_below bound (b ∷ hypotheses) zero a h e = let same : b ≡ a = cc in subst (HasIndicesBelow bound) same h.0
held_below bound (b ∷ hypotheses) (suc k) a h e = held_below bound hypotheses k a h.1 e
