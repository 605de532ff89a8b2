-- The formula without a new variable that does not occur in it is the one whose shift it is.
use Rattle.std.proofs.Common.{◌≡◌, ◌≢◌, ℕ, suc, ◌+◌, ◌-◌, ◌<◌, ◌≤◌, ◌==◌, Bool, true, false, not, ◌||◌, Some, None, ⊎_elim, refl, ap, ap₂, subst, arith}
use Rattle.std.proofs.lemmas.Bool.{cases_lt, lt-ltb, le-ltb}
use Rattle.std.proofs.lemmas.Bool.Decides.{eqb_tells}
use Rattle.sorted_terms.specs.Tree.{TermTree, name, index, integer, boolean, unary, binary}
use Rattle.sorted_terms.specs.Substitution.{shift_term, instance_at, instance_term, occurs_term}
use Rattle.formulas.specs.Tree.{FormulaTree, bottom, holds, joined, quantified}
use Rattle.formulas.specs.Substitution.{shift, instance, occurs}
use Rattle.formulas.proofs.Substituting.{undone, room}
use Rattle.type_checker.specs.Rules.{given, of_unpacked}

or_false : (a b : Bool) → (a || b) ≡ false → (a ≡ false) × (b ≡ false)
or_false true b e = absurd (cc)
or_false false b e = (refl, e)

lowered_index : (k : ℕ) (inserted : TermTree) (above : ℕ) → (k == above) ≡ false → shift_term (instance_at k inserted above) 1 above ≡ index k
lowered_index k inserted above e =
    ⊎_elim
    (λ (h : k < above). rw (lt-ltb k above h) (rw (lt-ltb k above h) refl))
    (λ (h : above ≤ k).
    ⊎_elim
    (λ (q : ((k == above) ≡ true) × (k ≡ above)). absurd (cc (e, q.0)))
    (λ (q : ((k == above) ≡ false) × (k ≢ above)).
    let high : above ≤ k - 1 = omega (arith, h, q.1) in
    let same : k - 1 + 1 ≡ k = omega (arith, h, q.1) in
    rw (le-ltb k above h, e) (rw (le-ltb (k - 1) above high) (ap index same)))
    (eqb_tells k above))
    (cases_lt k above)

lowered_term : (t inserted : TermTree) (above : ℕ) → occurs_term above t ≡ false → shift_term (instance_term t inserted above) 1 above ≡ t
lowered_term (name x) inserted above e = refl
lowered_term (index k) inserted above e = lowered_index k inserted above e
lowered_term (integer n) inserted above e = refl
lowered_term (boolean b) inserted above e = refl
lowered_term (unary sign t) inserted above e = ap (unary sign) (lowered_term t inserted above e)
lowered_term (binary sign s t) inserted above e =
    let both = or_false (occurs_term above s) (occurs_term above t) e in
    ap₂ (binary sign) (lowered_term s inserted above both.0) (lowered_term t inserted above both.1)

pub lowered : (a : FormulaTree) (inserted : TermTree) (above : ℕ) → occurs above a ≡ false → shift (instance a inserted above) 1 above ≡ a
lowered bottom inserted above e = refl
lowered (holds t) inserted above e = ap holds (lowered_term t inserted above e)
lowered (joined c a b) inserted above e =
    let both = or_false (occurs above a) (occurs above b) e in
    ap₂ (joined c) (lowered a inserted above both.0) (lowered b inserted above both.1)
lowered (quantified q s a) inserted above e = ap (quantified q s) (lowered a inserted (suc above) e)

-- what is found without the new variable, shifted
pub unpacked_ok : (f c : FormulaTree) → of_unpacked f ≡ Some c → shift c 1 0 ≡ f
unpacked_ok f c e = by (occurs 0 f) refl e where
  by : (b : Bool) → occurs 0 f ≡ b → given (not b) (instance f (boolean true) 0) ≡ Some c → shift c 1 0 ≡ f
  by true h e = absurd (cc)
  by false h e = let same : instance f (boolean true) 0 ≡ c = cc in subst (λ x. shift x 1 0 ≡ f) same (lowered f (boolean true) 0 h)

-- a shifted formula, lowered again
pub unpacked : (c f : FormulaTree) → shift c 1 0 ≡ f → of_unpacked f ≡ Some c
unpacked c f e = subst (λ x. of_unpacked x ≡ Some c) e (rw (room c 0) (ap Some (undone c (boolean true) 0)))

pub not_unpacked : (f : FormulaTree) → occurs 0 f ≡ true → of_unpacked f ≡ None
not_unpacked f e = rw e refl

-- two shifts, one after the other

again_index : (k m n above : ℕ) → shift_term (shift_term (index k) m above) n above ≡ shift_term (index k) (m + n) above
again_index k m n above =
    ⊎_elim
    (λ (h : k < above). rw (lt-ltb k above h) (rw (lt-ltb k above h) refl))
    (λ (h : above ≤ k).
    let high : above ≤ k + m = omega (arith, h) in
    let same : k + m + n ≡ k + (m + n) = omega arith in
    rw (le-ltb k above h) (rw (le-ltb (k + m) above high) (ap index same)))
    (cases_lt k above)

again_term : (t : TermTree) (m n above : ℕ) → shift_term (shift_term t m above) n above ≡ shift_term t (m + n) above
again_term (name x) m n above = refl
again_term (index k) m n above = again_index k m n above
again_term (integer i) m n above = refl
again_term (boolean b) m n above = refl
again_term (unary sign t) m n above = ap (unary sign) (again_term t m n above)
again_term (binary sign s t) m n above = ap₂ (binary sign) (again_term s m n above) (again_term t m n above)

pub shifted_again : (a : FormulaTree) (m n above : ℕ) → shift (shift a m above) n above ≡ shift a (m + n) above
shifted_again bottom m n above = refl
shifted_again (holds t) m n above = ap holds (again_term t m n above)
shifted_again (joined c a b) m n above = ap₂ (joined c) (shifted_again a m n above) (shifted_again b m n above)
shifted_again (quantified q s a) m n above = ap (quantified q s) (shifted_again a m n (suc above))
