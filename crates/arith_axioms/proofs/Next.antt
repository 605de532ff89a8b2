-- The formula about the next integer, index by index, and where no index is that high.
use Rattle.std.proofs.Common.{◌≡◌, ◌≢◌, ℕ, suc, ◌+◌, ◌-◌, ◌≤◌, ◌<◌, ◌^◌, nat_lt, ◌==◌, Bool, true, false, if◌then◌else◌, ⊎_elim, arith, ap, refl, ◌∙◌, ℤ, pos}
use Rattle.std.proofs.lemmas.Bool.{cases_lt, lt-ltb, le-ltb}
use Rattle.std.proofs.lemmas.Bool.Decides.{eqb_tells}
use Rattle.sorted_terms.specs.Tree.{TermTree, name, index, integer, boolean, unary, binary}
use Rattle.sorted_terms.specs.Substitution.{HasTermIndicesBelow, instance_at, instance_term}
use Rattle.formulas.specs.Tree.{FormulaTree, bottom, holds, joined, quantified}
use Rattle.formulas.specs.Substitution.{instance, HasIndicesBelow}
use Rattle.formulas.proofs.Places.{shift_past, instance_past}
use Rattle.arith_axioms.specs.Axioms.{◌+'◌, 1', next_at, next_term}

same_number : (m n : ℕ) → m ≡ n → (m == n) ≡ true
same_number m n h = ⊎_elim (λ (e : ((m == n) ≡ true) × (m ≡ n)). e.0) (λ (e : ((m == n) ≡ false) × (m ≢ n)). absurd (e.1 h)) (eqb_tells m n)

other_number : (m n : ℕ) → m ≢ n → (m == n) ≡ false
other_number m n h = ⊎_elim (λ (e : ((m == n) ≡ true) × (m ≡ n)). absurd (h e.1)) (λ (e : ((m == n) ≡ false) × (m ≢ n)). e.0) (eqb_tells m n)

pub next_here : (k at : ℕ) → k ≡ at → next_term at (index k) ≡ index at +' 1'
next_here k at h =
    let below : nat_lt k (suc at) ≡ true = lt-ltb k (suc at) (omega (arith, h)) in
    let not_below : nat_lt k at ≡ false = le-ltb k at (omega (arith, h)) in
    let none : 0 + at ≡ at = omega arith in
    rw (below, not_below, same_number k at h, none) refl

pub next_elsewhere : (k at : ℕ) → k ≢ at → next_term at (index k) ≡ index k
next_elsewhere k at h =
    ⊎_elim
    (λ (l : k < at).
    let below : nat_lt k (suc at) ≡ true = lt-ltb k (suc at) (omega (arith, l)) in
    let still : nat_lt k at ≡ true = lt-ltb k at l in
    rw (below, still) refl)
    (λ (l : at ≤ k).
    let up : at < k = omega (arith, l, h) in
    let above : nat_lt k (suc at) ≡ false = le-ltb k (suc at) (omega (arith, up)) in
    let still : nat_lt (k + 1) at ≡ false = le-ltb (k + 1) at (omega (arith, up)) in
    let apart : (k + 1) ≢ at = (λ e. omega (arith, up, e)) in
    let down : k + 1 - 1 ≡ k = omega arith in
    rw (above, still, other_number (k + 1) at apart, down) refl)
    (cases_lt k at)

pub next_past : (a : FormulaTree) (at : ℕ) → 2 ^ 32 ≤ suc at → HasIndicesBelow (2 ^ 32) a → next_at (suc at) a ≡ a
next_past a at h i = ap (λ b. instance b (index 0 +' 1') (suc at)) (shift_past a 1 (suc at) (omega (arith, h)) i) ∙ instance_past a (index 0 +' 1') at h i

-- an integer in place of an index brings no higher index
zero_at : (bound k place : ℕ) (n : ℤ) → k < bound → HasTermIndicesBelow bound (instance_at k (integer n) place)
zero_at bound k place n h = by (nat_lt k place) (k == place)
  where
    by : (b c : Bool) → HasTermIndicesBelow bound (if b then index k else (if c then integer n else index (k - 1)))
    by true c = h
    by false true = tt
    by false false = omega (arith, h)

term_room : (t : TermTree) (bound place : ℕ) (n : ℤ) → HasTermIndicesBelow bound t → HasTermIndicesBelow bound (instance_term t (integer n) place)
term_room (name x) bound place n i = tt
term_room (index k) bound place n i = zero_at bound k place n i
term_room (integer m) bound place n i = tt
term_room (boolean b) bound place n i = tt
term_room (unary sign t) bound place n i = term_room t bound place n i
term_room (binary sign s t) bound place n i = (term_room s bound place n i.0, term_room t bound place n i.1)

room : (a : FormulaTree) (bound place : ℕ) (n : ℤ) → HasIndicesBelow bound a → HasIndicesBelow bound (instance a (integer n) place)
room bottom bound place n i = tt
room (holds t) bound place n i = term_room t bound place n i
room (joined c a b) bound place n i = (room a bound place n i.0, room b bound place n i.1)
room (quantified q s a) bound place n i = room a bound (suc place) n i

pub zero_room : (a : FormulaTree) → HasIndicesBelow (2 ^ 32) a → HasIndicesBelow (2 ^ 32) (instance a (integer (pos 0)) 0)
zero_room a i = room a (2 ^ 32) 0 (pos 0) i
