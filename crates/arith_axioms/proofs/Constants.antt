-- The value of a closed term, its parts and its bounds.
use Rattle.std.proofs.Common.{◌≡◌, ℕ, zero, suc, ◌+◌, ◌*◌, ◌≤◌, ◌<◌, ◌^◌, nat_le, ℤ, pos, ◌+ℤ◌, ◌-ℤ◌, ◌*ℤ◌, unsigned_abs, FitsSigned, Bool, true, false, ◌&&◌, [], arith, subst, sym, ap, ap₂, refl, ◌∙◌, if◌then◌else◌, not, Result, Ok, Err}
use Rattle.std.proofs.Math.Nat.{mul-le-mul, mul-one, mul_comm, mul-le-mul_left}
use Rattle.std.proofs.lemmas.Int.{ints, unsigned_abs-mul, fits_signed_from_abs}
use mir.Syntax.{w128}
use Rattle.sorted_terms.specs.Tree.{minus, denial, plus, difference, times, equal, less, at_most, both, either, TermTree, name, index, integer, boolean, unary, binary}
use Rattle.sorted_terms.specs.Values.{as_truth, State, Environment, unary_value, binary_value, value}
use Rattle.sorted_terms.specs.Weights.{is_closed, term_weight}
use Rattle.sorted_terms.proofs.Weighing.{bounded}
use Rattle.formulas.specs.Tree.{holds}
use Rattle.formulas.specs.Truth.{Truth}
use Rattle.arith_axioms.specs.declared.no_compute.NoCompute.{NoCompute}
use Rattle.arith_axioms.specs.declared.no_compute.NoCompute.TheVariants.{NotClosed, Wide, False}
use Rattle.arith_axioms.specs.Computing.{computing, HasRoom}

-- an upper bound below a bound
le_lt_trans : {a b c : ℕ} → a ≤ b → b < c → a < c
le_lt_trans h k = omega (arith, h, k)

clash : false ≡ true → ⊥
clash e = absurd (cc)

both_parts : (a b : Bool) → (a && b) ≡ true → (a ≡ true) × (b ≡ true)
both_parts true b e = (refl, e)
both_parts false b e = absurd (clash e)

-- the value of a closed term is the same in every state and environment
pub constant : (t : TermTree) (state : State) (environment : Environment) → is_closed t ≡ true → value t state environment ≡ value t [] []
constant (name x) state environment e = absurd (clash e)
constant (index k) state environment e = absurd (clash e)
constant (integer n) state environment e = refl
constant (boolean b) state environment e = refl
constant (unary sign t) state environment e = ap (unary_value sign) (constant t state environment e)
constant (binary sign s t) state environment e =
    let parts = both_parts (is_closed s) (is_closed t) e in
    ap₂ (binary_value sign) (constant s state environment parts.0) (constant t state environment parts.1)

weight_positive : (t : TermTree) → 0 < term_weight t
weight_positive (name x) = omega arith
weight_positive (index k) = omega arith
weight_positive (integer n) = omega arith
weight_positive (boolean b) = omega arith
weight_positive (unary sign t) = weight_positive t
weight_positive (binary times s t) = product_positive (term_weight s) (term_weight t) (weight_positive s) (weight_positive t)
  where
    product_positive : (m n : ℕ) → 0 < m → 0 < n → 0 < m * n
    product_positive zero n h k = absurd (omega (arith, h))
    product_positive (suc m) zero h k = absurd (omega (arith, k))
    product_positive (suc m) (suc n) h k = grind arith
weight_positive (binary plus s t) = omega (arith, weight_positive s)
weight_positive (binary difference s t) = omega (arith, weight_positive s)
weight_positive (binary equal s t) = omega (arith, weight_positive s)
weight_positive (binary less s t) = omega (arith, weight_positive s)
weight_positive (binary at_most s t) = omega (arith, weight_positive s)
weight_positive (binary both s t) = omega (arith, weight_positive s)
weight_positive (binary either s t) = omega (arith, weight_positive s)

-- a factor is at most the product where the other factor is not 0
left_factor : (m n : ℕ) → 0 < n → m ≤ m * n
left_factor m n h = subst (λ k. k ≤ m * n) (mul-one m) (mul-le-mul_left m h)

right_factor : (m n : ℕ) → 0 < m → n ≤ m * n
right_factor m n h = subst (λ k. n ≤ k) (mul_comm n m) (left_factor n m h)

-- the factors of a product are as narrow as the product
pub left_narrow : (s t : TermTree) → term_weight s * term_weight t < 2 ^ 127 → term_weight s < 2 ^ 127
left_narrow s t h = le_lt_trans (left_factor (term_weight s) (term_weight t) (weight_positive t)) h

pub right_narrow : (s t : TermTree) → term_weight s * term_weight t < 2 ^ 127 → term_weight t < 2 ^ 127
right_narrow s t h = le_lt_trans (right_factor (term_weight s) (term_weight t) (weight_positive s)) h

-- what the code computes fits 128 bits
pub negation_fits : (a : ℤ) → unsigned_abs a < 2 ^ 127 → FitsSigned w128 (pos 0 -ℤ a)
negation_fits a h = fits_signed_from_abs w128 (pos 0 -ℤ a) (small a h)
  where
    small : (a : ℤ) → unsigned_abs a < 2 ^ 127 → unsigned_abs (pos 0 -ℤ a) < 2 ^ 127
    small a h = omega (arith, ints)

pub sum_fits : (a b : ℤ) → unsigned_abs a + unsigned_abs b < 2 ^ 127 → FitsSigned w128 (a +ℤ b)
sum_fits a b h = fits_signed_from_abs w128 (a +ℤ b) (small a b h)
  where
    small : (a b : ℤ) → unsigned_abs a + unsigned_abs b < 2 ^ 127 → unsigned_abs (a +ℤ b) < 2 ^ 127
    small a b h = omega (arith, ints)

pub difference_fits : (a b : ℤ) → unsigned_abs a + unsigned_abs b < 2 ^ 127 → FitsSigned w128 (a -ℤ b)
difference_fits a b h = fits_signed_from_abs w128 (a -ℤ b) (small a b h)
  where
    small : (a b : ℤ) → unsigned_abs a + unsigned_abs b < 2 ^ 127 → unsigned_abs (a -ℤ b) < 2 ^ 127
    small a b h = omega (arith, ints)

pub product_fits : (a b : ℤ) → unsigned_abs a * unsigned_abs b < 2 ^ 127 → FitsSigned w128 (a *ℤ b)
product_fits a b h = fits_signed_from_abs w128 (a *ℤ b) (subst (λ n. n < 2 ^ 127) (sym (unsigned_abs-mul a b)) h)

-- a closed term has room where its weight is below 2^127
pub has_room : (t : TermTree) → is_closed t ≡ true → term_weight t < 2 ^ 127 → HasRoom t
has_room (name x) e h = clash e
has_room (index k) e h = clash e
has_room (integer n) e h = tt
has_room (boolean b) e h = tt
has_room (unary minus t) e h = (has_room t e h, le_lt_trans (bounded t [] [] e) h)
has_room (unary denial t) e h = (has_room t e h, tt)
has_room (binary times s t) e h =
    let parts = both_parts (is_closed s) (is_closed t) e in
    (has_room s parts.0 (left_narrow s t h), has_room t parts.1 (right_narrow s t h), le_lt_trans (mul-le-mul (bounded s [] [] parts.0) (bounded t [] [] parts.1)) h)
has_room (binary plus s t) e h =
    let parts = both_parts (is_closed s) (is_closed t) e in
    (has_room s parts.0 (omega (arith, h)), has_room t parts.1 (omega (arith, h)), omega (arith, bounded s [] [] parts.0, bounded t [] [] parts.1, h))
has_room (binary difference s t) e h =
    let parts = both_parts (is_closed s) (is_closed t) e in
    (has_room s parts.0 (omega (arith, h)), has_room t parts.1 (omega (arith, h)), omega (arith, bounded s [] [] parts.0, bounded t [] [] parts.1, h))
has_room (binary equal s t) e h =
    let parts = both_parts (is_closed s) (is_closed t) e in
    (has_room s parts.0 (omega (arith, h)), has_room t parts.1 (omega (arith, h)), tt)
has_room (binary less s t) e h =
    let parts = both_parts (is_closed s) (is_closed t) e in
    (has_room s parts.0 (omega (arith, h)), has_room t parts.1 (omega (arith, h)), tt)
has_room (binary at_most s t) e h =
    let parts = both_parts (is_closed s) (is_closed t) e in
    (has_room s parts.0 (omega (arith, h)), has_room t parts.1 (omega (arith, h)), tt)
has_room (binary both s t) e h =
    let parts = both_parts (is_closed s) (is_closed t) e in
    (has_room s parts.0 (omega (arith, h)), has_room t parts.1 (omega (arith, h)), tt)
has_room (binary either s t) e h =
    let parts = both_parts (is_closed s) (is_closed t) e in
    (has_room s parts.0 (omega (arith, h)), has_room t parts.1 (omega (arith, h)), tt)

-- where computing tells Ok, the term is closed and its value is true
allowed : (c w v : Bool) → ◌≡◌ {A = Result (Unit {0}) NoCompute} (if not c then Err NotClosed else if w then Err Wide else if not v then Err False else Ok tt) (Ok tt) → (c ≡ true) × (v ≡ true)
allowed true false true e = (refl, refl)
allowed true false false e = absurd (cc)
allowed true true v e = absurd (cc)
allowed false w v e = absurd (cc)

pub computed_true : (t : TermTree) (state : State) (environment : Environment) → computing t ≡ Ok tt → Truth (holds t) state environment
computed_true t state environment e =
    let parts = allowed (is_closed t) (nat_le (2 ^ 127) (term_weight t)) (as_truth (value t [] [])) e in
    ap as_truth (constant t state environment parts.0) ∙ parts.1
