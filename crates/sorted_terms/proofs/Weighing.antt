-- The absolute value of a closed term is at most its weight.
use Rattle.std.proofs.Common.{◌≡◌, ℕ, ◌+◌, ◌*◌, ◌≤◌, max, ℤ, pos, negsuc, ◌+ℤ◌, ◌-ℤ◌, ◌*ℤ◌, neg_ℤ, unsigned_abs, Bool, true, false, ◌&&◌, arith, mul-le-mul, subst, sym, refl}
use Rattle.std.proofs.lemmas.Int.{ints, unsigned_abs-mul}
use Rattle.sorted_terms.specs.Tree.{UnarySign, minus, denial, BinarySign, plus, difference, times, equal, less, at_most, both, either, TermTree, name, index, integer, boolean, unary, binary}
use Rattle.sorted_terms.specs.Values.{as_number, State, Environment, value}
use Rattle.sorted_terms.specs.Weights.{is_closed, term_weight}

abs_negation : (a : ℤ) → unsigned_abs (neg_ℤ a) ≤ unsigned_abs a
abs_negation (pos n) = omega (arith, ints)
abs_negation (negsuc n) = omega (arith, ints)

abs_sum : (a b : ℤ) → unsigned_abs (a +ℤ b) ≤ unsigned_abs a + unsigned_abs b
abs_sum a b = omega (arith, ints)

abs_difference : (a b : ℤ) → unsigned_abs (a -ℤ b) ≤ unsigned_abs a + unsigned_abs b
abs_difference a b = omega (arith, ints)

both_closed : (a b : Bool) → (a && b) ≡ true → (a ≡ true) × (b ≡ true)
both_closed true b e = (refl, e)
both_closed false b e = absurd (cc)

pub bounded : (t : TermTree) (state : State) (environment : Environment) → is_closed t ≡ true → unsigned_abs (as_number (value t state environment)) ≤ term_weight t
bounded (name x) state environment e = absurd (cc)
bounded (index k) state environment e = absurd (cc)
bounded (integer n) state environment e = omega arith
bounded (boolean b) state environment e = omega arith
bounded (unary minus t) state environment e =
    omega (arith, abs_negation (as_number (value t state environment)), bounded t state environment e)
bounded (unary denial t) state environment e = omega arith
bounded (binary plus s t) state environment e =
    let parts = both_closed (is_closed s) (is_closed t) e in
    omega (arith, abs_sum (as_number (value s state environment)) (as_number (value t state environment)), bounded s state environment parts.0, bounded t state environment parts.1)
bounded (binary difference s t) state environment e =
    let parts = both_closed (is_closed s) (is_closed t) e in
    omega (arith, abs_difference (as_number (value s state environment)) (as_number (value t state environment)), bounded s state environment parts.0, bounded t state environment parts.1)
bounded (binary times s t) state environment e =
    let parts = both_closed (is_closed s) (is_closed t) e in
    subst (λ n. n ≤ term_weight s * term_weight t) (sym (unsigned_abs-mul (as_number (value s state environment)) (as_number (value t state environment)))) (mul-le-mul (bounded s state environment parts.0) (bounded t state environment parts.1))
bounded (binary equal s t) state environment e = omega arith
bounded (binary less s t) state environment e = omega arith
bounded (binary at_most s t) state environment e = omega arith
bounded (binary both s t) state environment e = omega arith
bounded (binary either s t) state environment e = omega arith
