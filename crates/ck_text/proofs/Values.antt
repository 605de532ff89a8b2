-- Decimal numbers, digit by digit.
use Rattle.std.proofs.Common.{◌≡◌, ℕ, ◌+◌, ◌-◌, ◌*◌, ◌<◌, ◌≤◌, List, [], ◌∷◌, length, get_or, refl, arith, if◌then◌else◌, Some, None, nat_lt}
use Rattle.std.proofs.lemmas.Bool.{le-ltb, lt-ltb}
use Rattle.ck_text.specs.Tokens.{value_from}

-- more digits never make a number smaller
pub value_grows : (value : ℕ) (digits : List ℕ) → value ≤ value_from value digits
value_grows value [] = omega arith
value_grows value (b ∷ digits) = omega (arith, value_grows (10 * value + (b - 48)) digits)

-- a number that is too large stays so
pub too_large : (n most : ℕ) → most ≤ n → (if nat_lt n most then Some n else None) ≡ None
too_large n most h = rw (le-ltb n most h) refl

pub small_enough : (n most : ℕ) → n < most → (if nat_lt n most then Some n else None) ≡ Some n
small_enough n most h = rw (lt-ltb n most h) refl

-- a number is too large where it is with one digit more
pub step_large : (most value : ℕ) (rest : List ℕ) → 1 ≤ length rest → most ≤ 10 * value + (get_or rest 0 0 - 48) → most ≤ value_from value rest
step_large most value [] some large = absurd (omega (arith, some))
step_large most value (b ∷ digits) some large = omega (arith, large, value_grows (10 * value + (b - 48)) digits)

pub value_ends : (value : ℕ) (rest : List ℕ) → length rest < 1 → value_from value rest ≡ value
value_ends value [] none = refl
value_ends value (b ∷ digits) none = absurd (omega (arith, none))
