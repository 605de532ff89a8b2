-- Numbers are read as they are spelled, and no other bytes are.
use Rattle.std.proofs.Common.{◌≡◌, ℕ, zero, suc, ◌+◌, ◌-◌, ◌*◌, ◌/◌, ◌%◌, ◌^◌, ◌≤◌, ◌<◌, Bool, true, false, ltb, List, [], ◌∷◌, length, replicate, refl, sym, ap, subst, ◌∙◌, arith, inl, inr, ◌⊎◌, pow-suc, mul_comm, nat_lt, if◌then◌else◌}
use mathlib.Core.Logic.{⊎_elim}
use Rattle.std.proofs.lemmas.Bool.{cases_lt, lt-ltb, le-ltb, ltb-true, leb-true, le-leb, and_parts, and_from}
use Rattle.std.proofs.lemmas.Nat.{div-mul-add, mod-mul-add, div_below, mod_below}
use Rattle.cert_codec.specs.Spelling.{number_bytes, spell_number}
use Rattle.cert_codec.specs.Reading.{Read, one, both, is_last, goes_on, between, with_low, high_at, number_at}
use Rattle.cert_codec.proofs.Readers.{Laws, like, one_laws, both_laws, choose_laws, IsBoth, StartsSo}

-- ---- bounds

-- a power of 128 has one factor more
power : (n : ℕ) → 128 ^ suc n ≡ 128 * 128 ^ n
power n = pow-suc 128 n ∙ mul_comm (128 ^ n) 128

some_power : (n : ℕ) → 0 < 128 ^ n
some_power zero = omega arith
some_power (suc n) = let p : 0 < 128 ^ n = some_power n in omega (arith, p, power n)

pub one_digit : (more first : ℕ) → first < 128 → first < 16 * 128 ^ suc more
one_digit more first lt = let p : 0 < 128 ^ more = some_power more in omega (arith, lt, p, power more)

pub more_digits : (more high first : ℕ) → high < 16 * 128 ^ more → first < 128 → 128 * high + first < 16 * 128 ^ suc more
more_digits more high first lt low = omega (arith, lt, low, power more)

-- the same, of the number of digits after the first one
pub digit_below : (more first : ℕ) → more ≡ 0 → first < 16 → first < 16 * 128 ^ more
digit_below more first none lt = subst (λ n. first < 16 * 128 ^ n) (sym none) (omega (arith, lt))

pub digit_below_more : (more first : ℕ) → (more ≡ 0 → ⊥) → first < 128 → first < 16 * 128 ^ more
digit_below_more zero first some lt = absurd (some refl)
digit_below_more (suc more) first some lt = one_digit more first lt

pub digits_below : (more high first : ℕ) → (more ≡ 0 → ⊥) → high < 16 * 128 ^ (more - 1) → first < 128 → 128 * high + first < 16 * 128 ^ more
digits_below zero high first some lt low = absurd (some refl)
digits_below (suc more) high first some lt low =
    let one_less : suc more - 1 ≡ more = omega arith in
    more_digits more high first (subst (λ n. high < 16 * 128 ^ n) one_less lt) low

pub room_for_digits : (more high first : ℕ) → more ≤ 3 → high < 16 * 128 ^ (more - 1) → first < 128 → 128 * high + first < 2 ^ 32
room_for_digits zero high first le lt low = omega (arith, lt, low)
room_for_digits (suc zero) high first le lt low = omega (arith, lt, low)
room_for_digits (suc (suc zero)) high first le lt low = omega (arith, lt, low)
room_for_digits (suc (suc (suc zero))) high first le lt low = omega (arith, lt, low)
room_for_digits (suc (suc (suc (suc n)))) high first le lt low = absurd (omega (arith, le))

-- ---- tests

between_parts : (low high x : ℕ) → between low high x ≡ true → (low ≤ x) × (x < high)
between_parts low high x e = let p = and_parts _ _ e in (leb-true _ _ p.0, ltb-true _ _ p.1)

between_from : (low high x : ℕ) → low ≤ x → x < high → between low high x ≡ true
between_from low high x le lt = and_from _ _ (le-leb _ _ le) (lt-ltb _ _ lt)

-- ---- digits

-- the two ways to spell a number
short_number : (more n : ℕ) → n < 128 → number_bytes more n ≡ n ∷ []
unfolding number_bytes
short_number zero n lt = refl
short_number (suc more) n lt = rw (lt-ltb n 128 lt) refl

long_number : (more x high : ℕ) → 0 < high → 128 ≤ x → x < 256 → number_bytes (suc more) (with_low x high) ≡ x ∷ number_bytes more high
unfolding number_bytes
long_number more x high some from below =
    let large : ltb (with_low x high) 128 ≡ false = le-ltb _ _ (omega (arith, some)) in
    let is : with_low x high ≡ high * 128 + (x - 128) = omega arith in
    let low : with_low x high % 128 ≡ x - 128 = ap (λ n. n % 128) is ∙ mod-mul-add high 128 (x - 128) (omega (arith, from, below)) in
    let up : with_low x high / 128 ≡ high = ap (λ n. n / 128) is ∙ div-mul-add high 128 (x - 128) (omega (arith, from, below)) in
    let back : 128 + (x - 128) ≡ x = omega (arith, from) in
    rw (large, low, up, back) refl

-- a number of more than one digit, from its first byte and the number of the others
from_digits : (n : ℕ) → 128 ≤ n → (n ≡ with_low (128 + n % 128) (n / 128)) × (128 ≤ 128 + n % 128) × (128 + n % 128 < 256) × (0 < n / 128)
from_digits n large =
    let low : n % 128 < 128 = mod_below n 128 (omega arith) in
    (omega (arith, low), omega arith, omega (arith, low), omega (arith, large))

abbrev IsHigh : ℕ → ℕ → Type 0
IsHigh more n = (0 < n) × (n < 16 * 128 ^ more)

-- the same for each byte
abbrev pub flat : {A : Type 0} → Bool → (A → List ℕ) → A → List Bool
flat level spelling n = replicate (length (spelling n)) level

abbrev AreDigits : ℕ → ℕ → Type 0
AreDigits more = IsBoth with_low (λ x. goes_on x ≡ true) (IsHigh more)

goes_on_parts : (x : ℕ) → goes_on x ≡ true → (128 ≤ x) × (x < 256)
goes_on_parts x e = between_parts 128 256 x e

high_to : (more n : ℕ) → (between 1 128 n ≡ true) ⊎ AreDigits more n → IsHigh (suc more) n
high_to more n (inl h) =
    let p = between_parts 1 128 n h in
    (omega (arith, p.0), one_digit more n p.1)
high_to more n (inr h) =
    let p = goes_on_parts h.0 h.3 in
    subst (IsHigh (suc more)) (sym h.2) (omega (arith, h.4.0), omega (arith, more_digits more h.1 (h.0 - 128) h.4.1 (omega (arith, p.0, p.1))))

high_from : (more n : ℕ) → IsHigh (suc more) n → (between 1 128 n ≡ true) ⊎ AreDigits more n
high_from more n h =
    ⊎_elim
    (λ (lt : n < 128). inl (between_from 1 128 n (omega (arith, h.0)) lt))
    (λ (le : 128 ≤ n).
    let d = from_digits n le in
    inr (128 + n % 128, n / 128, d.0, between_from 128 256 (128 + n % 128) d.1 d.2, (d.3, div_below n 128 (16 * 128 ^ more) (omega arith) (omega (arith, h.1, power more)))))
    (cases_lt n 128)

many_digits : (more x high : ℕ) → goes_on x ≡ true → 0 < high → number_bytes (suc more) (with_low x high) ≡ x ∷ number_bytes more high
many_digits more x high e some = let p = goes_on_parts x e in long_number more x high some p.0 p.1

starts_short : (more : ℕ) → StartsSo is_last true (number_bytes more) (λ n. between 1 128 n ≡ true)
starts_short more n h = let p = between_parts 1 128 n h in (n, [], short_number more n p.1, lt-ltb n 128 p.1)

starts_long : (more : ℕ) → StartsSo is_last false (number_bytes (suc more)) (AreDigits more)
starts_long more n h =
    let p = goes_on_parts h.0 h.3 in
    (h.0, number_bytes more h.1, ap (number_bytes (suc more)) h.2 ∙ many_digits more h.0 h.1 h.3 h.4.0, le-ltb h.0 128 p.0)

one_digit_laws : (level : Bool) → level ≡ true → (more : ℕ) → Laws (λ n. between 1 128 n ≡ true) (number_bytes more) (flat level (number_bytes more)) (one (between 1 128))
one_digit_laws level low more =
    like (one_laws level low (between 1 128) 1 refl) (λ n h. h) (λ n h. h)
    (λ n h. short_number more n (between_parts 1 128 n h).1)
    (λ n h. ap (λ w. replicate (length w) level) (short_number more n (between_parts 1 128 n h).1))

digits_laws : (level : Bool) → level ≡ true → (more : ℕ) {read : List ℕ → Read ℕ} → Laws (IsHigh more) (number_bytes more) (flat level (number_bytes more)) read → Laws (AreDigits more) (number_bytes (suc more)) (flat level (number_bytes (suc more))) (both with_low (one goes_on) read)
digits_laws level low more {read} l =
    both_laws with_low (number_bytes (suc more)) (flat level (number_bytes (suc more))) (one_laws level low goes_on 128 refl) l
    (λ x high e h. many_digits more x high e h.0)
    (λ x high e h. ap (λ w. replicate (length w) level) (many_digits more x high e h.0))

high_zero_to : (n : ℕ) → between 1 16 n ≡ true → IsHigh 0 n
high_zero_to n h = let p = between_parts 1 16 n h in (omega (arith, p.0), omega (arith, p.1))

high_laws : (level : Bool) → level ≡ true → (more : ℕ) → Laws (IsHigh more) (number_bytes more) (flat level (number_bytes more)) (high_at more)
unfolding high_at number_bytes
high_laws level low zero =
    like (one_laws level low (between 1 16) 1 refl) high_zero_to (λ n h. between_from 1 16 n (omega (arith, h.0)) (omega (arith, h.1))) (λ n h. refl) (λ n h. refl)
high_laws level low (suc more) =
    like (choose_laws is_last (one_digit_laws level low (suc more)) (digits_laws level low more (high_laws level low more)) (starts_short (suc more)) (starts_long more)) (high_to more) (high_from more) (λ n h. refl) (λ n h. refl)

-- ---- numbers below 2 ^ 32

-- a number of few digits is spelled with the same digits where more would have room
fewer : (k m n : ℕ) → k ≤ m → n < 128 ^ suc k → number_bytes m n ≡ number_bytes k n
unfolding number_bytes
fewer zero m n le lt = short_number m n (omega (arith, lt))
fewer (suc k) zero n le lt = absurd (omega (arith, le))
fewer (suc k) (suc m) n le lt =
    ap (λ w. if nat_lt n 128 then n ∷ [] else (128 + n % 128) ∷ w) (fewer k m (n / 128) (omega (arith, le)) (div_below n 128 (128 ^ suc k) (omega arith) (omega (arith, lt, power (suc k)))))

abbrev pub IsNumber : ℕ → Type 0
IsNumber n = n < 2 ^ 32

spelled : (n : ℕ) → IsNumber n → spell_number n ≡ number_bytes 4 n
unfolding spell_number
spelled n lt = fewer 4 18 n (omega arith) (omega (arith, lt))

-- a number as its first byte and the rest, for the writer
pub last_digit : (n : ℕ) → n < 128 → spell_number n ≡ n ∷ []
unfolding spell_number
last_digit n lt = short_number 18 n lt

pub next_digit : (n : ℕ) → n < 2 ^ 32 → 128 ≤ n → spell_number n ≡ (128 + n % 128) ∷ spell_number (n / 128)
unfolding spell_number number_bytes
next_digit n lt le =
    let d = from_digits n le in
    let large : ltb n 128 ≡ false = le-ltb n 128 le in
    let high : n / 128 < 128 ^ 5 = omega (arith, lt) in
    let tail : number_bytes 17 (n / 128) ≡ number_bytes 18 (n / 128) = fewer 4 17 (n / 128) (omega arith) high ∙ sym (fewer 4 18 (n / 128) (omega arith) high) in
    rw large (ap (λ w. (128 + n % 128) ∷ w) tail)

number_to : (n : ℕ) → (is_last n ≡ true) ⊎ AreDigits 3 n → IsNumber n
number_to n (inl h) = let p = ltb-true n 128 h in omega (arith, p)
number_to n (inr h) =
    let p = goes_on_parts h.0 h.3 in
    subst IsNumber (sym h.2) (omega (arith, h.4.1, p.1))

number_from : (n : ℕ) → IsNumber n → (is_last n ≡ true) ⊎ AreDigits 3 n
number_from n h =
    ⊎_elim
    (λ (lt : n < 128). inl (lt-ltb n 128 lt))
    (λ (le : 128 ≤ n).
    let d = from_digits n le in
    inr (128 + n % 128, n / 128, d.0, between_from 128 256 (128 + n % 128) d.1 d.2, (d.3, div_below n 128 (16 * 128 ^ 3) (omega arith) (omega (arith, h)))))
    (cases_lt n 128)

last_laws : (level : Bool) → level ≡ true → Laws (λ n. is_last n ≡ true) (number_bytes 4) (flat level (number_bytes 4)) (one is_last)
last_laws level low =
    like (one_laws level low is_last 0 refl) (λ n h. h) (λ n h. h)
    (λ n h. short_number 4 n (ltb-true n 128 h))
    (λ n h. ap (λ w. replicate (length w) level) (short_number 4 n (ltb-true n 128 h)))

starts_last : StartsSo is_last true (number_bytes 4) (λ n. is_last n ≡ true)
starts_last n h = (n, [], short_number 4 n (ltb-true n 128 h), h)

pub number_laws : (level : Bool) → level ≡ true → Laws IsNumber spell_number (flat level spell_number) number_at
unfolding number_at
number_laws level low =
    like (choose_laws is_last (last_laws level low) (digits_laws level low 3 (high_laws level low 3)) starts_last (starts_long 3)) number_to number_from
    (λ n h. spelled n (number_to n h))
    (λ n h. ap (λ w. replicate (length w) level) (spelled n (number_to n h)))
