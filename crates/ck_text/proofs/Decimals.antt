-- The decimal digits of a number: their value, and that they are digits without a leading zero.
use Rattle.std.proofs.Common.{arith, ◌≡◌, ℕ, ◌+◌, ◌*◌, ◌-◌, ◌/◌, ◌%◌, ◌^◌, ◌≤◌, ◌<◌, ◌==◌, true, false, List, [], ◌∷◌, ◌++◌, decimal, refl, sym, ap, ◌∙◌, subst}
use Rattle.std.specs.List.{list_all}
use Rattle.std.proofs.lemmas.Bool.{le-leb, ne_eqb}
use Rattle.std.proofs.lemmas.Fmt.{decimal_by_steps_wide, decimal_step_wide, decimal_digit}
use Rattle.std.proofs.lemmas.List.Folds.{list_all-append}
use Rattle.ck_base.specs.Names.{is_digit}
use Rattle.ck_text.specs.Tokens.{value_from}
use Rattle.ck_text.specs.Texts.{is_decimal}

-- a first digit, and more of them, with the value n
pub record Plain (n : ℕ) (ds : List ℕ) : Type 0 where
  pub first : ℕ
  pub more : List ℕ
  pub whole : ds ≡ first ∷ more
  pub digit : is_digit first ≡ true
  pub digits : list_all is_digit more ≡ true
  pub nonzero : 0 < n → (first == 48) ≡ false
  pub value : value_from 0 ds ≡ n
  pub without : is_decimal ds ≡ true

digit_is : (b : ℕ) → 48 ≤ b → b ≤ 57 → is_digit b ≡ true
digit_is b l h = rw (le-leb 48 b l, le-leb b 57 h) refl

value_more : (v : ℕ) (ds : List ℕ) (d : ℕ) → value_from v (ds ++ d ∷ []) ≡ 10 * value_from v ds + (d - 48)
value_more v [] d = refl
value_more v (b ∷ ds) d = value_more (10 * v + (b - 48)) ds d

decimal_more : (b : ℕ) (more : List ℕ) (d : ℕ) → is_digit b ≡ true → (b == 48) ≡ false → list_all is_digit (more ++ d ∷ []) ≡ true → is_decimal (b ∷ (more ++ d ∷ [])) ≡ true
decimal_more b [] d e n h = rw (e, n, h) refl
decimal_more b (c ∷ more) d e n h = rw (e, n, h) refl

one : (n : ℕ) → n < 10 → Plain n ((48 + n) ∷ [])
one n h =
    let is : is_digit (48 + n) ≡ true = digit_is (48 + n) (omega arith) (omega (arith, h)) in
    record {
      first = 48 + n;
      more = [];
      whole = refl;
      digit = is;
      digits = refl;
      nonzero = (λ p. ne_eqb (48 + n) 48 (λ e. omega (arith, e, p)));
      value = omega arith;
      without = is;
    }

more : (n : ℕ) (ds : List ℕ) → 10 ≤ n → Plain (n / 10) ds → Plain n (ds ++ (48 + n % 10) ∷ [])
more n ds h p =
    let d : ℕ = 48 + n % 10 in
    let is : is_digit d ≡ true = digit_is d (omega arith) (omega arith) in
    let all : list_all is_digit (p.more ++ d ∷ []) ≡ true = list_all-append is_digit p.more (d ∷ []) ∙ rw (p.digits, is) refl in
    let some : (p.first == 48) ≡ false = p.nonzero (omega (arith, h)) in
    record {
      first = p.first;
      more = p.more ++ d ∷ [];
      whole = ap (λ l. l ++ d ∷ []) p.whole;
      digit = p.digit;
      digits = all;
      nonzero = (λ q. some);
      value = value_more 0 ds d ∙ omega (arith, p.value);
      without = subst (λ l. is_decimal (l ++ d ∷ []) ≡ true) (sym p.whole) (decimal_more p.first p.more d p.digit some all);
    }

pub plain : (n : ℕ) → n < 10 ^ 64 → Plain n (decimal n)
plain n h = decimal_by_steps_wide Plain one more n h

-- the digits of a number below 10, and of one that is not, in which the last digit stands at the end
pub only_digit : (n : ℕ) → n < 10 → decimal n ≡ (48 + n) ∷ []
only_digit n h = decimal_digit n h

pub last_digit : (n : ℕ) → 10 ≤ n → n < 2 ^ 128 → decimal n ≡ decimal (n / 10) ++ ((48 + n % 10) ∷ [])
last_digit n h few = decimal_step_wide n h (omega (arith, few))
