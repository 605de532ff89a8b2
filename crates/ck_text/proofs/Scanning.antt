-- The tokens of bytes can be written, but for those that stand for no token.
use Rattle.std.proofs.Common.{◌≡◌, ℕ, zero, suc, ◌^◌, ◌==◌, Bool, true, false, ◌&&◌, List, [], ◌∷◌, take, length, refl, Option, Some, None, nat_lt, if◌then◌else◌, codes}
use Rattle.std.specs.List.{list_all}
use Rattle.std.specs.Str.{bytes_eq}
use Rattle.std.proofs.lemmas.Bool.{cond_both, ltb-true}
use Rattle.ck_base.specs.Names.{is_digit, is_name_byte}
use Rattle.ck_base.specs.declared.decl.Sort.TheVariants as sorts
use Rattle.ck_text.specs.declared.token.Sign.TheVariants as sign
use Rattle.ck_text.specs.declared.token.Quantifier.TheVariants as quantifiers
use Rattle.ck_text.specs.declared.token.Mark.TheVariants as marks
use Rattle.ck_text.specs.Tokens.{Token, word, number, truth, sort, quantifier, joining, mark, none, is_blank, begins_word, IsToken, count_while, word_token, value_from, number_token, short_sign, long_sign, longer, sign_token, first_token, scan}
use Rattle.ck_text.specs.Laws.{AreWritten, TokensAreWritten}

abbrev Written : Token → Type 0
Written t = (t ≡ none → ⊥) → IsToken t

pub all_counted : (test : ℕ → Bool) (bytes : List ℕ) → list_all test (take (count_while test bytes) bytes) ≡ true
all_counted test [] = refl
all_counted test (b ∷ bytes) = by (all_counted test bytes) (test b) refl where
  by : list_all test (take (count_while test bytes) bytes) ≡ true → (t : Bool) → test b ≡ t → list_all test (take (if t then suc (count_while test bytes) else 0) (b ∷ bytes)) ≡ true
  by ih true e = rw (e, ih) refl
  by ih false e = refl

-- one of two tokens, of which the first is no word
either : (test : Bool) (t u : Token) → IsToken t → (test ≡ false → Written u) → Written (if test then t else u)
either test t u h k = cond_both test t u Written (λ e n. h) k

word_written : (b : ℕ) (bytes : List ℕ) → begins_word b ≡ true → list_all is_name_byte bytes ≡ true → Written (word_token (b ∷ bytes))
word_written b bytes begins all =
    either (bytes_eq (b ∷ bytes) (codes "true")) (truth true) _ tt (λ e1.
    either (bytes_eq (b ∷ bytes) (codes "false")) (truth false) _ tt (λ e2.
    either (bytes_eq (b ∷ bytes) (codes "int")) (sort sorts.Int) _ tt (λ e3.
    either (bytes_eq (b ∷ bytes) (codes "bool")) (sort sorts.Bool) _ tt (λ e4.
    either (bytes_eq (b ∷ bytes) (codes "all")) (quantifier quantifiers.All) _ tt (λ e5.
    either (bytes_eq (b ∷ bytes) (codes "ex")) (quantifier quantifiers.Ex) _ tt (λ e6.
    either (bytes_eq (b ∷ bytes) (codes "or")) (joining sign.Either) _ tt (λ e7.
    either (bytes_eq (b ∷ bytes) (codes "and")) (joining sign.Both) _ tt (λ e8.
    either (bytes_eq (b ∷ bytes) (codes "not")) (mark marks.Not) _ tt (λ e9.
    either (bytes_eq (b ∷ bytes) (codes "bottom")) (mark marks.Bottom) _ tt (λ e10.
    either (bytes_eq (b ∷ bytes) (codes "div")) (mark marks.Div) _ tt (λ e11.
    either (bytes_eq (b ∷ bytes) (codes "mod")) (mark marks.Mod) (word (b ∷ bytes)) tt (λ e12 n.
    rw (begins, all, e1, e2, e3, e4, e5, e6, e7, e8, e9, e10, e11, e12) refl))))))))))))

number_written : (digits : List ℕ) → Written (number_token digits)
number_written digits =
    cond_both (nat_lt (value_from 0 digits) (2 ^ 127)) (number (value_from 0 digits)) none Written (λ e n. ltb-true (value_from 0 digits) (2 ^ 127) e) (λ e n. absurd (n refl))

short_written : (b : ℕ) → Written (short_sign b)
short_written b =
    either (b == 40) (mark marks.Open) _ tt (λ e.
    either (b == 41) (mark marks.Close) _ tt (λ e.
    either (b == 58) (mark marks.Colon) _ tt (λ e.
    either (b == 46) (mark marks.Dot) _ tt (λ e.
    either (b == 61) (joining sign.Equal) _ tt (λ e.
    either (b == 60) (joining sign.Less) _ tt (λ e.
    either (b == 43) (joining sign.Plus) _ tt (λ e.
    either (b == 45) (joining sign.Minus) _ tt (λ e.
    either (b == 42) (joining sign.Times) _ tt (λ e.
    either (b == 126) (mark marks.Tilde) _ tt (λ e.
    either (b == 123) (mark marks.OpenBrace) _ tt (λ e.
    either (b == 125) (mark marks.CloseBrace) _ tt (λ e.
    either (b == 44) (mark marks.Comma) _ tt (λ e.
    either (b == 59) (mark marks.Semicolon) _ tt (λ e.
    either (b == 124) (mark marks.Bar) _ tt (λ e.
    either (b == 35) (mark marks.Hash) _ tt (λ e.
    either (b == 63) (mark marks.Question) none tt (λ e n. absurd (n refl))))))))))))))))))

abbrev LongWritten : Option Token → Type 0
LongWritten None = Unit {0}
LongWritten (Some t) = IsToken t

long_either : (test : Bool) (t : Token) (other : Option Token) → IsToken t → LongWritten other → LongWritten (if test then Some t else other)
long_either test t other h k = cond_both test (Some t) other LongWritten (λ e. h) (λ e. k)

long_written : (b c : ℕ) → LongWritten (long_sign b c)
long_written b c =
    long_either ((b == 61) && (c == 62)) (joining sign.Implies) _ tt
    (long_either ((b == 60) && (c == 61)) (joining sign.AtMost) _ tt
    (long_either ((b == 47) && (c == 92)) (joining sign.AndAlso) _ tt
    (long_either ((b == 92) && (c == 47)) (joining sign.OrElse) _ tt
    (long_either ((b == 58) && (c == 61)) (mark marks.Becomes) None tt tt))))

sign_written : (b : ℕ) (more : List ℕ) → Written (sign_token b more).0
sign_written b [] = short_written b
sign_written b (c ∷ bytes) = by (long_sign b c) (long_written b c) where
  by : (o : Option Token) → LongWritten o → Written (longer o (short_sign b)).0
  by (Some t) h = λ n. h
  by None h = short_written b

first_written : (b : ℕ) (more : List ℕ) → Written (first_token b more).0
first_written b more =
    cond_both (begins_word b) (word_token (b ∷ take (count_while is_name_byte more) more), count_while is_name_byte more)
    (if is_digit b then (number_token (b ∷ take (count_while is_digit more) more), count_while is_digit more) else sign_token b more) (λ (x : Token × ℕ). Written x.0)
    (λ e. word_written b (take (count_while is_name_byte more) more) e (all_counted is_name_byte more))
    (λ e. cond_both (is_digit b) (number_token (b ∷ take (count_while is_digit more) more), count_while is_digit more) (sign_token b more) (λ (x : Token × ℕ). Written x.0)
    (λ d. number_written (b ∷ take (count_while is_digit more) more)) (λ d. sign_written b more))

scan_written : (skipped : ℕ) (bytes : List ℕ) → AreWritten (scan skipped bytes)
scan_written skipped [] = tt
scan_written (suc skipped) (b ∷ bytes) = scan_written skipped bytes
scan_written zero (b ∷ bytes) =
    cond_both (is_blank b) (scan zero bytes) (record { left = suc (length bytes); token = (first_token b bytes).0 } ∷ scan (first_token b bytes).1 bytes) AreWritten
    (λ e. scan_written zero bytes) (λ e. (first_written b bytes, scan_written (first_token b bytes).1 bytes))

pub tokens_are_written : TokensAreWritten
tokens_are_written bytes = scan_written 0 bytes
