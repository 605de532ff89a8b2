-- The tokens of bytes, one after the other.
use Rattle.std.proofs.Common.{◌≡◌, ℕ, zero, suc, ◌-◌, ◌≤◌, true, false, List, [], ◌∷◌, ◌++◌, length, map, take, drop, get_or, refl, sym, ap, ◌∙◌, arith}
use Rattle.std.specs.List.{list_all}
use Rattle.std.proofs.lemmas.List.{take_all}
use Rattle.ck_base.specs.Names.{is_digit}
use Rattle.ck_text.specs.declared.scan.Placed.{Placed}
use Rattle.ck_text.specs.Tokens.{Token, count_while, is_blank, first_token, scan}
use Rattle.ck_text.specs.Tokens as spec
use Rattle.ck_text.specs.Views as views
use Rattle.ck_text.proofs.Scanning.{all_counted}

-- skipped bytes are dropped
scan_skips : (skipped : ℕ) (bytes : List ℕ) → scan skipped bytes ≡ scan 0 (drop skipped bytes)
scan_skips zero bytes = refl
scan_skips (suc skipped) [] = refl
scan_skips (suc skipped) (b ∷ bytes) = scan_skips skipped bytes

-- the first token of bytes that begin with no blank, and the tokens of the bytes behind it
pub scan_from : (rest : List ℕ) (x : Token × ℕ) (behind : List ℕ) → 1 ≤ length rest → is_blank (get_or rest 0 0) ≡ false → x ≡ first_token (get_or rest 0 0) (take (length rest - 1) (drop 1 rest))
    → behind ≡ drop x.1 (take (length rest - 1) (drop 1 rest)) → scan 0 rest ≡ record { left = length rest; token = x.0 } ∷ scan 0 behind
scan_from [] x behind some black first left = absurd (omega (arith, some))
scan_from (b ∷ bytes) x behind some black first left =
    let all : take (suc (length bytes) - 1) bytes ≡ bytes = take_all (suc (length bytes) - 1) bytes (omega arith) in
    let token : x ≡ first_token b bytes = first ∙ ap (first_token b) all in
    let more : behind ≡ drop (first_token b bytes).1 bytes = left ∙ ap (λ (y : Token × ℕ). drop y.1 (take (suc (length bytes) - 1) bytes)) token ∙ ap (drop (first_token b bytes).1) all in
    rw (black, token, more) (ap (λ (ts : List spec.Placed). record { left = suc (length bytes); token = (first_token b bytes).0 } ∷ ts) (scan_skips (first_token b bytes).1 bytes))

-- the digits of a number are digits
pub digits_front : (bytes : List ℕ) (first : ℕ) (more : List ℕ) (taken : ℕ) → bytes ≡ first ∷ more → is_digit first ≡ true → taken ≡ count_while is_digit more → list_all is_digit (take (suc taken) bytes) ≡ true
digits_front bytes first more taken whole digit count = rw (whole, count, digit, all_counted is_digit more) refl

-- a token more at the end
pub one_more : (placed : List Placed) (p : Placed) (rest behind whole : List ℕ) → map views.placed placed ++ scan 0 rest ≡ scan 0 whole → scan 0 rest ≡ views.placed p ∷ scan 0 behind
    → map views.placed (placed ++ p ∷ []) ++ scan 0 behind ≡ scan 0 whole
one_more placed p rest behind whole before next = by placed ∙ ap (λ (ts : List spec.Placed). map views.placed placed ++ ts) (sym next) ∙ before where
  by : (placed : List Placed) → map views.placed (placed ++ p ∷ []) ++ scan 0 behind ≡ map views.placed placed ++ (views.placed p ∷ scan 0 behind)
  by [] = refl
  by (q ∷ placed) = ap (λ (ts : List spec.Placed). views.placed q ∷ ts) (by placed)
