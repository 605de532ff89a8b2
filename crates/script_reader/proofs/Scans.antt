-- Bytes as tokens and as lines.
use Rattle.std.proofs.Common.{◌≡◌, ◌≢◌, ◌⊎◌, ⊎_elim, ℕ, zero, suc, ◌+◌, ◌-◌, ◌*◌, ◌^◌, ◌<◌, ◌≤◌, Bool, true, false, List, [], ◌∷◌, ◌++◌, length, take, drop, get_or, refl, sym, ap, ◌∙◌, arith, append_assoc, append-nil, ◌==◌, ◌&&◌, if◌then◌else◌, Option, Some, None, nat_lt}
use Rattle.std.specs.List.{list_all}
use Rattle.std.proofs.lemmas.Bool.{le-ltb, lt-ltb}
use Rattle.std.proofs.lemmas.Bool.Decides.{eqb_tells}
use Rattle.std.proofs.lemmas.List.{take_all}
use Rattle.ck_base.specs.Names.{is_digit}
use Rattle.script_reader.specs.declared.token.Token.{Token}
use Rattle.script_reader.specs.Tokens.{count_while, value_from, is_blank, first_token, scan}
use Rattle.script_reader.specs.Lines.{is_inside, without_return, last_line, lines_from, lines_of}

-- more digits never make a number smaller
pub value_grows : (value : ℕ) (digits : List ℕ) → value ≤ value_from value digits
value_grows value [] = omega arith
value_grows value (b ∷ digits) = omega (arith, value_grows (10 * value + (b - 48)) digits)

-- a number that is too large stays so
pub too_large : (n : ℕ) → 2 ^ 32 ≤ n → (if nat_lt n (2 ^ 32) then Some n else None) ≡ None
too_large n h = rw (le-ltb n (2 ^ 32) h) refl

pub small_enough : (n : ℕ) → n < 2 ^ 32 → (if nat_lt n (2 ^ 32) then Some n else None) ≡ Some n
small_enough n h = rw (lt-ltb n (2 ^ 32) h) refl

-- what is counted passes the test
pub all_counted : (test : ℕ → Bool) (bytes : List ℕ) → list_all test (take (count_while test bytes) bytes) ≡ true
all_counted test [] = refl
all_counted test (b ∷ bytes) = by (all_counted test bytes) (test b) refl where
  by : list_all test (take (count_while test bytes) bytes) ≡ true → (t : Bool) → test b ≡ t → list_all test (take (if t then suc (count_while test bytes) else 0) (b ∷ bytes)) ≡ true
  by ih true e = rw (e, ih) refl
  by ih false e = refl

-- skipped bytes are dropped
pub scan_skips : (skipped : ℕ) (bytes : List ℕ) → scan skipped bytes ≡ scan 0 (drop skipped bytes)
scan_skips zero bytes = refl
scan_skips (suc skipped) [] = refl
scan_skips (suc skipped) (b ∷ bytes) = scan_skips skipped bytes

-- the first token of bytes that begin with no blank, and the tokens of the bytes behind it
pub scan_from : (rest : List ℕ) (x : Token × ℕ) (behind : List ℕ) → 1 ≤ length rest → is_blank (get_or rest 0 0) ≡ false → x ≡ first_token (get_or rest 0 0) (take (length rest - 1) (drop 1 rest))
    → behind ≡ drop x.1 (take (length rest - 1) (drop 1 rest)) → scan 0 rest ≡ x.0 ∷ scan 0 behind
scan_from [] x behind some black first left = absurd (omega (arith, some))
scan_from (b ∷ bytes) x behind some black first left =
    let all : take (suc (length bytes) - 1) bytes ≡ bytes = take_all (suc (length bytes) - 1) bytes (omega arith) in
    let token : x ≡ first_token b bytes = first ∙ ap (first_token b) all in
    let more : behind ≡ drop (first_token b bytes).1 bytes = left ∙ ap (λ (y : Token × ℕ). drop y.1 (take (suc (length bytes) - 1) bytes)) token ∙ ap (drop (first_token b bytes).1) all in
    rw (black, token, more) (ap (λ (ts : List Token). (first_token b bytes).0 ∷ ts) (scan_skips (first_token b bytes).1 bytes))

-- the digits of a number are digits
pub digits_front : (bytes : List ℕ) (first : ℕ) (more : List ℕ) (taken : ℕ) → bytes ≡ first ∷ more → is_digit first ≡ true → taken ≡ count_while is_digit more → list_all is_digit (take (suc taken) bytes) ≡ true
digits_front bytes first more taken whole digit count = rw (whole, count, digit, all_counted is_digit more) refl

-- a number does not fit where it does not with one digit more
pub step_large : (value : ℕ) (rest : List ℕ) → 1 ≤ length rest → 2 ^ 32 ≤ 10 * value + (get_or rest 0 0 - 48) → 2 ^ 32 ≤ value_from value rest
step_large value [] some large = absurd (omega (arith, some))
step_large value (b ∷ digits) some large = omega (arith, large, value_grows (10 * value + (b - 48)) digits)

pub value_ends : (value : ℕ) (rest : List ℕ) → length rest < 1 → value_from value rest ≡ value
value_ends value [] none = refl
value_ends value (b ∷ digits) none = absurd (omega (arith, none))

pushed : (b : ℕ) (t : Bool) (x y : List ℕ) → b ∷ (if t then x else y) ≡ (if t then b ∷ x else b ∷ y)
pushed b true x y = refl
pushed b false x y = refl

-- the last byte decides
pub by_last : (line : List ℕ) (last : ℕ) → length line ≡ suc last → without_return line ≡ (if get_or line last 0 == 13 then take last line else line)
by_last [] last e = absurd (cc)
by_last (b ∷ []) zero e = refl
by_last (b ∷ []) (suc last) e = absurd (cc)
by_last (b ∷ c ∷ bytes) zero e = absurd (cc)
by_last (b ∷ c ∷ bytes) (suc last) e =
    ap (λ (ts : List ℕ). b ∷ ts) (by_last (c ∷ bytes) last (omega (arith, e))) ∙ pushed b (get_or (c ∷ bytes) last 0 == 13) (take last (c ∷ bytes)) (c ∷ bytes)

pub return_is_last : (line : List ℕ) (last : ℕ) → length line ≡ suc last → get_or line last 0 ≡ 13 → take last line ≡ without_return line
return_is_last line last e is = sym (rw is at (by_last line last e))

pub other_is_last : (line : List ℕ) (last : ℕ) → length line ≡ suc last → (get_or line last 0 ≡ 13 → ⊥) → line ≡ without_return line
other_is_last line last e differs =
    ⊎_elim (λ (h : ((get_or line last 0 == 13) ≡ true) × (get_or line last 0 ≡ 13)). absurd (differs h.1)) (λ (h : ((get_or line last 0 == 13) ≡ false) × (get_or line last 0 ≢ 13)). sym (rw h.0 at (by_last line last e))) (eqb_tells (get_or line last 0) 13)

-- a line up to its line feed
pub first_of_lines : (front script : List ℕ) → count_while is_inside script < length script → lines_from front script ≡ without_return (front ++ take (count_while is_inside script) script) ∷ lines_of (drop (suc (count_while is_inside script)) script)
first_of_lines front [] h = absurd (omega (arith, h))
first_of_lines front (b ∷ bytes) h = by (λ x. first_of_lines (front ++ (b ∷ [])) bytes x) (is_inside b) h where
  by : (count_while is_inside bytes < length bytes → lines_from (front ++ (b ∷ [])) bytes ≡ without_return ((front ++ (b ∷ [])) ++ take (count_while is_inside bytes) bytes) ∷ lines_of (drop (suc (count_while is_inside bytes)) bytes))
      → (t : Bool) → (if t then suc (count_while is_inside bytes) else 0) < suc (length bytes)
      → (if t then lines_from (front ++ (b ∷ [])) bytes else without_return front ∷ lines_of bytes) ≡ without_return (front ++ take (if t then suc (count_while is_inside bytes) else 0) (b ∷ bytes)) ∷ lines_of (drop (suc (if t then suc (count_while is_inside bytes) else 0)) (b ∷ bytes))
  by ih true h =
      ih (omega (arith, h)) ∙ ap (λ (line : List ℕ). without_return line ∷ lines_of (drop (suc (count_while is_inside bytes)) bytes)) (append_assoc front (b ∷ []) (take (count_while is_inside bytes) bytes))
  by ih false h = ap (λ (line : List ℕ). without_return line ∷ lines_of bytes) (sym (append-nil front))

-- what is left of the last line
pub last_of_lines : (front script : List ℕ) → count_while is_inside script ≡ length script → lines_from front script ≡ last_line (front ++ script)
last_of_lines front [] h = ap last_line (sym (append-nil front))
last_of_lines front (b ∷ bytes) h = by (λ x. last_of_lines (front ++ (b ∷ [])) bytes x) (is_inside b) h where
  by : (count_while is_inside bytes ≡ length bytes → lines_from (front ++ (b ∷ [])) bytes ≡ last_line ((front ++ (b ∷ [])) ++ bytes))
      → (t : Bool) → (if t then suc (count_while is_inside bytes) else 0) ≡ suc (length bytes)
      → (if t then lines_from (front ++ (b ∷ [])) bytes else without_return front ∷ lines_of bytes) ≡ last_line (front ++ (b ∷ bytes))
  by ih true h = ih (omega (arith, h)) ∙ ap last_line (append_assoc front (b ∷ []) bytes)
  by ih false h = absurd (cc)

-- what is left of a script without a line feed is its last line
pub last_alone : (script : List ℕ) → 0 < length script → count_while is_inside script ≡ length script → lines_of script ≡ script ∷ []
last_alone [] some h = absurd (omega (arith, some))
last_alone (b ∷ bytes) some h = last_of_lines [] (b ∷ bytes) h
