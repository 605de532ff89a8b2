-- The tokens of a text, by longest match. Spaces and tabs separate tokens and mean nothing else.
use Rattle.std.specs.Prelude.{ℕ, zero, suc, ◌≡◌, ◌+◌, ◌-◌, ◌*◌, ◌^◌, ◌<◌, ◌==◌, ◌||◌, ◌&&◌, Bool, true, false, not, List, [], ◌∷◌, length, map, take, nat_lt, Some, None, if◌then◌else◌, codes}
use Rattle.std.specs.declared.option.Option.{Option}
use Rattle.std.specs.List.{list_all, list_any}
use Rattle.std.specs.Str.{bytes_eq}
use Rattle.ck_base.specs.Names.{is_letter, is_digit, is_name_byte, reserved_words}
use Rattle.ck_base.specs.declared.decl.Sort.{Sort}
use Rattle.ck_base.specs.declared.decl.Sort.TheVariants as sorts
use Rattle.ck_text.specs.declared.token.Sign.{Sign}
use Rattle.ck_text.specs.declared.token.Sign.TheVariants as sign
use Rattle.ck_text.specs.declared.token.Quantifier.{Quantifier}
use Rattle.ck_text.specs.declared.token.Quantifier.TheVariants as quantifiers
use Rattle.ck_text.specs.declared.token.Mark.{Mark}
use Rattle.ck_text.specs.declared.token.Mark.TheVariants as marks

-- A word that is not reserved, by its bytes; a number; `true` and `false`; `int` and `bool`; `all` and
-- `ex`; a sign between operands; any other sign or reserved word. `none` stands for a byte that begins
-- no token and for a number that is too large.
pub data Token : Type 0 where
  word : (bytes : List ℕ) → Token
  number : (n : ℕ) → Token
  truth : (b : Bool) → Token
  sort : (s : Sort) → Token
  quantifier : (q : Quantifier) → Token
  joining : (o : Sign) → Token
  mark : (m : Mark) → Token
  none : Token

-- a token, and how many bytes there are from its first one to the end of the text
pub record Placed : Type 0 where
  pub left : ℕ
  pub token : Token

abbrev pub is_blank : ℕ → Bool
is_blank b = (b == 32) || (b == 9)

abbrev pub begins_word : ℕ → Bool
begins_word b = is_letter b || (b == 95)

-- `[a-z_][a-z0-9_]*`, and no reserved word
abbrev pub is_word : List ℕ → Bool
is_word [] = false
is_word (b ∷ bytes) = begins_word b && list_all is_name_byte bytes && not (list_any (bytes_eq (b ∷ bytes)) reserved_words)

-- the token can be written
abbrev pub IsToken : Token → Type 0
IsToken (word bytes) = is_word bytes ≡ true
IsToken (number n) = n < 2 ^ 127
IsToken none = ⊥
IsToken t = Unit {0}

abbrev pub AreTokens : List Token → Type 0
AreTokens [] = Unit {0}
AreTokens (t ∷ tokens) = IsToken t × AreTokens tokens

-- how many pass the test before the first that does not
abbrev pub count_while : (ℕ → Bool) → List ℕ → ℕ
count_while test [] = 0
count_while test (b ∷ bytes) = if test b then suc (count_while test bytes) else 0

-- a reserved word, or a name
abbrev pub word_token : List ℕ → Token
word_token bytes =
    if bytes_eq bytes (codes "true") then truth true
    else if bytes_eq bytes (codes "false") then truth false
    else if bytes_eq bytes (codes "int") then sort sorts.Int
    else if bytes_eq bytes (codes "bool") then sort sorts.Bool
    else if bytes_eq bytes (codes "all") then quantifier quantifiers.All
    else if bytes_eq bytes (codes "ex") then quantifier quantifiers.Ex
    else if bytes_eq bytes (codes "or") then joining sign.Either
    else if bytes_eq bytes (codes "and") then joining sign.Both
    else if bytes_eq bytes (codes "not") then mark marks.Not
    else if bytes_eq bytes (codes "bottom") then mark marks.Bottom
    else if bytes_eq bytes (codes "div") then mark marks.Div
    else if bytes_eq bytes (codes "mod") then mark marks.Mod
    else word bytes

-- the number of a value and the decimal digits after it
abbrev pub value_from : ℕ → List ℕ → ℕ
value_from value [] = value
value_from value (b ∷ digits) = value_from (10 * value + (b - 48)) digits

-- a number of decimal digits, where it is below 2^127
abbrev pub number_token : List ℕ → Token
number_token digits = if nat_lt (value_from 0 digits) (2 ^ 127) then number (value_from 0 digits) else none

-- a sign of one byte: `( ) : . = < + - * ~ { } , ; | # ?`
abbrev pub short_sign : ℕ → Token
short_sign b =
    if b == 40 then mark marks.Open
    else if b == 41 then mark marks.Close
    else if b == 58 then mark marks.Colon
    else if b == 46 then mark marks.Dot
    else if b == 61 then joining sign.Equal
    else if b == 60 then joining sign.Less
    else if b == 43 then joining sign.Plus
    else if b == 45 then joining sign.Minus
    else if b == 42 then joining sign.Times
    else if b == 126 then mark marks.Tilde
    else if b == 123 then mark marks.OpenBrace
    else if b == 125 then mark marks.CloseBrace
    else if b == 44 then mark marks.Comma
    else if b == 59 then mark marks.Semicolon
    else if b == 124 then mark marks.Bar
    else if b == 35 then mark marks.Hash
    else if b == 63 then mark marks.Question
    else none

-- a sign of two bytes: `=> <= /\ \/ :=`
abbrev pub long_sign : ℕ → ℕ → Option Token
long_sign b c =
    if (b == 61) && (c == 62) then Some (joining sign.Implies)
    else if (b == 60) && (c == 61) then Some (joining sign.AtMost)
    else if (b == 47) && (c == 92) then Some (joining sign.AndAlso)
    else if (b == 92) && (c == 47) then Some (joining sign.OrElse)
    else if (b == 58) && (c == 61) then Some (mark marks.Becomes)
    else None

-- the longer sign, where there is one, and how many bytes it has after the first
abbrev pub longer : Option Token → Token → Token × ℕ
longer (Some long) short = (long, 1)
longer None short = (short, 0)

abbrev pub sign_token : ℕ → List ℕ → Token × ℕ
sign_token b [] = (short_sign b, 0)
sign_token b (c ∷ bytes) = longer (long_sign b c) (short_sign b)

-- The token that begins with this byte, and how many of the bytes after it belong to it. Words are
-- `[a-z_][a-z0-9_]*`, numbers `[0-9]+`.
abbrev pub first_token : ℕ → List ℕ → Token × ℕ
first_token b more =
    if begins_word b then (word_token (b ∷ take (count_while is_name_byte more) more), count_while is_name_byte more)
    else if is_digit b then (number_token (b ∷ take (count_while is_digit more) more), count_while is_digit more)
    else sign_token b more

-- the tokens of the bytes, of which the first ones belong to a token before
abbrev pub scan : ℕ → List ℕ → List Placed
scan skipped [] = []
scan (suc skipped) (b ∷ bytes) = scan skipped bytes
scan zero (b ∷ bytes) =
    if is_blank b then scan zero bytes
    else record { left = suc (length bytes); token = (first_token b bytes).0 } ∷ scan (first_token b bytes).1 bytes

-- the tokens alone, without their places
abbrev pub bare : List Placed → List Token
bare placed = map (λ (p : Placed). p.token) placed
