-- The tokens of a line, by longest match. Spaces and tabs separate tokens and mean nothing else.
use Rattle.std.specs.Prelude.{ℕ, zero, suc, ◌+◌, ◌-◌, ◌*◌, ◌^◌, ◌==◌, ◌||◌, ◌&&◌, Bool, false, List, [], ◌∷◌, length, take, nat_lt, if◌then◌else◌, codes}
use Rattle.std.specs.Str.{bytes_eq}
use Rattle.ck_base.specs.Names.{is_letter, is_digit, is_name_byte}
use Rattle.script_reader.specs.declared.token.Token.{Token}
use Rattle.script_reader.specs.declared.token.Token.TheVariants as token

abbrev pub is_blank : ℕ → Bool
is_blank b = (b == 32) || (b == 9)

abbrev pub begins_word : ℕ → Bool
begins_word b = is_letter b || (b == 95)

-- how many pass the test before the first that does not
abbrev pub count_while : (ℕ → Bool) → List ℕ → ℕ
count_while test [] = 0
count_while test (b ∷ bytes) = if test b then suc (count_while test bytes) else 0

abbrev pub word_token : List ℕ → Token
word_token word =
    if bytes_eq word (codes "true") then token.True
    else if bytes_eq word (codes "false") then token.False
    else if bytes_eq word (codes "bottom") then token.Bottom
    else if bytes_eq word (codes "lam") then token.Lam
    else if bytes_eq word (codes "app") then token.App
    else if bytes_eq word (codes "spec") then token.Spec
    else if bytes_eq word (codes "skip") then token.Skip
    else if bytes_eq word (codes "intro") then token.Intro
    else if bytes_eq word (codes "exact") then token.Exact
    else if bytes_eq word (codes "export") then token.Export
    else token.Other

-- the number of a value and the digits after it
abbrev pub value_from : ℕ → List ℕ → ℕ
value_from value [] = value
value_from value (b ∷ digits) = value_from (10 * value + (b - 48)) digits

-- a number of decimal digits, where it is below 2^32
abbrev pub number_token : List ℕ → Token
number_token digits = if nat_lt (value_from 0 digits) (2 ^ 32) then token.Number (value_from 0 digits) else token.Other

-- a sign of one byte
abbrev pub sign_token : ℕ → Token
sign_token b =
    if b == 40 then token.Open
    else if b == 41 then token.Close
    else if b == 123 then token.OpenBrace
    else if b == 125 then token.CloseBrace
    else if b == 44 then token.Comma
    else if b == 58 then token.Colon
    else if b == 35 then token.Hash
    else if b == 126 then token.Not
    else token.Other

-- `>` is next
abbrev pub points : List ℕ → Bool
points [] = false
points (b ∷ bytes) = b == 62

-- The token that begins with this byte, and how many of the bytes after it belong to it. Words are
-- `[a-z_][a-z0-9_]*`, numbers `[0-9]+`.
abbrev pub first_token : ℕ → List ℕ → Token × ℕ
first_token b more =
    if begins_word b then (word_token (b ∷ take (count_while is_name_byte more) more), count_while is_name_byte more)
    else if is_digit b then (number_token (b ∷ take (count_while is_digit more) more), count_while is_digit more)
    else if (b == 61) && points more then (token.Implies, 1)
    else (sign_token b, 0)

-- the tokens of the bytes, of which the first ones belong to a token before
abbrev pub scan : ℕ → List ℕ → List Token
scan skipped [] = []
scan (suc skipped) (b ∷ bytes) = scan skipped bytes
scan zero (b ∷ bytes) = if is_blank b then scan zero bytes else (first_token b bytes).0 ∷ scan (first_token b bytes).1 bytes
