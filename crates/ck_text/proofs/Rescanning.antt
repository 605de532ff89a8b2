-- The printed bytes of a text have just its tokens.
use Rattle.std.proofs.Common.{arith, ◌≡◌, ℕ, ◌^◌, ◌≤◌, ◌<◌, ◌==◌, Bool, true, false, not, ◌&&◌, ◌||◌, List, [], ◌∷◌, ◌++◌, length, take, Option, Some, None, nat_le, codes, decimal, refl, sym, ap, ◌∙◌, append_assoc, append-nil, ⊎_elim}
use Rattle.std.specs.List.{list_all, list_any}
use Rattle.std.specs.Str.{bytes_eq}
use Rattle.std.proofs.lemmas.Bool.{and_parts, or_parts, or_cases, or_from, eqb-true, leb-true, lt-leb, lt-ltb, ne_eqb}
use Rattle.ck_base.specs.Names.{is_digit, is_name_byte, reserved_words}
use Rattle.ck_base.specs.declared.decl.Sort.{Sort}
use Rattle.ck_base.specs.declared.decl.Sort.TheVariants as sorts
use Rattle.ck_text.specs.declared.token.Sign.{Sign}
use Rattle.ck_text.specs.declared.token.Sign.TheVariants as sign
use Rattle.ck_text.specs.declared.token.Prefix.{Prefix}
use Rattle.ck_text.specs.declared.token.Prefix.TheVariants as prefixes
use Rattle.ck_text.specs.declared.token.Quantifier.{Quantifier}
use Rattle.ck_text.specs.declared.token.Quantifier.TheVariants as quantifiers
use Rattle.ck_text.specs.declared.token.Mark.TheVariants as marks
use Rattle.ck_text.specs.Tokens.{Token, is_blank, begins_word, is_word, AreTokens, count_while, word_token, value_from, number_token, first_token, scan, bare}
use Rattle.ck_text.specs.Tokens as token
use Rattle.ck_text.specs.Texts.{Lead, prefix, binder, Text, truth, falsity, name, number, led, joined, closed, prefix_token, sort_tokens, lead_tokens, tokens}
use Rattle.ck_text.specs.Printing.{sign_bytes, prefix_bytes, quantifier_bytes, sort_bytes, lead_bytes, printed}
use Rattle.ck_text.specs.Laws.{PrintedScans}
use Rattle.ck_text.proofs.Decimals.{plain}

-- the first byte, where there is one, does not pass the test
abbrev pub Stops : (ℕ → Bool) → List ℕ → Type 0
Stops test [] = Unit {0}
Stops test (b ∷ bytes) = test b ≡ false

-- the bytes go on with none of a word or a number
abbrev pub Ends : List ℕ → Type 0
Ends bytes = Stops is_name_byte bytes

middle_false : (x y z : Bool) → (x || y || z) ≡ false → y ≡ false
middle_false true y z e = absurd (cc)
middle_false false true z e = absurd (cc)
middle_false false false z e = refl

ends_digits : (bytes : List ℕ) → Ends bytes → Stops is_digit bytes
ends_digits [] h = tt
ends_digits (b ∷ bytes) h = middle_false _ _ _ h

counts : (test : ℕ → Bool) (bytes rest : List ℕ) → list_all test bytes ≡ true → Stops test rest → count_while test (bytes ++ rest) ≡ length bytes
counts test [] [] h e = refl
counts test [] (b ∷ rest) h e = rw e refl
counts test (b ∷ bytes) rest h e = let p = and_parts (test b) (list_all test bytes) h in rw (p.0, counts test bytes rest p.1 e) refl

takes : (bytes rest : List ℕ) → take (length bytes) (bytes ++ rest) ≡ bytes
takes [] rest = refl
takes (b ∷ bytes) rest = ap (λ l. b ∷ l) (takes bytes rest)

skips : (bytes rest : List ℕ) → scan (length bytes) (bytes ++ rest) ≡ scan 0 rest
skips [] rest = refl
skips (b ∷ bytes) rest = skips bytes rest

-- a token of these bytes before others
token_scans : (b : ℕ) (bytes rest : List ℕ) (t : Token) → is_blank b ≡ false → first_token b (bytes ++ rest) ≡ (t, length bytes) → bare (scan 0 (b ∷ (bytes ++ rest))) ≡ t ∷ bare (scan 0 rest)
token_scans b bytes rest t blank first =
    scans ∙ ap (λ (x : Token × ℕ). x.0 ∷ bare (scan x.1 (bytes ++ rest))) first ∙ ap (λ placed. t ∷ bare placed) (skips bytes rest) where
      scans : bare (scan 0 (b ∷ (bytes ++ rest))) ≡ (first_token b (bytes ++ rest)).0 ∷ bare (scan (first_token b (bytes ++ rest)).1 (bytes ++ rest))
      scans = rw blank refl

-- # Words

letter_most : (b : ℕ) → begins_word b ≡ true → 95 ≤ b
letter_most b h = ⊎_elim (λ (p : nat_le 97 b && nat_le b 122 ≡ true). let l : 97 ≤ b = leb-true 97 b (and_parts (nat_le 97 b) (nat_le b 122) p).0 in omega (arith, l))
    (λ (p : (b == 95) ≡ true). let same : b ≡ 95 = eqb-true b 95 p in omega (arith, same)) (or_cases (nat_le 97 b && nat_le b 122) (b == 95) h)

word_first : (b : ℕ) (bytes rest : List ℕ) → begins_word b ≡ true → list_all is_name_byte bytes ≡ true → Ends rest → first_token b (bytes ++ rest) ≡ (word_token (b ∷ bytes), length bytes)
word_first b bytes rest begins all ends =
    starts ∙ ap (λ n. (word_token (b ∷ take n (bytes ++ rest)), n)) (counts is_name_byte bytes rest all ends) ∙ ap (λ l. (word_token (b ∷ l), length bytes)) (takes bytes rest) where
      starts : first_token b (bytes ++ rest) ≡ (word_token (b ∷ take (count_while is_name_byte (bytes ++ rest)) (bytes ++ rest)), count_while is_name_byte (bytes ++ rest))
      starts = rw begins refl

no_blank : (b : ℕ) → 33 ≤ b → is_blank b ≡ false
no_blank b h = or_from (b == 32) (b == 9) (ne_eqb b 32 (λ e. omega (arith, e, h))) (ne_eqb b 9 (λ e. omega (arith, e, h)))

pub word_scans : (b : ℕ) (bytes rest : List ℕ) → begins_word b ≡ true → list_all is_name_byte bytes ≡ true → Ends rest → bare (scan 0 (b ∷ (bytes ++ rest))) ≡ word_token (b ∷ bytes) ∷ bare (scan 0 rest)
word_scans b bytes rest begins all ends =
    let most : 95 ≤ b = letter_most b begins in
    token_scans b bytes rest (word_token (b ∷ bytes)) (no_blank b (omega (arith, most))) (word_first b bytes rest begins all ends)

not_false : (x : Bool) → not x ≡ true → x ≡ false
not_false true e = absurd (cc)
not_false false e = refl

-- a word that is none of the language's is a name
name_token : (w : List ℕ) → list_any (bytes_eq w) reserved_words ≡ false → word_token w ≡ token.word w
name_token w h =
    let e1 = or_parts (bytes_eq w (codes "true")) _ h in
    let e2 = or_parts (bytes_eq w (codes "false")) _ e1.1 in
    let e3 = or_parts (bytes_eq w (codes "bottom")) _ e2.1 in
    let e4 = or_parts (bytes_eq w (codes "not")) _ e3.1 in
    let e5 = or_parts (bytes_eq w (codes "and")) _ e4.1 in
    let e6 = or_parts (bytes_eq w (codes "or")) _ e5.1 in
    let e7 = or_parts (bytes_eq w (codes "all")) _ e6.1 in
    let e8 = or_parts (bytes_eq w (codes "ex")) _ e7.1 in
    let e9 = or_parts (bytes_eq w (codes "int")) _ e8.1 in
    let e10 = or_parts (bytes_eq w (codes "bool")) _ e9.1 in
    let e11 = or_parts (bytes_eq w (codes "div")) _ e10.1 in
    let e12 = or_parts (bytes_eq w (codes "mod")) _ e11.1 in
    rw (e1.0, e2.0, e3.0, e4.0, e5.0, e6.0, e7.0, e8.0, e9.0, e10.0, e11.0, e12.0) refl

pub name_scans : (bytes rest : List ℕ) → is_word bytes ≡ true → Ends rest → bare (scan 0 (bytes ++ rest)) ≡ token.word bytes ∷ bare (scan 0 rest)
name_scans [] rest h e = absurd (cc)
name_scans (b ∷ bytes) rest h e =
    let p = and_parts (begins_word b && list_all is_name_byte bytes) (not (list_any (bytes_eq (b ∷ bytes)) reserved_words)) h in
    let q = and_parts (begins_word b) (list_all is_name_byte bytes) p.0 in
    word_scans b bytes rest q.0 q.1 e ∙ ap (λ t. t ∷ bare (scan 0 rest)) (name_token (b ∷ bytes) (not_false _ p.1))

-- # Numbers

number_token_is : (digits : List ℕ) (n : ℕ) → value_from 0 digits ≡ n → n < 2 ^ 127 → number_token digits ≡ token.number n
number_token_is digits n e h = rw (e, lt-ltb n (2 ^ 127) h) refl

digit_bounds : (b : ℕ) → is_digit b ≡ true → (48 ≤ b) × (b ≤ 57)
digit_bounds b h = let p = and_parts (nat_le 48 b) (nat_le b 57) h in (leb-true 48 b p.0, leb-true b 57 p.1)

no_letter : (b : ℕ) → b ≤ 57 → begins_word b ≡ false
no_letter b h = rw (lt-leb 97 b (omega (arith, h)), ne_eqb b 95 (λ e. omega (arith, e, h))) refl

number_first : (b : ℕ) (digits rest : List ℕ) → is_digit b ≡ true → list_all is_digit digits ≡ true → Ends rest → first_token b (digits ++ rest) ≡ (number_token (b ∷ digits), length digits)
number_first b digits rest is all ends =
    starts ∙ ap (λ n. (number_token (b ∷ take n (digits ++ rest)), n)) (counts is_digit digits rest all (ends_digits rest ends)) ∙ ap (λ l. (number_token (b ∷ l), length digits)) (takes digits rest) where
      starts : first_token b (digits ++ rest) ≡ (number_token (b ∷ take (count_while is_digit (digits ++ rest)) (digits ++ rest)), count_while is_digit (digits ++ rest))
      starts = rw (no_letter b (digit_bounds b is).1, is) refl

pub number_scans : (n : ℕ) (rest : List ℕ) → n < 2 ^ 127 → Ends rest → bare (scan 0 (decimal n ++ rest)) ≡ token.number n ∷ bare (scan 0 rest)
number_scans n rest h e =
    let p = plain n (omega (arith, h)) in
    let least : 48 ≤ p.first = (digit_bounds p.first p.digit).0 in
    ap (λ l. bare (scan 0 (l ++ rest))) p.whole
    ∙ token_scans p.first p.more rest (token.number n) (no_blank p.first (omega (arith, least)))
    (number_first p.first p.more rest p.digit p.digits e ∙ ap (λ t. (t, length p.more)) (number_token_is (p.first ∷ p.more) n (ap (value_from 0) (sym p.whole) ∙ p.value) h))

-- # Signs

joins_scan : (o : Sign) (rest : List ℕ) → bare (scan 0 (codes " " ++ (sign_bytes o ++ (codes " " ++ rest)))) ≡ token.joining o ∷ bare (scan 0 rest)
joins_scan sign.Implies rest = refl
joins_scan sign.OrElse rest = refl
joins_scan sign.AndAlso rest = refl
joins_scan sign.Either rest = refl
joins_scan sign.Both rest = refl
joins_scan sign.Equal rest = refl
joins_scan sign.Less rest = refl
joins_scan sign.AtMost rest = refl
joins_scan sign.Plus rest = refl
joins_scan sign.Minus rest = refl
joins_scan sign.Times rest = refl

prefix_scans : (p : Prefix) (rest : List ℕ) → bare (scan 0 (prefix_bytes p ++ rest)) ≡ prefix_token p ∷ bare (scan 0 rest)
prefix_scans prefixes.Tilde [] = refl
prefix_scans prefixes.Tilde (b ∷ rest) = refl
prefix_scans prefixes.Not rest = refl
prefix_scans prefixes.Minus [] = refl
prefix_scans prefixes.Minus (b ∷ rest) = refl

pub open_scans : (rest : List ℕ) → bare (scan 0 (codes "(" ++ rest)) ≡ token.mark marks.Open ∷ bare (scan 0 rest)
open_scans [] = refl
open_scans (b ∷ rest) = refl

pub close_scans : (rest : List ℕ) → bare (scan 0 (codes ")" ++ rest)) ≡ token.mark marks.Close ∷ bare (scan 0 rest)
close_scans [] = refl
close_scans (b ∷ rest) = refl

quantifier_scans : (q : Quantifier) (rest : List ℕ) → bare (scan 0 (quantifier_bytes q ++ rest)) ≡ token.quantifier q ∷ bare (scan 0 rest)
quantifier_scans quantifiers.All rest = refl
quantifier_scans quantifiers.Ex rest = refl

sort_scans : (s : Option Sort) (rest : List ℕ) → bare (scan 0 (sort_bytes s ++ (codes ". " ++ rest))) ≡ sort_tokens s ++ bare (scan 0 rest)
sort_scans None rest = refl
sort_scans (Some sorts.Int) rest = refl
sort_scans (Some sorts.Bool) rest = refl

sort_ends : (s : Option Sort) (rest : List ℕ) → Ends (sort_bytes s ++ (codes ". " ++ rest))
sort_ends None rest = refl
sort_ends (Some sorts.Int) rest = refl
sort_ends (Some sorts.Bool) rest = refl

lead_scans : (l : Lead) (rest : List ℕ) → AreTokens (lead_tokens l) → bare (scan 0 (lead_bytes l ++ rest)) ≡ lead_tokens l ++ bare (scan 0 rest)
lead_scans (prefix p) rest h = prefix_scans p rest
lead_scans (binder q bytes s) rest h =
    ap (λ l. bare (scan 0 l)) (
    append_assoc (quantifier_bytes q) (bytes ++ (sort_bytes s ++ codes ". ")) rest
    ∙ ap (λ l. quantifier_bytes q ++ l) (append_assoc bytes (sort_bytes s ++ codes ". ") rest ∙ ap (λ l. bytes ++ l) (append_assoc (sort_bytes s) (codes ". ") rest))
    )
    ∙ quantifier_scans q (bytes ++ (sort_bytes s ++ (codes ". " ++ rest)))
    ∙ ap (λ ts. token.quantifier q ∷ ts) (
    name_scans bytes (sort_bytes s ++ (codes ". " ++ rest)) h.1.0 (sort_ends s rest)
    ∙ ap (λ ts. token.word bytes ∷ ts) (sort_scans s rest)
    )

-- # Texts

pub are_parts : (ts us : List Token) → AreTokens (ts ++ us) → AreTokens ts × AreTokens us
are_parts [] us h = (tt, h)
are_parts (t ∷ ts) us h = let p = are_parts ts us h.1 in ((h.0, p.0), p.1)

pub text_scans : (a : Text) (rest : List ℕ) → AreTokens (tokens a) → Ends rest → bare (scan 0 (printed a ++ rest)) ≡ tokens a ++ bare (scan 0 rest)
text_scans (truth true) rest h e = word_scans 116 (codes "rue") rest refl refl e
text_scans (truth false) rest h e = word_scans 102 (codes "alse") rest refl refl e
text_scans falsity rest h e = word_scans 98 (codes "ottom") rest refl refl e
text_scans (name bytes) rest h e = name_scans bytes rest h.0 e
text_scans (number n) rest h e = number_scans n rest h.0 e
text_scans (led l a) rest h e =
    let p = are_parts (lead_tokens l) (tokens a) h in
    ap (λ l. bare (scan 0 l)) (append_assoc (lead_bytes l) (printed a) rest)
    ∙ lead_scans l (printed a ++ rest) p.0
    ∙ ap (λ ts. lead_tokens l ++ ts) (text_scans a rest p.1 e)
    ∙ sym (append_assoc (lead_tokens l) (tokens a) (bare (scan 0 rest)))
text_scans (joined o a b) rest h e =
    let p = are_parts (tokens a) (token.joining o ∷ tokens b) h in
    ap (λ l. bare (scan 0 l)) (
    append_assoc (printed a) (codes " " ++ (sign_bytes o ++ (codes " " ++ printed b))) rest
    ∙ ap (λ l. printed a ++ (codes " " ++ l)) (append_assoc (sign_bytes o) (codes " " ++ printed b) rest)
    )
    ∙ text_scans a (codes " " ++ (sign_bytes o ++ (codes " " ++ (printed b ++ rest)))) p.0 refl
    ∙ ap (λ ts. tokens a ++ ts) (joins_scan o (printed b ++ rest) ∙ ap (λ ts. token.joining o ∷ ts) (text_scans b rest p.1.1 e))
    ∙ sym (append_assoc (tokens a) (token.joining o ∷ tokens b) (bare (scan 0 rest)))
text_scans (closed a) rest h e =
    let p = are_parts (tokens a) (token.mark marks.Close ∷ []) h.1 in
    ap (λ l. bare (scan 0 (codes "(" ++ l))) (append_assoc (printed a) (codes ")") rest)
    ∙ open_scans (printed a ++ (codes ")" ++ rest))
    ∙ ap (λ ts. token.mark marks.Open ∷ ts) (
    text_scans a (codes ")" ++ rest) p.0 refl
    ∙ ap (λ ts. tokens a ++ ts) (close_scans rest)
    ∙ sym (append_assoc (tokens a) (token.mark marks.Close ∷ []) (bare (scan 0 rest)))
    )

pub printed_scans : PrintedScans
printed_scans a h = ap (λ l. bare (scan 0 l)) (sym (append-nil (printed a))) ∙ text_scans a [] h tt ∙ append-nil (tokens a)
