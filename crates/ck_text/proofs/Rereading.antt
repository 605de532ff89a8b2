-- The reader reads every text of the asked form from its tokens.
use Rattle.std.proofs.Common.{◌≡◌, ℕ, suc, ◌+◌, ◌≤◌, ◌<◌, Bool, true, false, List, [], ◌∷◌, ◌++◌, refl, sym, ap, ◌∙◌, arith, append_assoc, append-nil, Some, None, Ok}
use Rattle.std.proofs.lemmas.Bool.{le-leb, lt-leb, lt-ltb}
use Rattle.ck_text.specs.declared.token.Sign.{Sign}
use Rattle.ck_text.specs.declared.token.Prefix.{Prefix}
use Rattle.ck_text.specs.declared.token.Prefix.TheVariants as prefixes
use Rattle.ck_text.specs.declared.token.Mark.TheVariants as marks
use Rattle.ck_text.specs.Tokens.{Token}
use Rattle.ck_text.specs.Tokens as token
use Rattle.ck_text.specs.Texts.{Lead, prefix, binder, Text, truth, falsity, name, number, led, joined, closed, prefix_token, lead_tokens, tokens, level, left_want, right_want, lead_level, rank, on_terms, lead_on_terms, is_term, suits, opens, Fits, IsText}
use Rattle.ck_text.specs.Machine.{Frame, leading, operand, parenthesis, State, wanting, having, naming, want, asks, opened, reduced, leads, joins, closes, step, alone, or_fault, after, run, read}
use Rattle.ck_text.proofs.Tables.{left_least, left_most, binds, binds_lead}

-- After the last token of a text, its right operands are still on the stack, and the innermost is there.
abbrev pub spine : Text → List Frame → List Frame
spine (led l a) stack = spine a (leading l ∷ stack)
spine (joined o a b) stack = spine b (operand o a ∷ stack)
spine a stack = stack

abbrev pub last : Text → Text
last (led l a) = last a
last (joined o a b) = last b
last a = a

-- What is reduced takes them together to the text, where its level is at least `most`, and what has such a
-- level is complete before something that wants `least`.
refolded : (limit around least most : ℕ) → most ≤ least → ((o : Sign) → most ≤ level o → least ≤ right_want o) → ((l : Lead) → most ≤ lead_level l → least ≤ lead_level l)
    → (t : Text) (stack : List Frame) → Fits limit around t → most ≤ rank t → reduced least (spine t stack) (last t) ≡ reduced least stack t
refolded limit around least most e tight tight_lead (led l a) stack h r =
    let k : least ≤ lead_level l = tight_lead l r in
    refolded limit (suc around) least most e tight tight_lead a (leading l ∷ stack) h.3 (omega (arith, e, k, h.0)) ∙ reduces where
      reduces : reduced least (leading l ∷ stack) a ≡ reduced least stack (led l a)
      reduces = rw (le-leb least (lead_level l) (tight_lead l r)) refl
refolded limit around least most e tight tight_lead (joined o a b) stack h r =
    let k : least ≤ right_want o = tight o r in
    refolded limit (opens o + around) least most e tight tight_lead b (operand o a ∷ stack) h.6 (omega (arith, e, k, h.1)) ∙ reduces where
      reduces : reduced least (operand o a ∷ stack) b ≡ reduced least stack (joined o a b)
      reduces = rw (le-leb least (right_want o) (tight o r)) refl
refolded limit around least most e tight tight_lead (truth b) stack h r = refl
refolded limit around least most e tight tight_lead falsity stack h r = refl
refolded limit around least most e tight tight_lead (name bytes) stack h r = refl
refolded limit around least most e tight tight_lead (number n) stack h r = refl
refolded limit around least most e tight tight_lead (closed a) stack h r = refl

-- frames that want no more than a level stay before a sign of it
stays : (most : ℕ) (stack : List Frame) (a : Text) → want stack ≤ most → reduced (suc most) stack a ≡ (stack, a)
stays most [] a h = refl
stays most (leading l ∷ stack) a h = rw (lt-leb (suc most) (lead_level l) (omega (arith, h))) refl
stays most (operand o b ∷ stack) a h = rw (lt-leb (suc most) (right_want o) (omega (arith, h))) refl
stays most (parenthesis ∷ stack) a h = refl

-- the left operand of a sign suits wherever the sign does: it is a term where a term is asked
left_suits : (asked on term : Bool) → suits asked on ≡ true → suits on term ≡ true → suits asked term ≡ true
left_suits true true term h k = k
left_suits true false term h k = absurd (cc)
left_suits false on term h k = refl

module _ (limit : ℕ) (asked : Bool) where
  leads_on : (l : Lead) (stack : List Frame) (st : State) → want stack ≤ lead_level l → suits (asks asked stack) (lead_on_terms l) ≡ true → opened stack < limit → leads limit asked l stack st ≡ Some st
  leads_on l stack st w k n = rw (le-leb (want stack) (lead_level l) w, k, lt-ltb (opened stack) limit n) refl

  joins_on : (o : Sign) (stack : List Frame) (a : Text) → left_want o ≤ rank a → suits (on_terms o) (is_term a) ≡ true → suits (asks asked stack) (on_terms o) ≡ true → opens o + opened stack ≤ limit
      → joins limit asked o (stack, a) ≡ Some (wanting (operand o a ∷ stack))
  joins_on o stack a w k q n = rw (le-leb (left_want o) (rank a) w, k, q, le-leb (opens o + opened stack) limit n) refl

  prefix_step : (p : Prefix) (stack : List Frame) → step limit asked (wanting stack) (prefix_token p) ≡ leads limit asked (prefix p) stack (wanting (leading (prefix p) ∷ stack))
  prefix_step prefixes.Tilde stack = refl
  prefix_step prefixes.Not stack = refl
  prefix_step prefixes.Minus stack = refl

  -- the run over a step that is known
  goes_on : (st next : State) (t : Token) (ts : List Token) → step limit asked st t ≡ Some next → run limit asked (t ∷ ts) st ≡ run limit asked ts next
  goes_on st next t ts e = ap (λ o. after o (t ∷ ts) (λ next. run limit asked ts next)) e

  -- the run over a lead
  led_read : (l : Lead) (stack : List Frame) (rest : List Token) → want stack ≤ lead_level l → suits (asks asked stack) (lead_on_terms l) ≡ true → opened stack < limit
      → run limit asked (lead_tokens l ++ rest) (wanting stack) ≡ run limit asked rest (wanting (leading l ∷ stack))
  led_read (prefix p) stack rest w k n = goes_on (wanting stack) (wanting (leading (prefix p) ∷ stack)) (prefix_token p) rest (prefix_step p stack ∙ leads_on (prefix p) stack (wanting (leading (prefix p) ∷ stack)) w k n)
  led_read (binder q bytes None) stack rest w k n = goes_on (wanting stack) (naming q stack) (token.quantifier q) (token.word bytes ∷ token.mark marks.Dot ∷ rest) (leads_on (binder q [] None) stack (naming q stack) w k n)
  led_read (binder q bytes (Some s)) stack rest w k n = goes_on (wanting stack) (naming q stack) (token.quantifier q) (token.word bytes ∷ token.mark marks.Colon ∷ token.sort s ∷ token.mark marks.Dot ∷ rest) (leads_on (binder q [] None) stack (naming q stack) w k n)

  -- the step over a sign after a text, and over the `)` that closes it
  joined_step : (o : Sign) (a : Text) (around : ℕ) (stack : List Frame) → Fits limit around a → left_want o ≤ rank a → want stack ≤ level o → suits (on_terms o) (is_term a) ≡ true → suits (asks asked stack) (on_terms o) ≡ true → opens o + opened stack ≤ limit
      → step limit asked (having (spine a stack) (last a)) (token.joining o) ≡ Some (wanting (operand o a ∷ stack))
  joined_step o a around stack h r w k q n =
      ap (joins limit asked o) (refolded limit around (suc (level o)) (left_want o) (left_most o) (binds o) (binds_lead o) a stack h r ∙ stays (level o) stack a w)
      ∙ joins_on o stack a r k q n

  closed_step : (a : Text) (around : ℕ) (stack : List Frame) → Fits limit around a → step limit asked (having (spine a (parenthesis ∷ stack)) (last a)) (token.mark marks.Close) ≡ Some (having stack (closed a))
  closed_step a around stack h =
      ap (λ (top : List Frame × Text). closes top.0 top.1) (refolded limit around 0 0 (omega arith) (λ o r. omega arith) (λ l r. omega arith) a (parenthesis ∷ stack) h (omega arith))

  -- the run over a text
  pub text_read : (t : Text) (stack : List Frame) (rest : List Token) → Fits limit (opened stack) t → want stack ≤ rank t → suits (asks asked stack) (is_term t) ≡ true
      → run limit asked (tokens t ++ rest) (wanting stack) ≡ run limit asked rest (having (spine t stack) (last t))
  text_read (truth b) stack rest h w k = refl
  text_read falsity stack rest h w k = goes_on (wanting stack) (having stack falsity) (token.mark marks.Bottom) rest (rw k refl)
  text_read (name bytes) stack rest h w k = refl
  text_read (number n) stack rest h w k = refl
  text_read (led l a) stack rest h w k =
      ap (λ ts. run limit asked ts (wanting stack)) (append_assoc (lead_tokens l) (tokens a) rest)
      ∙ led_read l stack (tokens a ++ rest) w k h.2
      ∙ text_read a (leading l ∷ stack) rest h.3 h.0 h.1
  text_read (joined o a b) stack rest h w k =
      ap (λ ts. run limit asked ts (wanting stack)) (append_assoc (tokens a) (token.joining o ∷ tokens b) rest)
      ∙ text_read a stack (token.joining o ∷ (tokens b ++ rest)) h.5 (omega (arith, w, h.0, left_least o)) (left_suits (asks asked stack) (on_terms o) (is_term a) k h.2)
      ∙ goes_on (having (spine a stack) (last a)) (wanting (operand o a ∷ stack)) (token.joining o) (tokens b ++ rest) (joined_step o a (opened stack) stack h.5 h.0 w h.2 k h.4)
      ∙ text_read b (operand o a ∷ stack) rest h.6 h.1 h.3
  text_read (closed a) stack rest h w k =
      ap (λ ts. run limit asked (token.mark marks.Open ∷ ts) (wanting stack)) (append_assoc (tokens a) (token.mark marks.Close ∷ []) rest)
      ∙ goes_on (wanting stack) (wanting (parenthesis ∷ stack)) (token.mark marks.Open) (tokens a ++ (token.mark marks.Close ∷ rest)) (rw (lt-ltb (opened stack) limit h.0) refl)
      ∙ text_read a (parenthesis ∷ stack) (token.mark marks.Close ∷ rest) h.1 (omega arith) k
      ∙ goes_on (having (spine a (parenthesis ∷ stack)) (last a)) (having stack (closed a)) (token.mark marks.Close) rest (closed_step a (suc (opened stack)) stack h.1)

  pub whole_read : (a : Text) → IsText limit asked a → read limit asked (tokens a) ≡ Ok a
  whole_read a h =
      ap (read limit asked) (sym (append-nil (tokens a)))
      ∙ text_read a [] [] h.0 (omega arith) h.1
      ∙ ap (λ (top : List Frame × Text). or_fault (alone top.0 top.1)) (refolded limit 0 0 0 (omega arith) (λ o r. omega arith) (λ l r. omega arith) a [] h.0 (omega arith))
