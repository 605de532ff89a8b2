-- Each step of the reader keeps what holds of its stack, and puts the token behind those that were read.
use Rattle.std.proofs.Common.{◌≡◌, ℕ, suc, ◌+◌, Bool, true, false, ◌&&◌, List, [], ◌∷◌, ◌++◌, refl, sym, ap, subst, ◌∙◌, append_assoc, append-nil, Option, Some, None, Ok, nat_le, nat_lt}
use Rattle.std.proofs.lemmas.Bool.{and_parts, leb-true, ltb-true}
use Rattle.ck_text.specs.declared.token.Sign.{Sign}
use Rattle.ck_text.specs.declared.token.Sign.TheVariants as sign
use Rattle.ck_text.specs.declared.token.Prefix.TheVariants as prefixes
use Rattle.ck_text.specs.declared.token.Mark.TheVariants as marks
use Rattle.ck_text.specs.Tokens.{Token}
use Rattle.ck_text.specs.Tokens as token
use Rattle.ck_text.specs.Texts.{Lead, prefix, binder, Text, truth, falsity, name, number, closed, tokens, level, left_want, lead_level, rank, on_terms, lead_on_terms, is_term, suits, opens, IsText}
use Rattle.ck_text.specs.Machine.{Frame, leading, operand, parenthesis, State, wanting, having, naming, named, sorting, sorted, want, asks, opened, reduced, guarded, leads, joins, closes, step, alone, finished, or_fault, after, run}
use Rattle.ck_text.proofs.Tables.{want_most, term_suits}
use Rattle.ck_text.proofs.Stacks.{Sits, Stands, Lasts, front, before, reduced_stands, reduced_front, reduced_want}

pub guard_passed : (test : Bool) (st next : State) → guarded test st ≡ Some next → (test ≡ true) × (st ≡ next)
guard_passed true st next e = (refl, cc)
guard_passed false st next e = absurd (cc)

module _ (limit : ℕ) (asked : Bool) where
  abbrev pub Keeps : State → Token → State → Type 0
  Keeps st t next = Lasts limit asked next × ((rest : List Token) → before st (t ∷ rest) ≡ before next rest)

  goes : (st : State) (t : Token) (to next : State) → Some to ≡ Some next → Keeps st t to → Keeps st t next
  goes st t to next e k = let same : to ≡ next = cc in subst (λ x. Keeps st t x) same k

  led_sits : (l : Lead) (stack : List Frame) (to next : State) → Sits limit asked stack → leads limit asked l stack to ≡ Some next → Sits limit asked (leading l ∷ stack) × (to ≡ next)
  led_sits l stack to next h e =
      let passed = guard_passed (nat_le (want stack) (lead_level l) && suits (asks asked stack) (lead_on_terms l) && nat_lt (opened stack) limit) to next e in
      let last = and_parts (nat_le (want stack) (lead_level l) && suits (asks asked stack) (lead_on_terms l)) (nat_lt (opened stack) limit) passed.0 in
      let first = and_parts (nat_le (want stack) (lead_level l)) (suits (asks asked stack) (lead_on_terms l)) last.0 in
      ((leb-true (want stack) (lead_level l) first.0, first.1, ltb-true (opened stack) limit last.1, h), passed.1)

  prefix_keeps : (l : Lead) (t : Token) (stack : List Frame) (next : State) → ((rest : List Token) → before (wanting stack) (t ∷ rest) ≡ before (wanting (leading l ∷ stack)) rest)
      → Sits limit asked stack → leads limit asked l stack (wanting (leading l ∷ stack)) ≡ Some next → Keeps (wanting stack) t next
  prefix_keeps l t stack next same h e =
      let s = led_sits l stack (wanting (leading l ∷ stack)) next h e in
      subst (λ x. Keeps (wanting stack) t x) s.1 (s.0, same)

  joins_keeps : (o : Sign) (stack : List Frame) (a : Text) (next : State) → Stands limit asked stack a → joins limit asked o (reduced (suc (level o)) stack a) ≡ Some next → Keeps (having stack a) (token.joining o) next
  joins_keeps o stack a next h e =
      let top : List Frame × Text = reduced (suc (level o)) stack a in
      let stands : Stands limit asked top.0 top.1 = reduced_stands limit asked (suc (level o)) stack a h in
      let passed = guard_passed (nat_le (left_want o) (rank top.1) && suits (on_terms o) (is_term top.1) && suits (asks asked top.0) (on_terms o) && nat_le (opens o + opened top.0) limit) (wanting (operand o top.1 ∷ top.0)) next e in
      let fourth = and_parts (nat_le (left_want o) (rank top.1) && suits (on_terms o) (is_term top.1) && suits (asks asked top.0) (on_terms o)) (nat_le (opens o + opened top.0) limit) passed.0 in
      let third = and_parts (nat_le (left_want o) (rank top.1) && suits (on_terms o) (is_term top.1)) (suits (asks asked top.0) (on_terms o)) fourth.0 in
      let second = and_parts (nat_le (left_want o) (rank top.1)) (suits (on_terms o) (is_term top.1)) third.0 in
      subst (λ x. Keeps (having stack a) (token.joining o) x) passed.1 (
        (reduced_want (level o) stack a, leb-true (left_want o) (rank top.1) second.0, second.1, third.1, leb-true (opens o + opened top.0) limit fourth.1, stands.3, stands.0),
        (λ rest. sym (reduced_front (suc (level o)) stack a (token.joining o ∷ rest))),
      )

  closes_keeps : (stack under : List Frame) (a b : Text) (next : State) → ((rest : List Token) → front under (tokens b ++ rest) ≡ front stack (tokens a ++ rest))
      → Stands limit asked under b → closes under b ≡ Some next → Keeps (having stack a) (token.mark marks.Close) next
  closes_keeps stack [] a b next same h e = absurd (cc)
  closes_keeps stack (leading l ∷ under) a b next same h e = absurd (cc)
  closes_keeps stack (operand o c ∷ under) a b next same h e = absurd (cc)
  closes_keeps stack (parenthesis ∷ under) a b next same h e =
      goes (having stack a) (token.mark marks.Close) (having under (closed b)) next e (
        (h.0.1, want_most under, h.2, (h.0.0, h.3)),
        (λ rest. sym (same (token.mark marks.Close ∷ rest)) ∙ ap (λ ts. front under (token.mark marks.Open ∷ ts)) (sym (append_assoc (tokens b) (token.mark marks.Close ∷ []) rest))),
      )

  pub step_keeps : (st : State) (t : Token) (next : State) → Lasts limit asked st → step limit asked st t ≡ Some next → Keeps st t next
  step_keeps (wanting stack) (token.truth b) next h e = goes (wanting stack) (token.truth b) (having stack (truth b)) next e ((h, want_most stack, term_suits (asks asked stack), tt), (λ rest. refl))
  step_keeps (wanting stack) (token.mark marks.Bottom) next h e =
      let passed = guard_passed (suits (asks asked stack) false) (having stack falsity) next e in
      subst (λ x. Keeps (wanting stack) (token.mark marks.Bottom) x) passed.1 ((h, want_most stack, passed.0, tt), (λ rest. refl))
  step_keeps (wanting stack) (token.word bytes) next h e = goes (wanting stack) (token.word bytes) (having stack (name bytes)) next e ((h, want_most stack, term_suits (asks asked stack), tt), (λ rest. refl))
  step_keeps (wanting stack) (token.number n) next h e = goes (wanting stack) (token.number n) (having stack (number n)) next e ((h, want_most stack, term_suits (asks asked stack), tt), (λ rest. refl))
  step_keeps (wanting stack) (token.mark marks.Open) next h e =
      let passed = guard_passed (nat_lt (opened stack) limit) (wanting (parenthesis ∷ stack)) next e in
      subst (λ x. Keeps (wanting stack) (token.mark marks.Open) x) passed.1 ((ltb-true (opened stack) limit passed.0, h), (λ rest. refl))
  step_keeps (wanting stack) (token.mark marks.Tilde) next h e = prefix_keeps (prefix prefixes.Tilde) (token.mark marks.Tilde) stack next (λ rest. refl) h e
  step_keeps (wanting stack) (token.mark marks.Not) next h e = prefix_keeps (prefix prefixes.Not) (token.mark marks.Not) stack next (λ rest. refl) h e
  step_keeps (wanting stack) (token.joining sign.Minus) next h e = prefix_keeps (prefix prefixes.Minus) (token.joining sign.Minus) stack next (λ rest. refl) h e
  step_keeps (wanting stack) (token.quantifier q) next h e =
      let s = led_sits (binder q [] None) stack (naming q stack) next h e in
      subst (λ x. Keeps (wanting stack) (token.quantifier q) x) s.1 (s.0, (λ rest. refl))
  step_keeps (having stack a) (token.joining o) next h e = joins_keeps o stack a next h e
  step_keeps (having stack a) (token.mark marks.Close) next h e =
      closes_keeps stack (reduced 0 stack a).0 a (reduced 0 stack a).1 next (reduced_front 0 stack a) (reduced_stands limit asked 0 stack a h) e
  step_keeps (naming q stack) (token.word bytes) next h e = goes (naming q stack) (token.word bytes) (named q bytes stack) next e (h, (λ rest. refl))
  step_keeps (named q bytes stack) (token.mark marks.Colon) next h e = goes (named q bytes stack) (token.mark marks.Colon) (sorting q bytes stack) next e (h, (λ rest. refl))
  step_keeps (named q bytes stack) (token.mark marks.Dot) next h e = goes (named q bytes stack) (token.mark marks.Dot) (wanting (leading (binder q bytes None) ∷ stack)) next e (h, (λ rest. refl))
  step_keeps (sorting q bytes stack) (token.sort s) next h e = goes (sorting q bytes stack) (token.sort s) (sorted q bytes s stack) next e (h, (λ rest. refl))
  step_keeps (sorted q bytes s stack) (token.mark marks.Dot) next h e = goes (sorted q bytes s stack) (token.mark marks.Dot) (wanting (leading (binder q bytes (Some s)) ∷ stack)) next e (h, (λ rest. refl))
  step_keeps st t next h e = absurd (cc)

  -- a text that ends is one of the asked form, and has the tokens that were read
  alone_is : (stack under : List Frame) (a b c : Text) → ((rest : List Token) → front under (tokens b ++ rest) ≡ front stack (tokens a ++ rest))
      → Stands limit asked under b → or_fault (alone under b) ≡ Ok c → IsText limit asked c × (before (having stack a) [] ≡ tokens c)
  alone_is stack [] a b c same h e =
      let one : b ≡ c = cc in
      subst (λ x. IsText limit asked x × (before (having stack a) [] ≡ tokens x)) one ((h.3, h.2), (sym (same []) ∙ append-nil (tokens b)))
  alone_is stack (leading l ∷ under) a b c same h e = absurd (cc)
  alone_is stack (operand o d ∷ under) a b c same h e = absurd (cc)
  alone_is stack (parenthesis ∷ under) a b c same h e = absurd (cc)

  finished_is : (st : State) (c : Text) → Lasts limit asked st → or_fault (finished st) ≡ Ok c → IsText limit asked c × (before st [] ≡ tokens c)
  finished_is (having stack a) c h e = alone_is stack (reduced 0 stack a).0 a (reduced 0 stack a).1 c (reduced_front 0 stack a) (reduced_stands limit asked 0 stack a h) e
  finished_is st c h e = absurd (cc)

  -- what is read is a text of the asked form with just those tokens
  pub run_is : (ts : List Token) (st : State) (c : Text) → Lasts limit asked st → run limit asked ts st ≡ Ok c → IsText limit asked c × (before st ts ≡ tokens c)
  run_is [] st c h e = finished_is st c h e
  run_is (t ∷ ts) st c h e = by (λ next. run_is ts next c) (step limit asked st t) refl e where
    by : ((next : State) → Lasts limit asked next → run limit asked ts next ≡ Ok c → IsText limit asked c × (before next ts ≡ tokens c))
        → (o : Option State) → step limit asked st t ≡ o → after o (t ∷ ts) (λ next. run limit asked ts next) ≡ Ok c → IsText limit asked c × (before st (t ∷ ts) ≡ tokens c)
    by ih (Some next) taken e =
        let k = step_keeps st t next h taken in
        let r = ih next k.0 e in
        (r.0, (k.1 ts ∙ r.1))
    by ih None taken e = absurd (cc)
