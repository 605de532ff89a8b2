-- The reader over items follows the reader over texts, to what is kept of the text, or to the token where it stops.
use Rattle.std.proofs.Common.{◌≡◌, ℕ, zero, suc, ◌+◌, ◌≤◌, Bool, true, false, List, [], ◌∷◌, ◌++◌, length, drop, refl, sym, subst, ap, ap₂, ◌∙◌, arith, Option, Some, None, Ok, Err, nat_le, nat_lt, ◌&&◌, if◌then◌else◌}
use Rattle.std.specs.Option.{option_map, is_some}
use Rattle.std.proofs.lemmas.Bool.{cond_both}
use Rattle.std.proofs.lemmas.List.{length-append}
use Rattle.ck_text.specs.declared.token.Sign.TheVariants as sign
use Rattle.ck_text.specs.declared.token.Prefix.TheVariants as prefixes
use Rattle.ck_text.specs.declared.token.Mark.TheVariants as marks
use Rattle.ck_text.specs.Tokens.{Token, Placed, bare}
use Rattle.ck_text.specs.Tokens as token
use Rattle.ck_text.specs.Texts.{Lead, prefix, binder, Text, truth, falsity, name, number, led, joined, closed, tokens, lead_tokens, level, right_want, lead_level, lead_on_terms, suits, Bindings, first_of, meaning_of}
use Rattle.ck_text.specs.Machine as texts
use Rattle.ck_text.specs.Reading.{unknown_at, left_of}
use Rattle.ck_text.specs.Items.{unknown_word, unknown_here, finished, or_fault, after, run}
use Rattle.ck_text.proofs.Stacks.{Lasts, front, before}
use Rattle.ck_text.proofs.Keeping.{guard_passed, step_keeps}
use Rattle.ck_text.proofs.Shown.{item_of, scope_under, shown_state, scope_shown, step_shown, finished_shown}

pub first_none : {A : Type 0} (o : Option A) → first_of o None ≡ o
first_none (Some a) = refl
first_none None = refl

pub first_assoc : {A : Type 0} (o p q : Option A) → first_of (first_of o p) q ≡ first_of o (first_of p q)
first_assoc (Some a) p q = refl
first_assoc None p q = refl

pub map_first : {A B : Type 0} (f : A → B) (o p : Option A) → option_map f (first_of o p) ≡ first_of (option_map f o) (option_map f p)
map_first f (Some a) p = refl
map_first f None p = refl

-- what stands behind the first that is left
pub drop_next : (k : ℕ) (all : List Placed) (p : Placed) (placed : List Placed) → drop k all ≡ p ∷ placed → drop (suc k) all ≡ placed
drop_next zero [] p placed e = absurd (cc)
drop_next zero (q ∷ all) p placed e = cc
drop_next (suc k) [] p placed e = absurd (cc)
drop_next (suc k) (q ∷ all) p placed e = drop_next k all p placed e

-- # How many tokens were read

abbrev pub counted : List texts.Frame → ℕ
counted [] = 0
counted (texts.leading l ∷ stack) = counted stack + length (lead_tokens l)
counted (texts.operand o a ∷ stack) = suc (counted stack + length (tokens a))
counted (texts.parenthesis ∷ stack) = suc (counted stack)

abbrev pub counted_state : texts.State → ℕ
counted_state (texts.wanting stack) = counted stack
counted_state (texts.having stack a) = counted stack + length (tokens a)
counted_state (texts.naming q stack) = suc (counted stack)
counted_state (texts.named q bytes stack) = suc (suc (counted stack))
counted_state (texts.sorting q bytes stack) = suc (suc (suc (counted stack)))
counted_state (texts.sorted q bytes s stack) = suc (suc (suc (suc (counted stack))))

front_length : (stack : List texts.Frame) (rest : List Token) → length (front stack rest) ≡ counted stack + length rest
front_length [] rest = omega arith
front_length (texts.leading l ∷ stack) rest = omega (arith, front_length stack (lead_tokens l ++ rest), length-append (lead_tokens l) rest)
front_length (texts.operand o a ∷ stack) rest = omega (arith, front_length stack (tokens a ++ (token.joining o ∷ rest)), length-append (tokens a) (token.joining o ∷ rest))
front_length (texts.parenthesis ∷ stack) rest = omega (arith, front_length stack (token.mark marks.Open ∷ rest))

pub before_length : (st : texts.State) (rest : List Token) → length (before st rest) ≡ counted_state st + length rest
before_length (texts.wanting stack) rest = front_length stack rest
before_length (texts.having stack a) rest = omega (arith, front_length stack (tokens a ++ rest), length-append (tokens a) rest)
before_length (texts.naming q stack) rest = omega (arith, front_length stack (token.quantifier q ∷ rest))
before_length (texts.named q bytes stack) rest = omega (arith, front_length stack (token.quantifier q ∷ token.word bytes ∷ rest))
before_length (texts.sorting q bytes stack) rest = omega (arith, front_length stack (token.quantifier q ∷ token.word bytes ∷ token.mark marks.Colon ∷ rest))
before_length (texts.sorted q bytes s stack) rest = omega (arith, front_length stack (token.quantifier q ∷ token.word bytes ∷ token.mark marks.Colon ∷ token.sort s ∷ rest))

one_more : (st next : texts.State) (t : Token) → before st (t ∷ []) ≡ before next [] → counted_state next ≡ suc (counted_state st)
one_more st next t e = omega (arith, before_length st (t ∷ []), before_length next [], ap length e)

module _ (most : ℕ) (asked : Bool) (scope : Bindings) where
  -- # The first name that means nothing, by its number

  abbrev pub missed : List texts.Frame → Option ℕ
  missed [] = None
  missed (texts.leading l ∷ stack) = missed stack
  missed (texts.operand o a ∷ stack) = first_of (missed stack) (unknown_at (counted stack) (scope_under most asked scope stack) a)
  missed (texts.parenthesis ∷ stack) = missed stack

  abbrev pub missed_top : List texts.Frame × Text → Option ℕ
  missed_top top = first_of (missed top.0) (unknown_at (counted top.0) (scope_under most asked scope top.0) top.1)

  abbrev pub missed_state : texts.State → Option ℕ
  missed_state (texts.wanting stack) = missed stack
  missed_state (texts.having stack a) = missed_top (stack, a)
  missed_state (texts.naming q stack) = missed stack
  missed_state (texts.named q bytes stack) = missed stack
  missed_state (texts.sorting q bytes stack) = missed stack
  missed_state (texts.sorted q bytes s stack) = missed stack

  -- the number of the token, where it is such a name
  abbrev pub unknown_now : texts.State → Token → ℕ → Option ℕ
  unknown_now (texts.wanting stack) t k = unknown_word (scope_under most asked scope stack) t k
  unknown_now st t k = None

  reduced_missed : (least : ℕ) (stack : List texts.Frame) (a : Text) → missed_top (texts.reduced least stack a) ≡ missed_top (stack, a)
  reduced_missed least [] a = refl
  reduced_missed least (texts.leading l ∷ stack) a =
      cond_both (nat_le least (lead_level l)) (texts.reduced least stack (led l a)) (texts.leading l ∷ stack, a) (λ (x : List texts.Frame × Text). missed_top x ≡ missed_top (texts.leading l ∷ stack, a))
      (λ t. reduced_missed least stack (led l a)) (λ t. refl)
  reduced_missed least (texts.operand o b ∷ stack) a =
      cond_both (nat_le least (right_want o)) (texts.reduced least stack (joined o b a)) (texts.operand o b ∷ stack, a) (λ (x : List texts.Frame × Text). missed_top x ≡ missed_top (texts.operand o b ∷ stack, a))
      (λ t. reduced_missed least stack (joined o b a) ∙ sym (first_assoc (missed stack) (unknown_at (counted stack) (scope_under most asked scope stack) b)
      (unknown_at (suc (counted stack + length (tokens b))) (scope_under most asked scope stack) a))) (λ t. refl)
  reduced_missed least (texts.parenthesis ∷ stack) a = refl

  abbrev Misses : texts.State → Token → texts.State → Type 0
  Misses st t next = missed_state next ≡ first_of (missed_state st) (unknown_now st t (counted_state st))

  goes : (st : texts.State) (t : Token) (to next : texts.State) → Some to ≡ Some next → Misses st t to → Misses st t next
  goes st t to next e h = let same : to ≡ next = cc in subst (λ x. Misses st t x) same h

  goes_guarded : (st : texts.State) (t : Token) (test : Bool) (to next : texts.State) → texts.guarded test to ≡ Some next → Misses st t to → Misses st t next
  goes_guarded st t test to next e h = subst (λ x. Misses st t x) (guard_passed test to next e).1 h

  closes_missed : (stack under : List texts.Frame) (a b : Text) (next : texts.State) → missed_top (under, b) ≡ missed_top (stack, a) → texts.closes under b ≡ Some next → Misses (texts.having stack a) (token.mark marks.Close) next
  closes_missed stack [] a b next h e = absurd (cc)
  closes_missed stack (texts.leading l ∷ under) a b next h e = absurd (cc)
  closes_missed stack (texts.operand o c ∷ under) a b next h e = absurd (cc)
  closes_missed stack (texts.parenthesis ∷ under) a b next h e =
      goes (texts.having stack a) (token.mark marks.Close) (texts.having under (closed b)) next e (h ∙ sym (first_none (missed_top (stack, a))))

  module _ (limit : ℕ) where
    lead_test : Lead → List texts.Frame → Bool
    lead_test l stack = nat_le (texts.want stack) (lead_level l) && suits (texts.asks asked stack) (lead_on_terms l) && nat_lt (texts.opened stack) limit

    pub step_missed : (st : texts.State) (t : Token) (next : texts.State) → texts.step limit asked st t ≡ Some next → Misses st t next
    step_missed (texts.wanting stack) (token.truth b) next e = goes (texts.wanting stack) (token.truth b) (texts.having stack (truth b)) next e refl
    step_missed (texts.wanting stack) (token.mark marks.Bottom) next e = goes_guarded (texts.wanting stack) (token.mark marks.Bottom) (suits (texts.asks asked stack) false) (texts.having stack falsity) next e refl
    step_missed (texts.wanting stack) (token.word bytes) next e = goes (texts.wanting stack) (token.word bytes) (texts.having stack (name bytes)) next e refl
    step_missed (texts.wanting stack) (token.number n) next e = goes (texts.wanting stack) (token.number n) (texts.having stack (number n)) next e refl
    step_missed (texts.wanting stack) (token.mark marks.Open) next e = goes_guarded (texts.wanting stack) (token.mark marks.Open) (nat_lt (texts.opened stack) limit) (texts.wanting (texts.parenthesis ∷ stack)) next e (sym (first_none (missed stack)))
    step_missed (texts.wanting stack) (token.mark marks.Tilde) next e = goes_guarded (texts.wanting stack) (token.mark marks.Tilde) _ (texts.wanting (texts.leading (prefix prefixes.Tilde) ∷ stack)) next e (sym (first_none (missed stack)))
    step_missed (texts.wanting stack) (token.mark marks.Not) next e = goes_guarded (texts.wanting stack) (token.mark marks.Not) _ (texts.wanting (texts.leading (prefix prefixes.Not) ∷ stack)) next e (sym (first_none (missed stack)))
    step_missed (texts.wanting stack) (token.joining sign.Minus) next e = goes_guarded (texts.wanting stack) (token.joining sign.Minus) _ (texts.wanting (texts.leading (prefix prefixes.Minus) ∷ stack)) next e (sym (first_none (missed stack)))
    step_missed (texts.wanting stack) (token.quantifier q) next e = goes_guarded (texts.wanting stack) (token.quantifier q) _ (texts.naming q stack) next e (sym (first_none (missed stack)))
    step_missed (texts.having stack a) (token.joining o) next e =
        let top : List texts.Frame × Text = texts.reduced (suc (level o)) stack a in
        goes_guarded (texts.having stack a) (token.joining o) _ (texts.wanting (texts.operand o top.1 ∷ top.0)) next e (reduced_missed (suc (level o)) stack a ∙ sym (first_none (missed_top (stack, a))))
    step_missed (texts.having stack a) (token.mark marks.Close) next e = closes_missed stack (texts.reduced 0 stack a).0 a (texts.reduced 0 stack a).1 next (reduced_missed 0 stack a) e
    step_missed (texts.naming q stack) (token.word bytes) next e = goes (texts.naming q stack) (token.word bytes) (texts.named q bytes stack) next e (sym (first_none (missed stack)))
    step_missed (texts.named q bytes stack) (token.mark marks.Colon) next e = goes (texts.named q bytes stack) (token.mark marks.Colon) (texts.sorting q bytes stack) next e (sym (first_none (missed stack)))
    step_missed (texts.named q bytes stack) (token.mark marks.Dot) next e = goes (texts.named q bytes stack) (token.mark marks.Dot) (texts.wanting (texts.leading (binder q bytes None) ∷ stack)) next e (sym (first_none (missed stack)))
    step_missed (texts.sorting q bytes stack) (token.sort s) next e = goes (texts.sorting q bytes stack) (token.sort s) (texts.sorted q bytes s stack) next e (sym (first_none (missed stack)))
    step_missed (texts.sorted q bytes s stack) (token.mark marks.Dot) next e = goes (texts.sorted q bytes s stack) (token.mark marks.Dot) (texts.wanting (texts.leading (binder q bytes (Some s)) ∷ stack)) next e (sym (first_none (missed stack)))
    step_missed st t next e = absurd (cc)

  alone_missed : (stack : List texts.Frame) (a c : Text) → texts.alone stack a ≡ Some c → missed_top (stack, a) ≡ unknown_at 0 scope c
  alone_missed [] a c e = let same : a ≡ c = cc in ap (unknown_at 0 scope) same
  alone_missed (texts.leading l ∷ stack) a c e = absurd (cc)
  alone_missed (texts.operand o b ∷ stack) a c e = absurd (cc)
  alone_missed (texts.parenthesis ∷ stack) a c e = absurd (cc)

  pub finished_missed : (st : texts.State) (c : Text) → texts.finished st ≡ Some c → missed_state st ≡ unknown_at 0 scope c
  finished_missed (texts.having stack a) c e = sym (reduced_missed 0 stack a) ∙ alone_missed (texts.reduced 0 stack a).0 (texts.reduced 0 stack a).1 c e
  finished_missed st c e = absurd (cc)

  -- # Places

  abbrev pub place : List Placed → ℕ → ℕ
  place all k = left_of (drop k all)

  word_place : (f : ℕ → ℕ) (s : Bindings) (t : Token) (k : ℕ) → option_map f (unknown_word s t k) ≡ unknown_word s t (f k)
  word_place f s (token.word bytes) k = by (is_some (meaning_of s bytes)) where
    by : (b : Bool) → option_map f (if b then None else Some k) ≡ (if b then None else Some (f k))
    by true = refl
    by false = refl
  word_place f s t k = refl

  pub here_place : (f : ℕ → ℕ) (st : texts.State) (t : Token) (k left : ℕ) → f k ≡ left → option_map f (unknown_now st t k) ≡ unknown_here scope (shown_state most asked scope st) t left
  here_place f (texts.wanting stack) t k left e =
      word_place f (scope_under most asked scope stack) t k ∙ ap₂ (λ s l. unknown_word s t l) (sym (scope_shown most asked scope stack)) e
  here_place f st t k left e = refl

  -- # Runs

  module _ (limit : ℕ) where
    pub run_kept : (all placed : List Placed) (st : texts.State) (unknown : Option ℕ) (c : Text) → Lasts limit asked st → drop (counted_state st) all ≡ placed → unknown ≡ option_map (place all) (missed_state st)
        → texts.run limit asked (bare placed) st ≡ Ok c → run limit most asked scope placed (shown_state most asked scope st) unknown ≡ Ok (item_of most scope c, option_map (place all) (unknown_at 0 scope c))
    run_kept all [] st unknown c h d u e = by (texts.finished st) refl e where
      by : (o : Option Text) → texts.finished st ≡ o → texts.or_fault o ≡ Ok c → or_fault (finished most (shown_state most asked scope st)) unknown ≡ Ok (item_of most scope c, option_map (place all) (unknown_at 0 scope c))
      by (Some a) f e =
          let same : a ≡ c = cc in
          ap₂ or_fault (finished_shown most asked scope st ∙ ap (option_map (item_of most scope)) (f ∙ ap Some same)) (u ∙ ap (option_map (place all)) (finished_missed st c (f ∙ ap Some same)))
      by None f e = absurd (cc)
    run_kept all (p ∷ placed) st unknown c h d u e = by (λ next unknown. run_kept all placed next unknown c) (texts.step limit asked st p.token) refl e where
      by : ((next : texts.State) (unknown : Option ℕ) → Lasts limit asked next → drop (counted_state next) all ≡ placed → unknown ≡ option_map (place all) (missed_state next)
          → texts.run limit asked (bare placed) next ≡ Ok c → run limit most asked scope placed (shown_state most asked scope next) unknown ≡ Ok (item_of most scope c, option_map (place all) (unknown_at 0 scope c)))
          → (o : Option texts.State) → texts.step limit asked st p.token ≡ o → texts.after o (p.token ∷ bare placed) (λ next. texts.run limit asked (bare placed) next) ≡ Ok c
          → run limit most asked scope (p ∷ placed) (shown_state most asked scope st) unknown ≡ Ok (item_of most scope c, option_map (place all) (unknown_at 0 scope c))
      by ih (Some next) t e =
          let k = step_keeps limit asked st p.token next h t in
          let more : counted_state next ≡ suc (counted_state st) = one_more st next p.token (k.1 []) in
          let now : Option ℕ = first_of unknown (unknown_here scope (shown_state most asked scope st) p.token p.left) in
          let here : now ≡ option_map (place all) (missed_state next) =
          ap₂ first_of u (sym (here_place (place all) st p.token (counted_state st) p.left (ap left_of d)))
          ∙ sym (map_first (place all) (missed_state st) (unknown_now st p.token (counted_state st)))
          ∙ ap (option_map (place all)) (sym (step_missed limit st p.token next t)) in
          ap (λ o. after o p.left (λ next. run limit most asked scope placed next now)) (step_shown most asked scope limit st p.token ∙ ap (option_map (shown_state most asked scope)) t)
          ∙ ih next now k.0 (ap (λ n. drop n all) more ∙ drop_next (counted_state st) all p placed d) here e
      by ih None t e = absurd (cc)

    pub run_stops : (placed : List Placed) (st : texts.State) (unknown : Option ℕ) (rest : List Token) → texts.run limit asked (bare placed) st ≡ Err rest
        → (k : ℕ) × (k ≤ length placed) × (rest ≡ drop k (bare placed)) × (run limit most asked scope placed (shown_state most asked scope st) unknown ≡ Err (left_of (drop k placed)))
    run_stops [] st unknown rest e = by (texts.finished st) refl e where
      by : (o : Option Text) → texts.finished st ≡ o → texts.or_fault o ≡ Err rest
          → (k : ℕ) × (k ≤ 0) × (rest ≡ drop k (bare [])) × (or_fault (finished most (shown_state most asked scope st)) unknown ≡ Err (left_of (drop k [])))
      by (Some a) f e = absurd (cc)
      by None f e = (0, omega arith, cc, ap (λ o. or_fault o unknown) (finished_shown most asked scope st ∙ ap (option_map (item_of most scope)) f))
    run_stops (p ∷ placed) st unknown rest e = by (λ next unknown. run_stops placed next unknown rest) (texts.step limit asked st p.token) refl e where
      by : ((next : texts.State) (unknown : Option ℕ) → texts.run limit asked (bare placed) next ≡ Err rest
          → (k : ℕ) × (k ≤ length placed) × (rest ≡ drop k (bare placed)) × (run limit most asked scope placed (shown_state most asked scope next) unknown ≡ Err (left_of (drop k placed))))
          → (o : Option texts.State) → texts.step limit asked st p.token ≡ o → texts.after o (p.token ∷ bare placed) (λ next. texts.run limit asked (bare placed) next) ≡ Err rest
          → (k : ℕ) × (k ≤ length (p ∷ placed)) × (rest ≡ drop k (bare (p ∷ placed))) × (run limit most asked scope (p ∷ placed) (shown_state most asked scope st) unknown ≡ Err (left_of (drop k (p ∷ placed))))
      by ih (Some next) t e =
          let now : Option ℕ = first_of unknown (unknown_here scope (shown_state most asked scope st) p.token p.left) in
          let s = ih next now e in (
            suc s.0,
            omega (arith, s.1),
            s.2,
            ap (λ o. after o p.left (λ next. run limit most asked scope placed next now)) (step_shown most asked scope limit st p.token ∙ ap (option_map (shown_state most asked scope)) t) ∙ s.3,
          )
      by ih None t e = (
        0,
        omega arith,
        cc,
        ap (λ o. after o p.left (λ next. run limit most asked scope placed next (first_of unknown (unknown_here scope (shown_state most asked scope st) p.token p.left))))
            (step_shown most asked scope limit st p.token ∙ ap (option_map (shown_state most asked scope)) t),
      )
