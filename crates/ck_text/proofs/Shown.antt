-- Each step of the reader over items is the step of the reader over texts.
use Rattle.std.proofs.Common.{◌≡◌, ℕ, suc, ◌+◌, Bool, true, false, ◌&&◌, List, [], ◌∷◌, refl, ap, ◌∙◌, Option, Some, None, nat_le, nat_lt, ℤ, if◌then◌else◌}
use Rattle.std.specs.Option.{option_map}
use Rattle.sorted_terms.specs.Tree.{TermTree}
use Rattle.sorted_terms.specs.Tree as term
use Rattle.ck_text.specs.declared.token.Sign.{Sign}
use Rattle.ck_text.specs.declared.token.Sign.TheVariants as sign
use Rattle.ck_text.specs.declared.token.Prefix.TheVariants as prefixes
use Rattle.ck_text.specs.declared.token.Mark.TheVariants as marks
use Rattle.ck_text.specs.Tokens.{Token}
use Rattle.ck_text.specs.Tokens as token
use Rattle.ck_text.specs.Texts.{Joint, formulas, terms, joint, joins_terms, Lead, prefix, binder, Text, truth, falsity, name, number, led, joined, closed, level, left_want, right_want, lead_level, rank, on_terms, lead_on_terms, is_term, suits, opens, Bindings, under, meaning_of}
use Rattle.ck_text.specs.Machine as texts
use Rattle.ck_text.specs.Reading.{scope_after}
use Rattle.ck_text.specs.Items.{Item, is_term_tree, leaf_item, falsity_item, number_item, name_item, negated_item, led_item, joint_item, joined_item, closed_item, Frame, State, wanting, having, naming, named, sorting, sorted, want, asks, opened, with_lead, with_operand, with_parenthesis, scope_at, reduced, guarded, leads, joins, closes, step, alone, finished}

-- what is kept of a text
abbrev pub item_of : ℕ → Bindings → Text → Item
item_of most scope (truth b) = leaf_item (term.boolean b)
item_of most scope falsity = falsity_item
item_of most scope (name bytes) = name_item (meaning_of scope bytes)
item_of most scope (number n) = number_item n
item_of most scope (led l a) = led_item most l (item_of most (scope_after l scope) a)
item_of most scope (joined o a b) = joined_item most o (item_of most scope a) (item_of most scope b)
item_of most scope (closed a) = closed_item (item_of most scope a)

-- the level of a text is that of its item, and so is whether it is a term
name_rank : (o : Option TermTree) → (name_item o).rank ≡ 11
name_rank (Some t) = refl
name_rank None = refl

negated_rank : (most : ℕ) (n : Option ℤ) (i : Item) → (negated_item most n i).rank ≡ 10
negated_rank most (Some n) i = refl
negated_rank most None i = refl

joint_rank : (most : ℕ) (j : Joint) (r : ℕ) (a b : Item) → (joint_item most j r a b).rank ≡ r
joint_rank most (formulas c) r a b = refl
joint_rank most (terms s) r a b = refl

pub rank_shown : (most : ℕ) (scope : Bindings) (a : Text) → (item_of most scope a).rank ≡ rank a
rank_shown most scope (truth b) = refl
rank_shown most scope falsity = refl
rank_shown most scope (name bytes) = name_rank (meaning_of scope bytes)
rank_shown most scope (number n) = refl
rank_shown most scope (led (prefix prefixes.Tilde) a) = refl
rank_shown most scope (led (prefix prefixes.Not) a) = refl
rank_shown most scope (led (prefix prefixes.Minus) a) = negated_rank most (item_of most scope a).negative (item_of most scope a)
rank_shown most scope (led (binder q bytes s) a) = refl
rank_shown most scope (joined o a b) = joint_rank most (joint o) (level o) (item_of most scope a) (item_of most scope b)
rank_shown most scope (closed a) = refl

name_form : (o : Option TermTree) → is_term_tree (name_item o).tree ≡ true
name_form (Some t) = refl
name_form None = refl

negated_form : (most : ℕ) (n : Option ℤ) (i : Item) → is_term_tree (negated_item most n i).tree ≡ true
negated_form most (Some n) i = refl
negated_form most None i = refl

joint_form : (most : ℕ) (j : Joint) (r : ℕ) (a b : Item) → is_term_tree (joint_item most j r a b).tree ≡ joins_terms j
joint_form most (formulas c) r a b = refl
joint_form most (terms s) r a b = refl

pub form_shown : (most : ℕ) (scope : Bindings) (a : Text) → is_term_tree (item_of most scope a).tree ≡ is_term a
form_shown most scope (truth b) = refl
form_shown most scope falsity = refl
form_shown most scope (name bytes) = name_form (meaning_of scope bytes)
form_shown most scope (number n) = refl
form_shown most scope (led (prefix prefixes.Tilde) a) = refl
form_shown most scope (led (prefix prefixes.Not) a) = refl
form_shown most scope (led (prefix prefixes.Minus) a) = negated_form most (item_of most scope a).negative (item_of most scope a)
form_shown most scope (led (binder q bytes s) a) = refl
form_shown most scope (joined o a b) = joint_form most (joint o) (level o) (item_of most scope a) (item_of most scope b)
form_shown most scope (closed a) = form_shown most scope a

pub if_shown : {A B : Type 0} (f : A → B) (test : Bool) (x y : B) (v w : A) → x ≡ f v → y ≡ f w → (if test then x else y) ≡ f (if test then v else w)
if_shown f true x y v w e h = e
if_shown f false x y v w e h = h

module _ (most : ℕ) (asked : Bool) (scope : Bindings) where
  -- the scope of the operand that the stack wants
  abbrev pub scope_under : List texts.Frame → Bindings
  scope_under [] = scope
  scope_under (texts.leading l ∷ stack) = scope_after l (scope_under stack)
  scope_under (texts.operand o a ∷ stack) = scope_under stack
  scope_under (texts.parenthesis ∷ stack) = scope_under stack

  -- the stack over items
  abbrev pub shown : List texts.Frame → List Frame
  shown [] = []
  shown (texts.leading l ∷ stack) = with_lead l (shown stack)
  shown (texts.operand o a ∷ stack) = with_operand o (shown stack, item_of most (scope_under stack) a)
  shown (texts.parenthesis ∷ stack) = with_parenthesis asked (shown stack)

  abbrev pub shown_top : List texts.Frame × Text → List Frame × Item
  shown_top top = (shown top.0, item_of most (scope_under top.0) top.1)

  abbrev pub shown_state : texts.State → State
  shown_state (texts.wanting stack) = wanting (shown stack)
  shown_state (texts.having stack a) = having (shown stack) (item_of most (scope_under stack) a)
  shown_state (texts.naming q stack) = naming q (shown stack)
  shown_state (texts.named q bytes stack) = named q bytes (shown stack)
  shown_state (texts.sorting q bytes stack) = sorting q bytes (shown stack)
  shown_state (texts.sorted q bytes s stack) = sorted q bytes s (shown stack)

  want_shown : (stack : List texts.Frame) → want (shown stack) ≡ texts.want stack
  want_shown [] = refl
  want_shown (texts.leading l ∷ stack) = refl
  want_shown (texts.operand o a ∷ stack) = refl
  want_shown (texts.parenthesis ∷ stack) = refl

  asks_shown : (stack : List texts.Frame) → asks asked (shown stack) ≡ texts.asks asked stack
  asks_shown [] = refl
  asks_shown (texts.leading l ∷ stack) = refl
  asks_shown (texts.operand o a ∷ stack) = refl
  asks_shown (texts.parenthesis ∷ stack) = asks_shown stack

  opened_shown : (stack : List texts.Frame) → opened (shown stack) ≡ texts.opened stack
  opened_shown [] = refl
  opened_shown (texts.leading l ∷ stack) = ap suc (opened_shown stack)
  opened_shown (texts.operand o a ∷ stack) = ap (λ n. opens o + n) (opened_shown stack)
  opened_shown (texts.parenthesis ∷ stack) = ap suc (opened_shown stack)

  pub scope_shown : (stack : List texts.Frame) → scope_at scope (shown stack) ≡ scope_under stack
  scope_shown [] = refl
  scope_shown (texts.leading (prefix p) ∷ stack) = scope_shown stack
  scope_shown (texts.leading (binder q bytes s) ∷ stack) = ap (under bytes) (scope_shown stack)
  scope_shown (texts.operand o a ∷ stack) = scope_shown stack
  scope_shown (texts.parenthesis ∷ stack) = scope_shown stack

  pub reduced_shown : (least : ℕ) (stack : List texts.Frame) (a : Text) → reduced most least (shown stack) (item_of most (scope_under stack) a) ≡ shown_top (texts.reduced least stack a)
  reduced_shown least [] a = refl
  reduced_shown least (texts.leading l ∷ stack) a =
      if_shown shown_top (nat_le least (lead_level l)) _ _ (texts.reduced least stack (led l a)) (texts.leading l ∷ stack, a) (reduced_shown least stack (led l a)) refl
  reduced_shown least (texts.operand o b ∷ stack) a =
      if_shown shown_top (nat_le least (right_want o)) _ _ (texts.reduced least stack (joined o b a)) (texts.operand o b ∷ stack, a) (reduced_shown least stack (joined o b a)) refl
  reduced_shown least (texts.parenthesis ∷ stack) a = refl

  guarded_shown : (test test' : Bool) (st : texts.State) → test ≡ test' → guarded test (shown_state st) ≡ option_map shown_state (texts.guarded test' st)
  guarded_shown test true st e = ap (λ t. guarded t (shown_state st)) e
  guarded_shown test false st e = ap (λ t. guarded t (shown_state st)) e

  module _ (limit : ℕ) where
    leads_shown : (l : Lead) (stack : List texts.Frame) (st : texts.State) → leads limit asked l (shown stack) (shown_state st) ≡ option_map shown_state (texts.leads limit asked l stack st)
    leads_shown l stack st =
        guarded_shown (nat_le (want (shown stack)) (lead_level l) && suits (asks asked (shown stack)) (lead_on_terms l) && nat_lt (opened (shown stack)) limit)
        (nat_le (texts.want stack) (lead_level l) && suits (texts.asks asked stack) (lead_on_terms l) && nat_lt (texts.opened stack) limit) st
        (rw (want_shown stack, asks_shown stack, opened_shown stack) refl)

    joins_shown : (o : Sign) (stack : List texts.Frame) (a : Text) → joins limit asked o (shown_top (stack, a)) ≡ option_map shown_state (texts.joins limit asked o (stack, a))
    joins_shown o stack a =
        let i : Item = item_of most (scope_under stack) a in
        guarded_shown (nat_le (left_want o) i.rank && suits (on_terms o) (is_term_tree i.tree) && suits (asks asked (shown stack)) (on_terms o) && nat_le (opens o + opened (shown stack)) limit)
        (nat_le (left_want o) (rank a) && suits (on_terms o) (is_term a) && suits (texts.asks asked stack) (on_terms o) && nat_le (opens o + texts.opened stack) limit) (texts.wanting (texts.operand o a ∷ stack))
        (rw (rank_shown most (scope_under stack) a, form_shown most (scope_under stack) a, asks_shown stack, opened_shown stack) refl)

    closes_shown : (stack : List texts.Frame) (a : Text) → closes (shown_top (stack, a)) ≡ option_map shown_state (texts.closes stack a)
    closes_shown [] a = refl
    closes_shown (texts.leading l ∷ stack) a = refl
    closes_shown (texts.operand o b ∷ stack) a = refl
    closes_shown (texts.parenthesis ∷ stack) a = refl

    pub step_shown : (st : texts.State) (t : Token) → step limit most asked scope (shown_state st) t ≡ option_map shown_state (texts.step limit asked st t)
    step_shown (texts.wanting stack) (token.mark marks.Bottom) =
        guarded_shown (suits (asks asked (shown stack)) false) (suits (texts.asks asked stack) false) (texts.having stack falsity) (ap (λ b. suits b false) (asks_shown stack))
    step_shown (texts.wanting stack) (token.word bytes) = ap (λ s. Some (having (shown stack) (name_item (meaning_of s bytes)))) (scope_shown stack)
    step_shown (texts.wanting stack) (token.mark marks.Open) =
        guarded_shown (nat_lt (opened (shown stack)) limit) (nat_lt (texts.opened stack) limit) (texts.wanting (texts.parenthesis ∷ stack)) (ap (λ n. nat_lt n limit) (opened_shown stack))
    step_shown (texts.wanting stack) (token.mark marks.Tilde) = leads_shown (prefix prefixes.Tilde) stack (texts.wanting (texts.leading (prefix prefixes.Tilde) ∷ stack))
    step_shown (texts.wanting stack) (token.mark marks.Not) = leads_shown (prefix prefixes.Not) stack (texts.wanting (texts.leading (prefix prefixes.Not) ∷ stack))
    step_shown (texts.wanting stack) (token.joining sign.Minus) = leads_shown (prefix prefixes.Minus) stack (texts.wanting (texts.leading (prefix prefixes.Minus) ∷ stack))
    step_shown (texts.wanting stack) (token.quantifier q) = leads_shown (binder q [] None) stack (texts.naming q stack)
    step_shown (texts.having stack a) (token.joining o) =
        ap (joins limit asked o) (reduced_shown (suc (level o)) stack a) ∙ joins_shown o (texts.reduced (suc (level o)) stack a).0 (texts.reduced (suc (level o)) stack a).1
    step_shown (texts.having stack a) (token.mark marks.Close) = ap closes (reduced_shown 0 stack a) ∙ closes_shown (texts.reduced 0 stack a).0 (texts.reduced 0 stack a).1
    step_shown (texts.naming q stack) (token.word bytes) = refl
    step_shown (texts.named q bytes stack) (token.mark marks.Colon) = refl
    step_shown (texts.sorting q bytes stack) (token.sort s) = refl
    step_shown (texts.sorted q bytes s stack) (token.mark marks.Dot) = refl
    step_shown st t = refl

  alone_shown : (stack : List texts.Frame) (a : Text) → alone (shown_top (stack, a)) ≡ option_map (item_of most scope) (texts.alone stack a)
  alone_shown [] a = refl
  alone_shown (texts.leading l ∷ stack) a = refl
  alone_shown (texts.operand o b ∷ stack) a = refl
  alone_shown (texts.parenthesis ∷ stack) a = refl

  pub finished_shown : (st : texts.State) → finished most (shown_state st) ≡ option_map (item_of most scope) (texts.finished st)
  finished_shown (texts.having stack a) = ap alone (reduced_shown 0 stack a) ∙ alone_shown (texts.reduced 0 stack a).0 (texts.reduced 0 stack a).1
  finished_shown st = refl
