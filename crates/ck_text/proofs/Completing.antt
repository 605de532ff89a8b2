-- Each state that is reached goes on to a text of the asked form: a name where an operand is wanted, and a `)` for each `(`.
use Rattle.std.proofs.Common.{◌≡◌, ℕ, Bool, List, [], ◌∷◌, ◌++◌, refl, sym, ap, ◌∙◌, append_assoc, append-nil, Some, None}
use Rattle.ck_base.specs.declared.decl.Sort.TheVariants as sorts
use Rattle.ck_text.specs.declared.token.Mark.TheVariants as marks
use Rattle.ck_text.specs.Tokens.{Token, AreTokens}
use Rattle.ck_text.specs.Tokens as token
use Rattle.ck_text.specs.Texts.{binder, Text, name, led, joined, closed, lead_tokens, tokens, IsText}
use Rattle.ck_text.specs.Machine.{Frame, leading, operand, parenthesis, State, wanting, having, naming, named, sorting, sorted, asks}
use Rattle.ck_text.proofs.Tables.{want_most, term_suits}
use Rattle.ck_text.proofs.Stacks.{Sits, Stands, Lasts, front, before}

-- the whole text, where nothing more follows an operand than the `)` that are owed
abbrev pub plugged : List Frame → Text → Text
plugged [] a = a
plugged (leading l ∷ stack) a = plugged stack (led l a)
plugged (operand o b ∷ stack) a = plugged stack (joined o b a)
plugged (parenthesis ∷ stack) a = plugged stack (closed a)

abbrev pub owed : List Frame → List Token
owed [] = []
owed (leading l ∷ stack) = owed stack
owed (operand o b ∷ stack) = owed stack
owed (parenthesis ∷ stack) = token.mark marks.Close ∷ owed stack

owed_are : (stack : List Frame) → AreTokens (owed stack)
owed_are [] = tt
owed_are (leading l ∷ stack) = owed_are stack
owed_are (operand o b ∷ stack) = owed_are stack
owed_are (parenthesis ∷ stack) = (tt, owed_are stack)

plugged_is : (limit : ℕ) (asked : Bool) (stack : List Frame) (a : Text) → Stands limit asked stack a → IsText limit asked (plugged stack a)
plugged_is limit asked [] a h = (h.3, h.2)
plugged_is limit asked (leading l ∷ stack) a h = plugged_is limit asked stack (led l a) (h.0.3, h.0.0, h.0.1, (h.1, h.2, h.0.2, h.3))
plugged_is limit asked (operand o b ∷ stack) a h = plugged_is limit asked stack (joined o b a) (h.0.6, h.0.0, h.0.3, (h.0.1, h.1, h.0.2, h.2, h.0.4, h.0.5, h.3))
plugged_is limit asked (parenthesis ∷ stack) a h = plugged_is limit asked stack (closed a) (h.0.1, want_most stack, h.2, (h.0.0, h.3))

plugged_tokens : (stack : List Frame) (a : Text) → tokens (plugged stack a) ≡ front stack (tokens a ++ owed stack)
plugged_tokens [] a = sym (append-nil (tokens a))
plugged_tokens (leading l ∷ stack) a = plugged_tokens stack (led l a) ∙ ap (front stack) (append_assoc (lead_tokens l) (tokens a) (owed stack))
plugged_tokens (operand o b ∷ stack) a = plugged_tokens stack (joined o b a) ∙ ap (front stack) (append_assoc (tokens b) (token.joining o ∷ tokens a) (owed stack))
plugged_tokens (parenthesis ∷ stack) a =
    plugged_tokens stack (closed a) ∙ ap (λ ts. front stack (token.mark marks.Open ∷ ts)) (append_assoc (tokens a) (token.mark marks.Close ∷ []) (owed stack))

-- the name `x`
abbrev pub some_name : List ℕ
some_name = 120 ∷ []

-- tokens that can be written lead from a state to a text of the asked form
abbrev pub Completes : ℕ → Bool → State → Type 0
Completes limit asked st = (a : Text) × (more : List Token) × IsText limit asked a × (before st more ≡ tokens a) × AreTokens more

module _ (limit : ℕ) (asked : Bool) where
  completed_wanting : (stack : List Frame) → Sits limit asked stack → Completes limit asked (wanting stack)
  completed_wanting stack h = (
    plugged stack (name some_name),
    token.word some_name ∷ owed stack,
    plugged_is limit asked stack (name some_name) (h, want_most stack, term_suits (asks asked stack), tt),
    sym (plugged_tokens stack (name some_name)),
    (refl, owed_are stack),
  )

  pub completed : (st : State) → Lasts limit asked st → Completes limit asked st
  completed (wanting stack) h = completed_wanting stack h
  completed (having stack a) h = (plugged stack a, owed stack, plugged_is limit asked stack a h, sym (plugged_tokens stack a), owed_are stack)
  completed (naming q stack) h =
      let c = completed_wanting (leading (binder q some_name None) ∷ stack) h in
      (c.0, token.word some_name ∷ token.mark marks.Dot ∷ c.1, c.2, c.3, (refl, (tt, c.4)))
  completed (named q bytes stack) h =
      let c = completed_wanting (leading (binder q bytes None) ∷ stack) h in
      (c.0, token.mark marks.Dot ∷ c.1, c.2, c.3, (tt, c.4))
  completed (sorting q bytes stack) h =
      let c = completed_wanting (leading (binder q bytes (Some sorts.Int)) ∷ stack) h in
      (c.0, token.sort sorts.Int ∷ token.mark marks.Dot ∷ c.1, c.2, c.3, (tt, (tt, c.4)))
  completed (sorted q bytes s stack) h =
      let c = completed_wanting (leading (binder q bytes (Some s)) ∷ stack) h in
      (c.0, token.mark marks.Dot ∷ c.1, c.2, c.3, (tt, c.4))
