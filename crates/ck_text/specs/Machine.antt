-- The reader of texts over tokens, step by step. It keeps what waits for an operand on a stack, the newest
-- first, so nothing in it calls itself as deep as a text nests.
use Rattle.std.specs.Prelude.{ℕ, suc, ◌+◌, nat_le, nat_lt, Bool, false, ◌&&◌, List, [], ◌∷◌, Some, None, Ok, Err, if◌then◌else◌}
use Rattle.std.specs.declared.option.Option.{Option}
use Rattle.std.specs.declared.result.Result.{Result}
use Rattle.ck_base.specs.declared.decl.Sort.{Sort}
use Rattle.ck_text.specs.declared.token.Sign.{Sign}
use Rattle.ck_text.specs.declared.token.Sign.TheVariants as sign
use Rattle.ck_text.specs.declared.token.Prefix.TheVariants as prefixes
use Rattle.ck_text.specs.declared.token.Quantifier.{Quantifier}
use Rattle.ck_text.specs.declared.token.Mark.TheVariants as marks
use Rattle.ck_text.specs.Tokens.{Token}
use Rattle.ck_text.specs.Tokens as token
use Rattle.ck_text.specs.Texts.{Lead, prefix, binder, Text, truth, falsity, name, number, led, joined, closed, level, left_want, right_want, lead_level, rank, on_terms, lead_on_terms, is_term, suits, opens}

-- a lead without its operand, a left operand and its sign without the right one, and `(` without its text
pub data Frame : Type 0 where
  leading : (l : Lead) → Frame
  operand : (o : Sign) (a : Text) → Frame
  parenthesis : Frame

-- An operand is wanted, or there is one; or a quantifier is read up to itself, to its name, to `:`, or to
-- its sort.
pub data State : Type 0 where
  wanting : (stack : List Frame) → State
  having : (stack : List Frame) (a : Text) → State
  naming : (q : Quantifier) (stack : List Frame) → State
  named : (q : Quantifier) (bytes : List ℕ) (stack : List Frame) → State
  sorting : (q : Quantifier) (bytes : List ℕ) (stack : List Frame) → State
  sorted : (q : Quantifier) (bytes : List ℕ) (s : Sort) (stack : List Frame) → State

-- the lowest level of the operand that is wanted
abbrev pub want : List Frame → ℕ
want [] = 0
want (leading l ∷ stack) = lead_level l
want (operand o a ∷ stack) = right_want o
want (parenthesis ∷ stack) = 0

-- it has to be a term
abbrev pub asks : Bool → List Frame → Bool
asks asked [] = asked
asks asked (leading l ∷ stack) = lead_on_terms l
asks asked (operand o a ∷ stack) = on_terms o
asks asked (parenthesis ∷ stack) = asks asked stack

-- how many levels are open around it
abbrev pub opened : List Frame → ℕ
opened [] = 0
opened (leading l ∷ stack) = suc (opened stack)
opened (operand o a ∷ stack) = opens o + opened stack
opened (parenthesis ∷ stack) = suc (opened stack)

-- the frames that want at least that level take what is there as their operand, up to a `(`
abbrev pub reduced : ℕ → List Frame → Text → List Frame × Text
reduced least [] a = ([], a)
reduced least (leading l ∷ stack) a = if nat_le least (lead_level l) then reduced least stack (led l a) else (leading l ∷ stack, a)
reduced least (operand o a ∷ stack) b = if nat_le least (right_want o) then reduced least stack (joined o a b) else (operand o a ∷ stack, b)
reduced least (parenthesis ∷ stack) a = (parenthesis ∷ stack, a)

abbrev pub guarded : Bool → State → Option State
guarded test state = if test then Some state else None

-- a lead goes on to a state, where it may stand
abbrev pub leads : (limit : ℕ) (asked : Bool) → Lead → List Frame → State → Option State
leads limit asked l stack state =
    guarded (nat_le (want stack) (lead_level l) && suits (asks asked stack) (lead_on_terms l) && nat_lt (opened stack) limit) state

-- a sign after an operand
abbrev pub joins : (limit : ℕ) (asked : Bool) → Sign → List Frame × Text → Option State
joins limit asked o top =
    guarded (nat_le (left_want o) (rank top.1) && suits (on_terms o) (is_term top.1) && suits (asks asked top.0) (on_terms o) && nat_le (opens o + opened top.0) limit)
    (wanting (operand o top.1 ∷ top.0))

-- a `)` after an operand
abbrev pub closes : List Frame → Text → Option State
closes (parenthesis ∷ stack) a = Some (having stack (closed a))
closes stack a = None

-- the state after a token; none where no text goes on with it
abbrev pub step : (limit : ℕ) (asked : Bool) → State → Token → Option State
step limit asked (wanting stack) (token.truth b) = Some (having stack (truth b))
step limit asked (wanting stack) (token.mark marks.Bottom) = guarded (suits (asks asked stack) false) (having stack falsity)
step limit asked (wanting stack) (token.word bytes) = Some (having stack (name bytes))
step limit asked (wanting stack) (token.number n) = Some (having stack (number n))
step limit asked (wanting stack) (token.mark marks.Open) = guarded (nat_lt (opened stack) limit) (wanting (parenthesis ∷ stack))
step limit asked (wanting stack) (token.mark marks.Tilde) = leads limit asked (prefix prefixes.Tilde) stack (wanting (leading (prefix prefixes.Tilde) ∷ stack))
step limit asked (wanting stack) (token.mark marks.Not) = leads limit asked (prefix prefixes.Not) stack (wanting (leading (prefix prefixes.Not) ∷ stack))
step limit asked (wanting stack) (token.joining sign.Minus) = leads limit asked (prefix prefixes.Minus) stack (wanting (leading (prefix prefixes.Minus) ∷ stack))
step limit asked (wanting stack) (token.quantifier q) = leads limit asked (binder q [] None) stack (naming q stack)
step limit asked (having stack a) (token.joining o) = joins limit asked o (reduced (suc (level o)) stack a)
step limit asked (having stack a) (token.mark marks.Close) = closes (reduced 0 stack a).0 (reduced 0 stack a).1
step limit asked (naming q stack) (token.word bytes) = Some (named q bytes stack)
step limit asked (named q bytes stack) (token.mark marks.Colon) = Some (sorting q bytes stack)
step limit asked (named q bytes stack) (token.mark marks.Dot) = Some (wanting (leading (binder q bytes None) ∷ stack))
step limit asked (sorting q bytes stack) (token.sort s) = Some (sorted q bytes s stack)
step limit asked (sorted q bytes s stack) (token.mark marks.Dot) = Some (wanting (leading (binder q bytes (Some s)) ∷ stack))
step limit asked state t = None

-- a text that nothing waits for
abbrev pub alone : List Frame → Text → Option Text
alone [] a = Some a
alone stack a = None

-- the text that ends here, where one does
abbrev pub finished : State → Option Text
finished (having stack a) = alone (reduced 0 stack a).0 (reduced 0 stack a).1
finished state = None

abbrev pub or_fault : Option Text → Result Text (List Token)
or_fault (Some a) = Ok a
or_fault None = Err []

-- a run goes on after a step, and stops before a token that makes none
abbrev pub after : Option State → List Token → (State → Result Text (List Token)) → Result Text (List Token)
after (Some state) left run = run state
after None left run = Err left

-- the text of the tokens from a state on, or those that are left where it stops
abbrev pub run : (limit : ℕ) (asked : Bool) → List Token → State → Result Text (List Token)
run limit asked [] state = or_fault (finished state)
run limit asked (t ∷ ts) state = after (step limit asked state t) (t ∷ ts) (λ next. run limit asked ts next)

-- the text of the asked form that the tokens are, or those that are left where no text goes on
abbrev pub read : (limit : ℕ) (asked : Bool) → List Token → Result Text (List Token)
read limit asked ts = run limit asked ts (wanting [])
