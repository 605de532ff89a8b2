-- The steps of the reader over what it keeps of each text: no texts, but trees of few levels. Each frame of
-- the stack holds what a step asks of the frames under it.
use Rattle.std.specs.Prelude.{ℕ, suc, ◌+◌, max, ℤ, pos, neg_ℤ, nat_le, nat_lt, Bool, true, false, ◌&&◌, List, [], ◌∷◌, Some, None, Ok, Err, if◌then◌else◌}
use Rattle.std.specs.declared.option.Option.{Option}
use Rattle.std.specs.declared.result.Result.{Result}
use Rattle.std.specs.Option.{is_some}
use Rattle.ck_base.specs.declared.decl.Sort.{Sort}
use Rattle.sorted_terms.specs.Tree.{TermTree}
use Rattle.sorted_terms.specs.Tree as term
use Rattle.formulas.specs.Tree.{FormulaTree}
use Rattle.formulas.specs.Tree as formula
use Rattle.ck_text.specs.declared.token.Sign.{Sign}
use Rattle.ck_text.specs.declared.token.Sign.TheVariants as sign
use Rattle.ck_text.specs.declared.token.Prefix.TheVariants as prefixes
use Rattle.ck_text.specs.declared.token.Quantifier.{Quantifier}
use Rattle.ck_text.specs.declared.token.Mark.TheVariants as marks
use Rattle.ck_text.specs.Tokens.{Token, Placed, scan}
use Rattle.ck_text.specs.Tokens as token
use Rattle.ck_text.specs.Texts.{Joint, formulas, terms, joint, Lead, prefix, binder, level, left_want, right_want, lead_level, on_terms, lead_on_terms, suits, opens, Bindings, first_of, meaning_of, quantifier_of, sort_or_int}
use Rattle.ck_text.specs.Reading.{Tree, of_term, of_formula, left_of, column_of, Fault, by_syntax, by_depth, by_name}

-- # Items

-- What is kept of a text: its level; for a number alone, the literal with `-` before it; how many levels its
-- tree has, counted no further than one more than `most`; and the tree, where it has at most `most` levels
-- and each name means something, else another tree of the same form.
pub record Item : Type 0 where
  pub rank : ℕ
  pub negative : Option ℤ
  pub levels : ℕ
  pub tree : Tree

abbrev pub is_term_tree : Tree → Bool
is_term_tree (of_term t) = true
is_term_tree (of_formula a) = false

-- one level more
abbrev pub grown : (most levels : ℕ) → ℕ
grown most levels = if nat_le levels most then suc levels else suc most

-- the tree as a term, and as a formula with its levels
abbrev pub as_term : Tree → TermTree
as_term (of_term t) = t
as_term (of_formula a) = term.index 0

abbrev pub as_formula : Tree → FormulaTree
as_formula (of_term t) = formula.holds t
as_formula (of_formula a) = a

abbrev pub formula_height : (most : ℕ) → Tree → (levels : ℕ) → ℕ
formula_height most (of_term t) levels = grown most levels
formula_height most (of_formula a) levels = levels

abbrev pub height : (most : ℕ) → Item → ℕ
height most i = formula_height most i.tree i.levels

-- items of so many levels
abbrev pub term_item : (most rank levels : ℕ) → TermTree → Item
term_item most rank levels t = record { rank = rank; negative = None; levels = levels; tree = of_term (if nat_le levels most then t else term.index 0) }

abbrev pub formula_item : (most rank levels : ℕ) → FormulaTree → Item
formula_item most rank levels a = record { rank = rank; negative = None; levels = levels; tree = of_formula (if nat_le levels most then a else formula.bottom) }

abbrev pub leaf_item : TermTree → Item
leaf_item t = record { rank = 11; negative = None; levels = 1; tree = of_term t }

abbrev pub falsity_item : Item
falsity_item = record { rank = 11; negative = None; levels = 1; tree = of_formula formula.bottom }

abbrev pub number_item : ℕ → Item
number_item n = record { rank = 11; negative = Some (neg_ℤ (pos n)); levels = 1; tree = of_term (term.integer (pos n)) }

abbrev pub name_item : Option TermTree → Item
name_item (Some t) = leaf_item t
name_item None = leaf_item (term.index 0)

abbrev pub negated_item : (most : ℕ) → Option ℤ → Item → Item
negated_item most (Some n) i = record { rank = 10; negative = None; levels = 1; tree = of_term (term.integer n) }
negated_item most None i = term_item most 10 (grown most i.levels) (term.unary term.minus (as_term i.tree))

abbrev pub quantified_item : (most : ℕ) → Quantifier → Option Sort → Item → Item
quantified_item most q s i = formula_item most 0 (grown most (height most i)) (formula.quantified (quantifier_of q) (sort_or_int s) (as_formula i.tree))

abbrev pub led_item : (most : ℕ) → Lead → Item → Item
led_item most (prefix prefixes.Tilde) i = formula_item most 3 (grown most (height most i)) (formula.not_so (as_formula i.tree))
led_item most (prefix prefixes.Not) i = term_item most 6 (grown most i.levels) (term.unary term.denial (as_term i.tree))
led_item most (prefix prefixes.Minus) i = negated_item most i.negative i
led_item most (binder q bytes s) i = quantified_item most q s i

abbrev pub joint_item : (most : ℕ) → Joint → (rank : ℕ) → Item → Item → Item
joint_item most (formulas c) rank i j = formula_item most rank (grown most (max (height most i) (height most j))) (formula.joined c (as_formula i.tree) (as_formula j.tree))
joint_item most (terms s) rank i j = term_item most rank (grown most (max i.levels j.levels)) (term.binary s (as_term i.tree) (as_term j.tree))

abbrev pub joined_item : (most : ℕ) → Sign → Item → Item → Item
joined_item most o i j = joint_item most (joint o) (level o) i j

abbrev pub closed_item : Item → Item
closed_item i = record { rank = 11; negative = None; levels = i.levels; tree = i.tree }

-- # The stack

-- a lead without its operand, a left operand and its sign without the right one, and `(` without its text
pub data Held : Type 0 where
  leading : (l : Lead) → Held
  operand : (o : Sign) (i : Item) → Held
  parenthesis : Held

-- with what is asked of the operand after it: it has to be a term, and so many levels are open around it
pub record Frame : Type 0 where
  pub held : Held
  pub asks : Bool
  pub opened : ℕ

-- an operand is wanted, or there is one, or a quantifier is read in part
pub data State : Type 0 where
  wanting : (stack : List Frame) → State
  having : (stack : List Frame) (i : Item) → State
  naming : (q : Quantifier) (stack : List Frame) → State
  named : (q : Quantifier) (bytes : List ℕ) (stack : List Frame) → State
  sorting : (q : Quantifier) (bytes : List ℕ) (stack : List Frame) → State
  sorted : (q : Quantifier) (bytes : List ℕ) (s : Sort) (stack : List Frame) → State

-- the lowest level of the operand that is wanted
abbrev pub held_want : Held → ℕ
held_want (leading l) = lead_level l
held_want (operand o i) = right_want o
held_want parenthesis = 0

abbrev pub want : List Frame → ℕ
want [] = 0
want (f ∷ stack) = held_want f.held

abbrev pub asks : Bool → List Frame → Bool
asks asked [] = asked
asks asked (f ∷ stack) = f.asks

abbrev pub opened : List Frame → ℕ
opened [] = 0
opened (f ∷ stack) = f.opened

-- the stack with one more frame
abbrev pub with_lead : Lead → List Frame → List Frame
with_lead l stack = record { held = leading l; asks = lead_on_terms l; opened = suc (opened stack) } ∷ stack

abbrev pub with_operand : Sign → List Frame × Item → List Frame
with_operand o top = record { held = operand o top.1; asks = on_terms o; opened = opens o + opened top.0 } ∷ top.0

abbrev pub with_parenthesis : Bool → List Frame → List Frame
with_parenthesis asked stack = record { held = parenthesis; asks = asks asked stack; opened = suc (opened stack) } ∷ stack

-- the names that the quantifiers of the stack bind, the innermost first, and then the others
abbrev pub held_bound : Held → List (List ℕ) → List (List ℕ)
held_bound (leading (binder q bytes s)) outer = bytes ∷ outer
held_bound held outer = outer

abbrev pub bound_by : (outer : List (List ℕ)) → List Frame → List (List ℕ)
bound_by outer [] = outer
bound_by outer (f ∷ stack) = held_bound f.held (bound_by outer stack)

-- the scope of the operand that is wanted
abbrev pub scope_at : Bindings → List Frame → Bindings
scope_at scope stack = record { names = scope.names; variables = scope.variables; bound = bound_by scope.bound stack }

-- the frame wants at least that level, and is no `(`
abbrev pub takes : (least : ℕ) → Held → Bool
takes least (leading l) = nat_le least (lead_level l)
takes least (operand o i) = nat_le least (right_want o)
takes least parenthesis = false

-- the frame with its operand
abbrev pub taken : (most : ℕ) → Held → Item → Item
taken most (leading l) j = led_item most l j
taken most (operand o i) j = joined_item most o i j
taken most parenthesis j = j

-- the frames that want at least that level take what is there as their operand, up to a `(`
abbrev pub reduced : (most least : ℕ) → List Frame → Item → List Frame × Item
reduced most least [] i = ([], i)
reduced most least (f ∷ stack) i = if takes least f.held then reduced most least stack (taken most f.held i) else (f ∷ stack, i)

-- # Steps

abbrev pub guarded : Bool → State → Option State
guarded test state = if test then Some state else None

-- a lead may stand here
abbrev pub may_lead : (limit : ℕ) (asked : Bool) → Lead → List Frame → Bool
may_lead limit asked l stack = nat_le (want stack) (lead_level l) && suits (asks asked stack) (lead_on_terms l) && nat_lt (opened stack) limit

-- a lead goes on to a state, where it may stand
abbrev pub leads : (limit : ℕ) (asked : Bool) → Lead → List Frame → State → Option State
leads limit asked l stack state = guarded (may_lead limit asked l stack) state

-- a sign after an operand
abbrev pub joins : (limit : ℕ) (asked : Bool) → Sign → List Frame × Item → Option State
joins limit asked o top =
    guarded (nat_le (left_want o) top.1.rank && suits (on_terms o) (is_term_tree top.1.tree) && suits (asks asked top.0) (on_terms o) && nat_le (opens o + opened top.0) limit)
    (wanting (with_operand o top))

-- a `)` after an operand
abbrev pub closed_by : Held → List Frame → Item → Option State
closed_by parenthesis stack i = Some (having stack (closed_item i))
closed_by held stack i = None

abbrev pub closes : List Frame × Item → Option State
closes ([], i) = None
closes (f ∷ stack, i) = closed_by f.held stack i

-- the state after a token; none where no text goes on with it
abbrev pub step : (limit most : ℕ) (asked : Bool) → Bindings → State → Token → Option State
step limit most asked scope (wanting stack) (token.truth b) = Some (having stack (leaf_item (term.boolean b)))
step limit most asked scope (wanting stack) (token.mark marks.Bottom) = guarded (suits (asks asked stack) false) (having stack falsity_item)
step limit most asked scope (wanting stack) (token.word bytes) = Some (having stack (name_item (meaning_of (scope_at scope stack) bytes)))
step limit most asked scope (wanting stack) (token.number n) = Some (having stack (number_item n))
step limit most asked scope (wanting stack) (token.mark marks.Open) = guarded (nat_lt (opened stack) limit) (wanting (with_parenthesis asked stack))
step limit most asked scope (wanting stack) (token.mark marks.Tilde) = leads limit asked (prefix prefixes.Tilde) stack (wanting (with_lead (prefix prefixes.Tilde) stack))
step limit most asked scope (wanting stack) (token.mark marks.Not) = leads limit asked (prefix prefixes.Not) stack (wanting (with_lead (prefix prefixes.Not) stack))
step limit most asked scope (wanting stack) (token.joining sign.Minus) = leads limit asked (prefix prefixes.Minus) stack (wanting (with_lead (prefix prefixes.Minus) stack))
step limit most asked scope (wanting stack) (token.quantifier q) = leads limit asked (binder q [] None) stack (naming q stack)
step limit most asked scope (having stack i) (token.joining o) = joins limit asked o (reduced most (suc (level o)) stack i)
step limit most asked scope (having stack i) (token.mark marks.Close) = closes (reduced most 0 stack i)
step limit most asked scope (naming q stack) (token.word bytes) = Some (named q bytes stack)
step limit most asked scope (named q bytes stack) (token.mark marks.Colon) = Some (sorting q bytes stack)
step limit most asked scope (named q bytes stack) (token.mark marks.Dot) = Some (wanting (with_lead (binder q bytes None) stack))
step limit most asked scope (sorting q bytes stack) (token.sort s) = Some (sorted q bytes s stack)
step limit most asked scope (sorted q bytes s stack) (token.mark marks.Dot) = Some (wanting (with_lead (binder q bytes (Some s)) stack))
step limit most asked scope state t = None

-- the place of the token, where it is a name that is wanted and means nothing
abbrev pub unknown_word : Bindings → Token → (left : ℕ) → Option ℕ
unknown_word scope (token.word bytes) left = if is_some (meaning_of scope bytes) then None else Some left
unknown_word scope t left = None

abbrev pub unknown_here : Bindings → State → Token → (left : ℕ) → Option ℕ
unknown_here scope (wanting stack) t left = unknown_word (scope_at scope stack) t left
unknown_here scope state t left = None

-- # Runs

-- the item that ends here, where one does
abbrev pub alone : List Frame × Item → Option Item
alone ([], i) = Some i
alone (f ∷ stack, i) = None

abbrev pub finished : (most : ℕ) → State → Option Item
finished most (having stack i) = alone (reduced most 0 stack i)
finished most state = None

-- the item, with the place of the first name that means nothing
abbrev pub or_fault : Option Item → Option ℕ → Result (Item × Option ℕ) ℕ
or_fault (Some i) unknown = Ok (i, unknown)
or_fault None unknown = Err 0

abbrev pub after : Option State → (left : ℕ) → (State → Result (Item × Option ℕ) ℕ) → Result (Item × Option ℕ) ℕ
after (Some state) left run = run state
after None left run = Err left

-- The item of the tokens from a state on, with the place of the first name that means nothing, or the place
-- where the reader stops; 0 is the end.
abbrev pub run : (limit most : ℕ) (asked : Bool) → Bindings → List Placed → State → Option ℕ → Result (Item × Option ℕ) ℕ
run limit most asked scope [] state unknown = or_fault (finished most state) unknown
run limit most asked scope (p ∷ placed) state unknown =
    after (step limit most asked scope state p.token) p.left (λ next. run limit most asked scope placed next (first_of unknown (unknown_here scope state p.token p.left)))

-- # Answers

-- the levels and the tree of an item of the asked form
abbrev pub levels_asked : (most : ℕ) (asked : Bool) → Item → ℕ
levels_asked most true i = i.levels
levels_asked most false i = height most i

abbrev pub tree_asked : (asked : Bool) → Item → Tree
tree_asked true i = of_term (as_term i.tree)
tree_asked false i = of_formula (as_formula i.tree)

abbrev pub or_unknown : (bytes : List ℕ) → Tree → Option ℕ → Result Tree Fault
or_unknown bytes tree None = Ok tree
or_unknown bytes tree (Some left) = Err (by_name (column_of bytes left))

abbrev pub answered : (most : ℕ) (asked : Bool) (bytes : List ℕ) → Result (Item × Option ℕ) ℕ → Result Tree Fault
answered most asked bytes (Err left) = Err (by_syntax (column_of bytes left))
answered most asked bytes (Ok (i, unknown)) =
    if nat_le (levels_asked most asked i) most then or_unknown bytes (tree_asked asked i) unknown
    else Err (by_depth (column_of bytes (left_of (scan 0 bytes))))

-- what is read from the bytes in a scope: the tree of the asked form, or a fault
abbrev pub read_bytes : (limit most : ℕ) (asked : Bool) → Bindings → (bytes : List ℕ) → Result Tree Fault
read_bytes limit most asked scope bytes = answered most asked bytes (run limit most asked scope (scan 0 bytes) (wanting []) None)
