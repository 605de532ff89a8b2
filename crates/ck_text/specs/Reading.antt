-- What reading a text of the asked form comes to: the tree that it means, or a fault and its column.
use Rattle.std.specs.Prelude.{◌≡◌, ℕ, suc, ◌+◌, ◌-◌, ◌≤◌, ◌<◌, max, Bool, true, false, List, [], ◌∷◌, length, take, drop, Some, None, Ok, Err, if◌then◌else◌}
use Rattle.std.specs.declared.option.Option.{Option}
use Rattle.std.specs.declared.result.Result.{Result}
use Rattle.std.specs.Option.{option_map, is_some}
use Rattle.sorted_terms.specs.Tree.{TermTree}
use Rattle.formulas.specs.Tree.{FormulaTree}
use Rattle.ck_text.specs.declared.token.Prefix.TheVariants as prefixes
use Rattle.ck_text.specs.Tokens.{Token, Placed, scan, bare}
use Rattle.ck_text.specs.Texts.{Joint, formulas, terms, joint, Lead, prefix, binder, Text, falsity, name, number, led, joined, closed, tokens, lead_tokens, IsText, Bindings, under, first_of, meaning_of, term_of, formula_of}
use Rattle.ck_text.specs.Laws.{StopsAt}

-- # Levels

-- `-` before a number is one node with it
abbrev pub negated_levels : Text → ℕ → ℕ
negated_levels (number n) levels = 1
negated_levels a levels = 1 + levels

abbrev pub led_levels : Lead → Text → ℕ → ℕ
led_levels (prefix prefixes.Minus) a levels = negated_levels a levels
led_levels l a levels = 1 + levels

-- the depth of the term that a text means
abbrev pub term_levels : Text → ℕ
term_levels (led l a) = led_levels l a (term_levels a)
term_levels (joined o a b) = 1 + max (term_levels a) (term_levels b)
term_levels (closed a) = term_levels a
term_levels a = 1

abbrev pub joined_levels : Joint → (a b term : ℕ) → ℕ
joined_levels (formulas c) a b term = 1 + max a b
joined_levels (terms s) a b term = 1 + term

-- the depth of the formula that a text means, where a term is one level below the formula that it holds
abbrev pub formula_levels : Text → ℕ
formula_levels falsity = 1
formula_levels (led (prefix prefixes.Tilde) a) = 1 + formula_levels a
formula_levels (led (binder q bytes s) a) = 1 + formula_levels a
formula_levels (joined o a b) = joined_levels (joint o) (formula_levels a) (formula_levels b) (term_levels (joined o a b))
formula_levels (closed a) = formula_levels a
formula_levels a = 1 + term_levels a

-- the depth of the tree that a text means, as a term or as a formula
abbrev pub text_levels : (term : Bool) → Text → ℕ
text_levels true a = term_levels a
text_levels false a = formula_levels a

-- # Meaning

-- a term, or a formula
pub data Tree : Type 0 where
  of_term : (t : TermTree) → Tree
  of_formula : (a : FormulaTree) → Tree

-- the tree that a text means, as a term or as a formula
abbrev pub tree_of : (term : Bool) → Bindings → Text → Option Tree
tree_of true scope a = option_map of_term (term_of scope a)
tree_of false scope a = option_map of_formula (formula_of scope a)

-- the scope of the operand of a lead
abbrev pub scope_after : Lead → Bindings → Bindings
scope_after (prefix p) scope = scope
scope_after (binder q bytes s) scope = under bytes scope

-- The number of the first name that means nothing among the tokens of a text, where its first token has the
-- number `first`.
abbrev pub unknown_at : (first : ℕ) → Bindings → Text → Option ℕ
unknown_at first scope (name bytes) = if is_some (meaning_of scope bytes) then None else Some first
unknown_at first scope (led l a) = unknown_at (first + length (lead_tokens l)) (scope_after l scope) a
unknown_at first scope (joined o a b) = first_of (unknown_at first scope a) (unknown_at (suc (first + length (tokens a))) scope b)
unknown_at first scope (closed a) = unknown_at (suc first) scope a
unknown_at first scope a = None

-- # Columns

-- how many bytes there are from the first token to the end of the text
abbrev pub left_of : List Placed → ℕ
left_of [] = 0
left_of (p ∷ placed) = p.left

-- the column, from 1, of the byte that has so many bytes from it to the end
abbrev pub column_of : (bytes : List ℕ) (left : ℕ) → ℕ
column_of bytes left = suc (length bytes) - left

-- the column of the token with this number, from 0; one past the last column where there are no more than so many
abbrev pub column_at : (bytes : List ℕ) (k : ℕ) → ℕ
column_at bytes k = column_of bytes (left_of (drop k (scan 0 bytes)))

-- # Outcomes

abbrev pub tokens_of : List ℕ → List Token
tokens_of bytes = bare (scan 0 bytes)

-- the bytes are those of the text, which has the asked form
abbrev pub IsWritten : (limit : ℕ) (term : Bool) (bytes : List ℕ) → Text → Type 0
IsWritten limit term bytes a = IsText limit term a × (tokens a ≡ tokens_of bytes)

-- they are those of a text of at most `most` levels that means the tree
abbrev pub Means : (limit most : ℕ) (term : Bool) → Bindings → (bytes : List ℕ) → Tree → Type 0
Means limit most term scope bytes tree =
    (a : Text) × IsWritten limit term bytes a × (text_levels term a ≤ most) × (tree_of term scope a ≡ Some tree)

-- The tokens before the one at the column begin a text of the asked form, and with it they begin none; at the
-- end, the tokens are no whole text.
abbrev pub IsSyntaxFault : (limit : ℕ) (term : Bool) (bytes : List ℕ) (column : ℕ) → Type 0
IsSyntaxFault limit term bytes column =
    (k : ℕ) × StopsAt limit term (take k (tokens_of bytes)) (drop k (tokens_of bytes)) × (column ≡ column_at bytes k)

-- the text has more than `most` levels, and the column is that of its first token
abbrev pub IsDepthFault : (limit most : ℕ) (term : Bool) (bytes : List ℕ) (column : ℕ) → Type 0
IsDepthFault limit most term bytes column =
    (a : Text) × IsWritten limit term bytes a × (most < text_levels term a) × (column ≡ column_at bytes 0)

-- the text has at most `most` levels, and the first of its names that means nothing stands at the column
abbrev pub IsNameFault : (limit most : ℕ) (term : Bool) → Bindings → (bytes : List ℕ) (column : ℕ) → Type 0
IsNameFault limit most term scope bytes column =
    (a : Text) × IsWritten limit term bytes a × (text_levels term a ≤ most)
    × (k : ℕ) × (unknown_at 0 scope a ≡ Some k) × (column ≡ column_at bytes k)

-- what stops a reader, and at which column: the grammar, the number of levels, or a name that means nothing
pub data Fault : Type 0 where
  by_syntax : (column : ℕ) → Fault
  by_depth : (column : ℕ) → Fault
  by_name : (column : ℕ) → Fault

-- what reading the bytes comes to
abbrev pub IsOutcome : (limit most : ℕ) (term : Bool) → Bindings → (bytes : List ℕ) → Result Tree Fault → Type 0
IsOutcome limit most term scope bytes (Ok tree) = Means limit most term scope bytes tree
IsOutcome limit most term scope bytes (Err (by_syntax column)) = IsSyntaxFault limit term bytes column
IsOutcome limit most term scope bytes (Err (by_depth column)) = IsDepthFault limit most term bytes column
IsOutcome limit most term scope bytes (Err (by_name column)) = IsNameFault limit most term scope bytes column
