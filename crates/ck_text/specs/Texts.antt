-- Terms and formulas as they are written: the grammar by levels, the tokens of a text, and the tree that it means.
use Rattle.std.specs.Prelude.{◌≡◌, ℕ, suc, ◌+◌, ◌-◌, ◌≤◌, ◌<◌, ◌==◌, ◌&&◌, nat_lt, not, Bool, true, false, pos, neg_ℤ, List, [], ◌∷◌, ◌++◌, length, Some, None, if◌then◌else◌}
use Rattle.std.specs.declared.option.Option.{Option}
use Rattle.std.specs.Option.{option_map, is_some}
use Rattle.std.specs.List.{list_all}
use Rattle.std.specs.Str.{bytes_eq}
use Rattle.ck_base.specs.Names.{is_digit, number_of}
use Rattle.ck_base.specs.declared.decl.Sort.{Sort}
use Rattle.ck_base.specs.declared.decl.Sort.TheVariants as sorts
use Rattle.ck_base.specs.declared.decl.Decl.{Decl}
use Rattle.sorted_terms.specs.Tree.{TermTree, UnarySign, BinarySign}
use Rattle.sorted_terms.specs.Tree as term
use Rattle.formulas.specs.Tree.{FormulaTree, Connective, not_so}
use Rattle.formulas.specs.Tree as formula
use Rattle.ck_text.specs.declared.token.Sign.{Sign}
use Rattle.ck_text.specs.declared.token.Sign.TheVariants as sign
use Rattle.ck_text.specs.declared.token.Prefix.{Prefix}
use Rattle.ck_text.specs.declared.token.Prefix.TheVariants as prefixes
use Rattle.ck_text.specs.declared.token.Quantifier.{Quantifier}
use Rattle.ck_text.specs.declared.token.Quantifier.TheVariants as quantifiers
use Rattle.ck_text.specs.declared.token.Mark.TheVariants as marks
use Rattle.ck_text.specs.Tokens.{Token, value_from}
use Rattle.ck_text.specs.Tokens as token

-- What stands before an operand: a prefix sign, or a quantifier with the name that it binds and, where
-- one is written, its sort.
pub data Lead : Type 0 where
  prefix : (p : Prefix) → Lead
  binder : (q : Quantifier) (bytes : List ℕ) (s : Option Sort) → Lead

-- A text: `true` or `false`, `bottom`, a name, a number, a lead and its operand, two operands and the sign
-- between them, and a text in parentheses.
pub data Text : Type 0 where
  truth : (b : Bool) → Text
  falsity : Text
  name : (bytes : List ℕ) → Text
  number : (n : ℕ) → Text
  led : (l : Lead) (a : Text) → Text
  joined : (o : Sign) (a b : Text) → Text
  closed : (a : Text) → Text

-- # Tokens

abbrev pub prefix_token : Prefix → Token
prefix_token prefixes.Tilde = token.mark marks.Tilde
prefix_token prefixes.Not = token.mark marks.Not
prefix_token prefixes.Minus = token.joining sign.Minus

-- the tokens after the name that a quantifier binds: `.`, or `: sort .`
abbrev pub sort_tokens : Option Sort → List Token
sort_tokens None = token.mark marks.Dot ∷ []
sort_tokens (Some s) = token.mark marks.Colon ∷ token.sort s ∷ token.mark marks.Dot ∷ []

abbrev pub lead_tokens : Lead → List Token
lead_tokens (prefix p) = prefix_token p ∷ []
lead_tokens (binder q bytes s) = token.quantifier q ∷ token.word bytes ∷ sort_tokens s

abbrev pub tokens : Text → List Token
tokens (truth b) = token.truth b ∷ []
tokens falsity = token.mark marks.Bottom ∷ []
tokens (name bytes) = token.word bytes ∷ []
tokens (number n) = token.number n ∷ []
tokens (led l a) = lead_tokens l ++ tokens a
tokens (joined o a b) = tokens a ++ (token.joining o ∷ tokens b)
tokens (closed a) = token.mark marks.Open ∷ (tokens a ++ (token.mark marks.Close ∷ []))

-- # Grammar
--
--     expr  := ('all'|'ex') name [':' sort] '.' expr | disj ['=>' expr]
--     disj  := conj ['\/' disj]
--     conj  := neg ['/\' conj]
--     neg   := '~' neg | or
--     or    := and {'or' and}
--     and   := not {'and' not}
--     not   := 'not' not | cmp
--     cmp   := sum [('='|'<'|'<=') sum]
--     sum   := prod {('+'|'-') prod}
--     prod  := unary {'*' unary}
--     unary := '-' unary | atom
--     atom  := number | name | 'true' | 'false' | 'bottom' | '(' expr ')'
--     sort  := 'int' | 'bool'
--
-- Levels 0 to 11 count these from `expr` to `atom`, and an operand that the grammar asks as one of them has at
-- least its level. `all`, `ex`, `=>`, `\/`, `/\`, `~` and `bottom` make formulas, all else makes terms.

-- What a sign joins: two formulas by a connective, or two terms by a sign of terms.
pub data Joint : Type 0 where
  formulas : (c : Connective) → Joint
  terms : (s : BinarySign) → Joint

abbrev pub joint : Sign → Joint
joint sign.Implies = formulas formula.implies
joint sign.OrElse = formulas formula.or_else
joint sign.AndAlso = formulas formula.and_also
joint sign.Either = terms term.either
joint sign.Both = terms term.both
joint sign.Equal = terms term.equal
joint sign.Less = terms term.less
joint sign.AtMost = terms term.at_most
joint sign.Plus = terms term.plus
joint sign.Minus = terms term.difference
joint sign.Times = terms term.times

-- The level of a sign says how tightly it binds, loosest first. `or`, `and`, `+`, `-` and `*` take their
-- own level on the left, `=>`, `\/` and `/\` on the right, comparisons on neither side.
abbrev pub level : Sign → ℕ
level sign.Implies = 0
level sign.OrElse = 1
level sign.AndAlso = 2
level sign.Either = 4
level sign.Both = 5
level sign.Equal = 7
level sign.Less = 7
level sign.AtMost = 7
level sign.Plus = 8
level sign.Minus = 8
level sign.Times = 9

-- the lowest level of the operand on the left
abbrev pub left_want : Sign → ℕ
left_want sign.Implies = 1
left_want sign.OrElse = 2
left_want sign.AndAlso = 3
left_want sign.Either = 4
left_want sign.Both = 5
left_want sign.Equal = 8
left_want sign.Less = 8
left_want sign.AtMost = 8
left_want sign.Plus = 8
left_want sign.Minus = 8
left_want sign.Times = 9

-- the lowest level of the operand on the right
abbrev pub right_want : Sign → ℕ
right_want sign.Implies = 0
right_want sign.OrElse = 1
right_want sign.AndAlso = 2
right_want sign.Either = 5
right_want sign.Both = 6
right_want sign.Equal = 8
right_want sign.Less = 8
right_want sign.AtMost = 8
right_want sign.Plus = 9
right_want sign.Minus = 9
right_want sign.Times = 10

-- the level of a lead, which is also the lowest level of its operand
abbrev pub lead_level : Lead → ℕ
lead_level (prefix prefixes.Tilde) = 3
lead_level (prefix prefixes.Not) = 6
lead_level (prefix prefixes.Minus) = 10
lead_level (binder q bytes s) = 0

-- the level of a text; 11 where it stands for itself
abbrev pub rank : Text → ℕ
rank (led l a) = lead_level l
rank (joined o a b) = level o
rank a = 11

abbrev pub joins_terms : Joint → Bool
joins_terms (formulas c) = false
joins_terms (terms s) = true

-- the operands are terms, and so is the whole; otherwise it is a formula, and each operand is one or a term
abbrev pub on_terms : Sign → Bool
on_terms o = joins_terms (joint o)

abbrev pub lead_on_terms : Lead → Bool
lead_on_terms (prefix prefixes.Tilde) = false
lead_on_terms (prefix prefixes.Not) = true
lead_on_terms (prefix prefixes.Minus) = true
lead_on_terms (binder q bytes s) = false

-- the text is a term, and no formula
abbrev pub is_term : Text → Bool
is_term falsity = false
is_term (led l a) = lead_on_terms l
is_term (joined o a b) = on_terms o
is_term (closed a) = is_term a
is_term a = true

-- Where a term is asked, only a term suits; where a formula is asked, a term suits as well.
abbrev pub suits : (asked term : Bool) → Bool
suits true term = term
suits false term = true

-- how many levels a sign opens around the operand on its right
abbrev pub opens : Sign → ℕ
opens o = if on_terms o then 0 else 1

-- The text is built by the grammar, where so many levels are open around it and at most `limit` may be: each
-- operand has the level that is wanted and suits, and each lead, `(`, `=>`, `\/` and `/\` opens one level
-- around what follows it.
abbrev pub Fits : (limit around : ℕ) → Text → Type 0
Fits limit around (led l a) =
    (lead_level l ≤ rank a) × (suits (lead_on_terms l) (is_term a) ≡ true)
    × (around < limit) × Fits limit (suc around) a
Fits limit around (joined o a b) =
    (left_want o ≤ rank a) × (right_want o ≤ rank b)
    × (suits (on_terms o) (is_term a) ≡ true) × (suits (on_terms o) (is_term b) ≡ true)
    × (opens o + around ≤ limit) × Fits limit around a × Fits limit (opens o + around) b
Fits limit around (closed a) = (around < limit) × Fits limit (suc around) a
Fits limit around a = Unit {0}

-- a text of the asked form: a term, or a formula
abbrev pub IsText : (limit : ℕ) (term : Bool) → Text → Type 0
IsText limit term a = Fits limit 0 a × (suits term (is_term a) ≡ true)

-- # Meaning

-- the position of the first name that is equal
abbrev pub place_of : List ℕ → List (List ℕ) → Option ℕ
place_of bytes [] = None
place_of bytes (bound ∷ outer) = if bytes_eq bytes bound then Some 0 else option_map suc (place_of bytes outer)

-- decimal digits without a leading zero
abbrev pub is_decimal : List ℕ → Bool
is_decimal [] = false
is_decimal (b ∷ []) = is_digit b
is_decimal (b ∷ digits) = is_digit b && not (b == 48) && list_all is_digit digits

-- the number of a variable in scope that is written `_k`, where there are so many
abbrev pub variable_of : ℕ → List ℕ → Option ℕ
variable_of variables [] = None
variable_of variables (b ∷ digits) =
    if (b == 95) && is_decimal digits && nat_lt (value_from 0 digits) variables then Some (value_from 0 digits) else None

-- the first that is there
abbrev pub first_of : {A : Type 0} → Option A → Option A → Option A
first_of (Some a) other = Some a
first_of None other = other

-- What names stand for: the declared names, the number of variables in scope, and the names that the
-- quantifiers around bind, the innermost first.
pub record Bindings : Type 0 where
  pub names : List Decl
  pub variables : ℕ
  pub bound : List (List ℕ)

-- the scope of a whole text under declarations and so many variables
abbrev pub whole_scope : List Decl → ℕ → Bindings
whole_scope names variables = record { names = names; variables = variables; bound = [] }

-- the scope under a quantifier that binds the name
abbrev pub under : List ℕ → Bindings → Bindings
under bytes scope = record { names = scope.names; variables = scope.variables; bound = bytes ∷ scope.bound }

-- A name means the innermost quantifier around it that binds it, else a variable in scope, of which 0 is
-- the outermost, else the declared name; or nothing.
abbrev pub meaning_of : Bindings → List ℕ → Option TermTree
meaning_of scope bytes =
    first_of (option_map term.index (place_of bytes scope.bound))
    (first_of (option_map (λ k. term.index (length scope.bound + (scope.variables - 1 - k))) (variable_of scope.variables bytes))
    (option_map term.name (number_of bytes scope.names)))

-- two parts, where both mean something
abbrev pub both_of : {A B : Type 0} → (A → A → B) → Option A → Option A → Option B
both_of f (Some a) (Some b) = Some (f a b)
both_of f a b = None

-- `-` before a number is a negative literal, before all else a sign
abbrev pub negated : Text → Option TermTree → Option TermTree
negated (number n) t = Some (term.integer (neg_ℤ (pos n)))
negated a t = option_map (term.unary term.minus) t

-- a term with a lead, by its operand and what that means
abbrev pub led_term : Lead → Text → Option TermTree → Option TermTree
led_term (prefix prefixes.Minus) a t = negated a t
led_term (prefix prefixes.Not) a t = option_map (term.unary term.denial) t
led_term l a t = None

abbrev pub joined_term : Joint → Option TermTree → Option TermTree → Option TermTree
joined_term (terms s) t u = both_of (term.binary s) t u
joined_term (formulas c) t u = None

-- the term that a text means in a scope; none where a name means nothing, and where the text is no term
abbrev pub term_of : Bindings → Text → Option TermTree
term_of scope (truth b) = Some (term.boolean b)
term_of scope falsity = None
term_of scope (name bytes) = meaning_of scope bytes
term_of scope (number n) = Some (term.integer (pos n))
term_of scope (led l a) = led_term l a (term_of scope a)
term_of scope (joined o a b) = joined_term (joint o) (term_of scope a) (term_of scope b)
term_of scope (closed a) = term_of scope a

-- a quantifier without a sort is over int
abbrev pub sort_or_int : Option Sort → Sort
sort_or_int (Some s) = s
sort_or_int None = sorts.Int

abbrev pub quantifier_of : Quantifier → formula.Quantifier
quantifier_of quantifiers.All = formula.for_all
quantifier_of quantifiers.Ex = formula.there_is

abbrev pub joined_formula : Joint → Option FormulaTree → Option FormulaTree → Option TermTree → Option FormulaTree
joined_formula (formulas c) a b t = both_of (formula.joined c) a b
joined_formula (terms s) a b t = option_map formula.holds t

-- The formula that a text means in a scope; none where a name means nothing. A term t means that t holds,
-- and `~a` that a implies `bottom`.
abbrev pub formula_of : Bindings → Text → Option FormulaTree
formula_of scope falsity = Some formula.bottom
formula_of scope (led (prefix prefixes.Tilde) a) = option_map not_so (formula_of scope a)
formula_of scope (led (binder q bytes s) a) =
    option_map (formula.quantified (quantifier_of q) (sort_or_int s)) (formula_of (under bytes scope) a)
formula_of scope (joined o a b) =
    joined_formula (joint o) (formula_of scope a) (formula_of scope b) (term_of scope (joined o a b))
formula_of scope (closed a) = formula_of scope a
formula_of scope a = option_map formula.holds (term_of scope a)

-- each name of a text in the order of its tokens, with the scope that it stands in
abbrev pub names_in : Bindings → Text → List (List ℕ × Bindings)
names_in scope (name bytes) = (bytes, scope) ∷ []
names_in scope (led (binder q bytes s) a) = names_in (under bytes scope) a
names_in scope (led l a) = names_in scope a
names_in scope (joined o a b) = names_in scope a ++ names_in scope b
names_in scope (closed a) = names_in scope a
names_in scope a = []

-- the name means something in its scope
abbrev pub is_known : List ℕ × Bindings → Bool
is_known n = is_some (meaning_of n.1 n.0)
