-- The written text of a tree, by levels, and its bytes.
use Rattle.std.specs.Prelude.{ℕ, suc, ◌-◌, ◌^◌, ◌<◌, nat_le, ℤ, pos, negsuc, unsigned_abs, true, false, List, [], ◌++◌, slice_get, Some, None, if◌then◌else◌, codes, decimal}
use Rattle.std.specs.declared.option.Option.{Option}
use Rattle.ck_base.specs.declared.decl.Sort.{Sort}
use Rattle.ck_base.specs.declared.decl.Sort.TheVariants as sorts
use Rattle.ck_base.specs.declared.decl.Decl.{Decl}
use Rattle.sorted_terms.specs.Tree.{TermTree, UnarySign, BinarySign}
use Rattle.sorted_terms.specs.Tree as term
use Rattle.formulas.specs.Tree.{FormulaTree, Connective}
use Rattle.formulas.specs.Tree as formula
use Rattle.ck_text.specs.declared.token.Sign.{Sign}
use Rattle.ck_text.specs.declared.token.Sign.TheVariants as sign
use Rattle.ck_text.specs.declared.token.Prefix.{Prefix}
use Rattle.ck_text.specs.declared.token.Prefix.TheVariants as prefixes
use Rattle.ck_text.specs.declared.token.Quantifier.{Quantifier}
use Rattle.ck_text.specs.declared.token.Quantifier.TheVariants as quantifiers
use Rattle.ck_text.specs.Texts.{Lead, prefix, binder, Text, truth, falsity, name, number, led, joined, closed, left_want, right_want, lead_level, rank}

-- # The text of a tree

-- a part, in parentheses exactly where its level is below the wanted one
abbrev pub at_level : (wanted : ℕ) → Text → Text
at_level wanted a = if nat_le wanted (rank a) then a else closed a

-- a lead and its operand, at the level that the grammar wants
abbrev pub with_lead : Lead → Text → Text
with_lead l a = led l (at_level (lead_level l) a)

-- two operands and their sign, each at the level that the grammar wants
abbrev pub with_sign : Sign → Text → Text → Text
with_sign o a b = joined o (at_level (left_want o) a) (at_level (right_want o) b)

-- the name of the variable with this number; 0 is the outermost
abbrev pub variable_name : ℕ → List ℕ
variable_name k = codes "_" ++ decimal k

-- the name of a declaration, and of none the empty one
abbrev pub name_of : Option Decl → List ℕ
name_of (Some d) = d.name
name_of None = []

-- a negative integer has the sign `-` before its absolute value
abbrev pub integer_text : ℤ → Text
integer_text (pos n) = number n
integer_text (negsuc n) = led (prefix prefixes.Minus) (number (suc n))

-- what stands after `-`: an integer is in parentheses there, as `-5` is one itself
abbrev pub minus_operand : TermTree → Text → Text
minus_operand (term.integer n) a = closed a
minus_operand t a = at_level 10 a

abbrev pub unary_text : UnarySign → TermTree → Text → Text
unary_text term.minus t a = led (prefix prefixes.Minus) (minus_operand t a)
unary_text term.denial t a = with_lead (prefix prefixes.Not) a

abbrev pub term_sign : BinarySign → Sign
term_sign term.plus = sign.Plus
term_sign term.difference = sign.Minus
term_sign term.times = sign.Times
term_sign term.equal = sign.Equal
term_sign term.less = sign.Less
term_sign term.at_most = sign.AtMost
term_sign term.both = sign.Both
term_sign term.either = sign.Either

-- The text of a term under declarations and so many variables around it: those in scope, and one for each
-- quantifier around. The index of the innermost is 0, and its name has the highest number.
abbrev pub term_text : List Decl → (around : ℕ) → TermTree → Text
term_text names around (term.name x) = name (name_of (slice_get names x))
term_text names around (term.index k) = name (variable_name (around - 1 - k))
term_text names around (term.integer n) = integer_text n
term_text names around (term.boolean b) = truth b
term_text names around (term.unary s t) = unary_text s t (term_text names around t)
term_text names around (term.binary s t u) = with_sign (term_sign s) (term_text names around t) (term_text names around u)

abbrev pub connective_sign : Connective → Sign
connective_sign formula.implies = sign.Implies
connective_sign formula.and_also = sign.AndAlso
connective_sign formula.or_else = sign.OrElse

-- two formulas joined; an implication of `bottom` is written with `~`
abbrev pub joined_text : Connective → FormulaTree → Text → Text → Text
joined_text formula.implies formula.bottom a b = with_lead (prefix prefixes.Tilde) a
joined_text c right a b = with_sign (connective_sign c) a b

abbrev pub quantifier_word : formula.Quantifier → Quantifier
quantifier_word formula.for_all = quantifiers.All
quantifier_word formula.there_is = quantifiers.Ex

-- the text of a formula; a quantifier binds the name of the next variable, and has its sort
abbrev pub formula_text : List Decl → (around : ℕ) → FormulaTree → Text
formula_text names around formula.bottom = falsity
formula_text names around (formula.holds t) = term_text names around t
formula_text names around (formula.joined c a b) = joined_text c b (formula_text names around a) (formula_text names around b)
formula_text names around (formula.quantified q s a) =
    with_lead (binder (quantifier_word q) (variable_name around) (Some s)) (formula_text names (suc around) a)

-- # Bytes

abbrev pub sign_bytes : Sign → List ℕ
sign_bytes sign.Implies = codes "=>"
sign_bytes sign.OrElse = codes "\\/"
sign_bytes sign.AndAlso = codes "/\\"
sign_bytes sign.Either = codes "or"
sign_bytes sign.Both = codes "and"
sign_bytes sign.Equal = codes "="
sign_bytes sign.Less = codes "<"
sign_bytes sign.AtMost = codes "<="
sign_bytes sign.Plus = codes "+"
sign_bytes sign.Minus = codes "-"
sign_bytes sign.Times = codes "*"

abbrev pub prefix_bytes : Prefix → List ℕ
prefix_bytes prefixes.Tilde = codes "~"
prefix_bytes prefixes.Not = codes "not "
prefix_bytes prefixes.Minus = codes "-"

abbrev pub quantifier_bytes : Quantifier → List ℕ
quantifier_bytes quantifiers.All = codes "all "
quantifier_bytes quantifiers.Ex = codes "ex "

abbrev pub sort_bytes : Option Sort → List ℕ
sort_bytes None = []
sort_bytes (Some sorts.Int) = codes ":int"
sort_bytes (Some sorts.Bool) = codes ":bool"

-- a lead as it stands before its operand, as `~`, `not ` or `all _0:int. `
abbrev pub lead_bytes : Lead → List ℕ
lead_bytes (prefix p) = prefix_bytes p
lead_bytes (binder q bytes s) = quantifier_bytes q ++ (bytes ++ (sort_bytes s ++ codes ". "))

-- the bytes of a text: a sign between operands has a space on each side, and parentheses have none
abbrev pub printed : Text → List ℕ
printed (truth true) = codes "true"
printed (truth false) = codes "false"
printed falsity = codes "bottom"
printed (name bytes) = bytes
printed (number n) = decimal n
printed (led l a) = lead_bytes l ++ printed a
printed (joined o a b) = printed a ++ (codes " " ++ (sign_bytes o ++ (codes " " ++ printed b)))
printed (closed a) = codes "(" ++ (printed a ++ codes ")")

-- the printed bytes of a tree under declarations and so many variables around it
abbrev pub term_bytes : List Decl → ℕ → TermTree → List ℕ
term_bytes names around t = printed (term_text names around t)

abbrev pub formula_bytes : List Decl → ℕ → FormulaTree → List ℕ
formula_bytes names around a = printed (formula_text names around a)

-- # Which trees have a text

-- every name of the term is declared, every index is that of a variable around, and every integer can be written
abbrev pub TermHasText : (declared around : ℕ) → TermTree → Type 0
TermHasText declared around (term.name x) = x < declared
TermHasText declared around (term.index k) = k < around
TermHasText declared around (term.integer n) = unsigned_abs n < 2 ^ 127
TermHasText declared around (term.boolean b) = Unit {0}
TermHasText declared around (term.unary s t) = TermHasText declared around t
TermHasText declared around (term.binary s t u) = TermHasText declared around t × TermHasText declared around u

-- the same of a formula
abbrev pub FormulaHasText : (declared around : ℕ) → FormulaTree → Type 0
FormulaHasText declared around formula.bottom = Unit {0}
FormulaHasText declared around (formula.holds t) = TermHasText declared around t
FormulaHasText declared around (formula.joined c a b) = FormulaHasText declared around a × FormulaHasText declared around b
FormulaHasText declared around (formula.quantified q s a) = FormulaHasText declared (suc around) a

-- the absolute value of every integer of the term is below 2^127
abbrev pub HasSmallTermIntegers : TermTree → Type 0
HasSmallTermIntegers (term.name x) = Unit {0}
HasSmallTermIntegers (term.index k) = Unit {0}
HasSmallTermIntegers (term.integer n) = unsigned_abs n < 2 ^ 127
HasSmallTermIntegers (term.boolean b) = Unit {0}
HasSmallTermIntegers (term.unary s t) = HasSmallTermIntegers t
HasSmallTermIntegers (term.binary s t u) = HasSmallTermIntegers t × HasSmallTermIntegers u

-- the same of a formula
abbrev pub HasSmallIntegers : FormulaTree → Type 0
HasSmallIntegers formula.bottom = Unit {0}
HasSmallIntegers (formula.holds t) = HasSmallTermIntegers t
HasSmallIntegers (formula.joined c a b) = HasSmallIntegers a × HasSmallIntegers b
HasSmallIntegers (formula.quantified q s a) = HasSmallIntegers a
