-- A term as a plain tree, which every definition is about, and the tree of a term of the code.
use Rattle.std.specs.Prelude.{ℕ, Bool}
use Rattle.std.specs.Prelude.{ℤ}
use Rattle.sorted_terms.specs.declared.term.Term.{Term}
use Rattle.sorted_terms.specs.declared.term.Term.TheVariants.{Var, Bound, Int, Add', Sub', Mul', Neg', Truth, Eq', Less', AtMost', Not', Both', Either'}

-- signs before one term: `-t` and `not t`
pub data UnarySign : Type 0 where
  minus : UnarySign
  denial : UnarySign

-- signs between two terms
pub data BinarySign : Type 0 where
  plus : BinarySign
  difference : BinarySign
  times : BinarySign
  equal : BinarySign
  less : BinarySign
  at_most : BinarySign
  both : BinarySign
  either : BinarySign

-- a declared name by its number, a bound variable by its index from the innermost, literals, and signs
pub data TermTree : Type 0 where
  name : (number : ℕ) → TermTree
  index : (place : ℕ) → TermTree
  integer : (n : ℤ) → TermTree
  boolean : (b : Bool) → TermTree
  unary : (sign : UnarySign) (t : TermTree) → TermTree
  binary : (sign : BinarySign) (s t : TermTree) → TermTree

abbrev pub term_tree : Term → TermTree
term_tree (Var x) = name x
term_tree (Bound k) = index k
term_tree (Int n) = integer n
term_tree (Add' p s q t) = binary plus (term_tree s) (term_tree t)
term_tree (Sub' p s q t) = binary difference (term_tree s) (term_tree t)
term_tree (Mul' p s q t) = binary times (term_tree s) (term_tree t)
term_tree (Neg' p t) = unary minus (term_tree t)
term_tree (Truth b) = boolean b
term_tree (Eq' p s q t) = binary equal (term_tree s) (term_tree t)
term_tree (Less' p s q t) = binary less (term_tree s) (term_tree t)
term_tree (AtMost' p s q t) = binary at_most (term_tree s) (term_tree t)
term_tree (Not' p t) = unary denial (term_tree t)
term_tree (Both' p s q t) = binary both (term_tree s) (term_tree t)
term_tree (Either' p s q t) = binary either (term_tree s) (term_tree t)

-- a sign before one term
abbrev pub IsUnary : TermTree → Type 0
IsUnary (unary sign t) = Unit {0}
IsUnary t = ⊥

-- a sign between two terms
abbrev pub IsBinary : TermTree → Type 0
IsBinary (binary sign s t) = Unit {0}
IsBinary t = ⊥

-- the term's own sign, over another part
abbrev pub with_part : TermTree → TermTree → TermTree
with_part (unary sign t) part = unary sign part
with_part t part = t

-- the term's own sign, between two other parts
abbrev pub with_parts : TermTree → TermTree → TermTree → TermTree
with_parts (binary sign s t) left right = binary sign left right
with_parts t left right = t
