-- What tells one node from another: the head of its formula and the numbers of its parts; and what of it is hashed.
use Rattle.std.specs.Prelude.{ℕ, ◌+◌, Bool, ◌&&◌, ◌++◌, nat_eq}
use Rattle.std.specs.Hash as fed
use Rattle.std.specs.Hash.{HashWrites}
use Rattle.ck_base.specs.declared.decl.Sort.{Sort}
use Rattle.ck_base.specs.declared.decl.Sort.TheVariants as sort
use Rattle.sorted_terms.specs.Tree.{TermTree, name, index, integer, boolean, unary, binary}
use Rattle.formulas.specs.Tree.{FormulaTree, formula_tree, bottom, holds, joined, quantified}
use Rattle.type_checker.specs.Same.{unary_number, binary_number, connective_number, quantifier_number, same_formula}
use Rattle.type_checker.specs.declared.hashed.Node.{Node}

-- the formula with falsity for its parts
abbrev pub head_of : FormulaTree → FormulaTree
head_of bottom = bottom
head_of (holds t) = holds t
head_of (joined c a b) = joined c bottom bottom
head_of (quantified q s a) = quantified q s bottom

abbrev pub Key : Type 0
Key = FormulaTree × (ℕ × ℕ)

abbrev pub key_of : Node → Key
key_of node = (head_of (formula_tree node.formula.now), (node.left, node.right))

abbrev pub same_key : Key → Key → Bool
same_key k l = same_formula k.0 l.0 && (nat_eq k.1.0 l.1.0 && nat_eq k.1.1 l.1.1)

-- the sign of the term, numbered
abbrev pub sign_number : TermTree → ℕ
sign_number (name x) = 0
sign_number (index k) = 1
sign_number (integer n) = 2
sign_number (boolean b) = 3
sign_number (unary g s) = 4 + unary_number g
sign_number (binary g s t) = 6 + binary_number g

abbrev pub term_writes : TermTree → HashWrites
term_writes (name x) = fed.u8 0 ++ fed.u32 x
term_writes (index k) = fed.u8 1 ++ fed.u32 k
term_writes (integer n) = fed.u8 2 ++ fed.i128 n
term_writes (boolean b) = fed.u8 3 ++ fed.bool b
term_writes (unary g s) = fed.u8 (4 + unary_number g) ++ term_writes s
term_writes (binary g s t) = fed.u8 (6 + binary_number g) ++ (term_writes s ++ term_writes t)

abbrev pub sort_number : Sort → ℕ
sort_number sort.Int = 0
sort_number sort.Bool = 1

abbrev pub head_writes : FormulaTree → HashWrites
head_writes bottom = fed.u8 0
head_writes (holds t) = fed.u8 1 ++ term_writes t
head_writes (joined c a b) = fed.u8 (2 + connective_number c)
head_writes (quantified q s a) = fed.u8 (5 + quantifier_number q) ++ fed.u8 (sort_number s)

abbrev pub key_writes : Key → HashWrites
key_writes k = head_writes k.0 ++ (fed.usize k.1.0 ++ fed.usize k.1.1)
