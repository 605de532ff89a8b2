-- Whether two formulas are the same, computed.
use Rattle.std.specs.Prelude.{ℕ, Bool, true, false, ◌&&◌, nat_eq}
use Rattle.sorted_terms.specs.Sorts.{same_sort}
use Rattle.sorted_terms.specs.Tree.{TermTree, UnarySign, minus, denial, BinarySign, plus, difference, times, equal, less, at_most, both, either, name, index, integer, boolean, unary, binary}
use Rattle.sorted_terms.specs.Values.{same_integer, same_boolean}
use Rattle.formulas.specs.Tree.{FormulaTree, Connective, implies, and_also, or_else, Quantifier, for_all, there_is, bottom, holds, joined, quantified}

-- the signs, numbered
abbrev pub unary_number : UnarySign → ℕ
unary_number minus = 0
unary_number denial = 1

abbrev pub binary_number : BinarySign → ℕ
binary_number plus = 0
binary_number difference = 1
binary_number times = 2
binary_number equal = 3
binary_number less = 4
binary_number at_most = 5
binary_number both = 6
binary_number either = 7

abbrev pub connective_number : Connective → ℕ
connective_number implies = 0
connective_number and_also = 1
connective_number or_else = 2

abbrev pub quantifier_number : Quantifier → ℕ
quantifier_number for_all = 0
quantifier_number there_is = 1

abbrev pub same_term : TermTree → TermTree → Bool
same_term (name x) (name y) = nat_eq x y
same_term (index k) (index l) = nat_eq k l
same_term (integer m) (integer n) = same_integer m n
same_term (boolean a) (boolean b) = same_boolean a b
same_term (unary g s) (unary h t) = nat_eq (unary_number g) (unary_number h) && same_term s t
same_term (binary g s u) (binary h t v) = nat_eq (binary_number g) (binary_number h) && (same_term s t && same_term u v)
same_term s t = false

abbrev pub same_formula : FormulaTree → FormulaTree → Bool
same_formula bottom bottom = true
same_formula (holds s) (holds t) = same_term s t
same_formula (joined c a b) (joined d e f) = nat_eq (connective_number c) (connective_number d) && (same_formula a e && same_formula b f)
same_formula (quantified q r a) (quantified p s b) = nat_eq (quantifier_number q) (quantifier_number p) && (same_sort r s && same_formula a b)
same_formula a b = false
