-- Two bounds on a term as a polynomial, told without its values.
use Rattle.std.specs.Prelude.{ℕ, ◌+◌, ◌*◌, max, unsigned_abs, Bool, true, false, ◌&&◌}
use Rattle.sorted_terms.specs.Tree.{UnarySign, minus, denial, BinarySign, plus, difference, times, TermTree, name, index, integer, boolean, unary, binary}

-- neither a name nor an index stands in the term
abbrev pub is_closed : TermTree → Bool
is_closed (name x) = false
is_closed (index k) = false
is_closed (integer n) = true
is_closed (boolean b) = true
is_closed (unary sign t) = is_closed t
is_closed (binary sign s t) = is_closed s && is_closed t

-- the weight, which no value of a closed term is above
abbrev pub term_weight : TermTree → ℕ
term_weight (name x) = 1
term_weight (index k) = 1
term_weight (integer n) = max (unsigned_abs n) 1
term_weight (boolean b) = 1
term_weight (unary sign t) = term_weight t
term_weight (binary times s t) = term_weight s * term_weight t
term_weight (binary sign s t) = term_weight s + term_weight t

-- the number of products in the expansion of a term, where equal ones are counted each
abbrev pub term_expansions : TermTree → ℕ
term_expansions (unary minus t) = term_expansions t
term_expansions (binary plus s t) = term_expansions s + term_expansions t
term_expansions (binary difference s t) = term_expansions s + term_expansions t
term_expansions (binary times s t) = term_expansions s * term_expansions t
term_expansions t = 1
