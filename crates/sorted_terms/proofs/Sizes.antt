-- A term has a node, and no more levels than nodes; a shift changes neither.
use Rattle.std.proofs.Common.{◌≡◌, ℕ, ◌+◌, ◌<◌, ◌≤◌, max, arith, refl, ap, ap₂}
use Rattle.sorted_terms.specs.Tree.{TermTree, name, index, integer, boolean, unary, binary}
use Rattle.sorted_terms.specs.Sorts.{term_size, term_depth}
use Rattle.sorted_terms.specs.Substitution.{shift_term}

pub term_size_positive : (t : TermTree) → 0 < term_size t
term_size_positive (name x) = omega arith
term_size_positive (index k) = omega arith
term_size_positive (integer n) = omega arith
term_size_positive (boolean b) = omega arith
term_size_positive (unary sign t) = omega arith
term_size_positive (binary sign s t) = omega arith

pub term_depth_positive : (t : TermTree) → 0 < term_depth t
term_depth_positive (name x) = omega arith
term_depth_positive (index k) = omega arith
term_depth_positive (integer n) = omega arith
term_depth_positive (boolean b) = omega arith
term_depth_positive (unary sign t) = omega arith
term_depth_positive (binary sign s t) = omega arith

pub term_depth_within_size : (t : TermTree) → term_depth t ≤ term_size t
term_depth_within_size (name x) = omega arith
term_depth_within_size (index k) = omega arith
term_depth_within_size (integer n) = omega arith
term_depth_within_size (boolean b) = omega arith
term_depth_within_size (unary sign t) = omega (arith, term_depth_within_size t)
term_depth_within_size (binary sign s t) = omega (arith, term_depth_within_size s, term_depth_within_size t)

pub shift_keeps_size : (t : TermTree) (by above : ℕ) → term_size (shift_term t by above) ≡ term_size t
shift_keeps_size (name x) by above = refl
shift_keeps_size (index k) by above = refl
shift_keeps_size (integer n) by above = refl
shift_keeps_size (boolean b) by above = refl
shift_keeps_size (unary sign t) by above = ap (λ n. 1 + n) (shift_keeps_size t by above)
shift_keeps_size (binary sign s t) by above = ap₂ (λ m n. 1 + m + n) (shift_keeps_size s by above) (shift_keeps_size t by above)

pub shift_keeps_depth : (t : TermTree) (by above : ℕ) → term_depth (shift_term t by above) ≡ term_depth t
shift_keeps_depth (name x) by above = refl
shift_keeps_depth (index k) by above = refl
shift_keeps_depth (integer n) by above = refl
shift_keeps_depth (boolean b) by above = refl
shift_keeps_depth (unary sign t) by above = ap (λ n. 1 + n) (shift_keeps_depth t by above)
shift_keeps_depth (binary sign s t) by above = ap₂ (λ m n. 1 + max m n) (shift_keeps_depth s by above) (shift_keeps_depth t by above)
