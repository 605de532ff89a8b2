-- Depth and size of proofs.
use Rattle.std.specs.Prelude.{ℕ, ◌+◌, max}
use Rattle.sorted_terms.specs.Sorts.{term_size}
use Rattle.formulas.specs.Sorts as formula
use Rattle.proof_terms.specs.Tree.{ProofTree, hypothesis, lambda, application, general, special, pair, first, second, left_of, right_of, by_cases, pack, unpack, from_bottom, stable, reflexive, rewriting, an_axiom, induction, computing, ring_equal, hole}

-- the number of proof nodes on the longest path from the root
abbrev pub proof_depth : ProofTree → ℕ
proof_depth (lambda a p) = 1 + proof_depth p
proof_depth (application p q) = 1 + max (proof_depth p) (proof_depth q)
proof_depth (general s p) = 1 + proof_depth p
proof_depth (special p t) = 1 + proof_depth p
proof_depth (pair p q) = 1 + max (proof_depth p) (proof_depth q)
proof_depth (first p) = 1 + proof_depth p
proof_depth (second p) = 1 + proof_depth p
proof_depth (left_of b p) = 1 + proof_depth p
proof_depth (right_of a p) = 1 + proof_depth p
proof_depth (by_cases p q r) = 1 + max (proof_depth p) (max (proof_depth q) (proof_depth r))
proof_depth (pack s a t p) = 1 + proof_depth p
proof_depth (unpack p q) = 1 + max (proof_depth p) (proof_depth q)
proof_depth (from_bottom a p) = 1 + proof_depth p
proof_depth (stable p) = 1 + proof_depth p
proof_depth (rewriting a p q) = 1 + max (proof_depth p) (proof_depth q)
proof_depth p = 1

-- the number of proof, formula and term nodes
abbrev pub proof_size : ProofTree → ℕ
proof_size (hypothesis k) = 1
proof_size (lambda a p) = 1 + formula.size a + proof_size p
proof_size (application p q) = 1 + proof_size p + proof_size q
proof_size (general s p) = 1 + proof_size p
proof_size (special p t) = 1 + proof_size p + term_size t
proof_size (pair p q) = 1 + proof_size p + proof_size q
proof_size (first p) = 1 + proof_size p
proof_size (second p) = 1 + proof_size p
proof_size (left_of b p) = 1 + formula.size b + proof_size p
proof_size (right_of a p) = 1 + formula.size a + proof_size p
proof_size (by_cases p q r) = 1 + proof_size p + proof_size q + proof_size r
proof_size (pack s a t p) = 1 + formula.size a + term_size t + proof_size p
proof_size (unpack p q) = 1 + proof_size p + proof_size q
proof_size (from_bottom a p) = 1 + formula.size a + proof_size p
proof_size (stable p) = 1 + proof_size p
proof_size (reflexive t) = 1 + term_size t
proof_size (rewriting a p q) = 1 + formula.size a + proof_size p + proof_size q
proof_size (an_axiom i) = 1
proof_size (induction a) = 1 + formula.size a
proof_size (computing t) = 1 + term_size t
proof_size (ring_equal s t) = 1 + term_size s + term_size t
proof_size (hole k) = 1
