-- A proof has a node and no more levels than nodes.
use Rattle.std.proofs.Common.{◌≤◌, arith}
use Rattle.proof_terms.specs.Tree.{ProofTree, hypothesis, lambda, application, general, special, pair, first, second, left_of, right_of, by_cases, pack, unpack, from_bottom, stable, reflexive, rewriting, an_axiom, induction, computing, ring_equal, hole}
use Rattle.proof_terms.specs.Size.{proof_depth, proof_size}

pub depth_within_size : (p : ProofTree) → proof_depth p ≤ proof_size p
depth_within_size (hypothesis k) = omega arith
depth_within_size (lambda a p) = omega (arith, depth_within_size p)
depth_within_size (application p q) = omega (arith, depth_within_size p, depth_within_size q)
depth_within_size (general s p) = omega (arith, depth_within_size p)
depth_within_size (special p t) = omega (arith, depth_within_size p)
depth_within_size (pair p q) = omega (arith, depth_within_size p, depth_within_size q)
depth_within_size (first p) = omega (arith, depth_within_size p)
depth_within_size (second p) = omega (arith, depth_within_size p)
depth_within_size (left_of b p) = omega (arith, depth_within_size p)
depth_within_size (right_of a p) = omega (arith, depth_within_size p)
depth_within_size (by_cases p q r) = omega (arith, depth_within_size p, depth_within_size q, depth_within_size r)
depth_within_size (pack s a t p) = omega (arith, depth_within_size p)
depth_within_size (unpack p q) = omega (arith, depth_within_size p, depth_within_size q)
depth_within_size (from_bottom a p) = omega (arith, depth_within_size p)
depth_within_size (stable p) = omega (arith, depth_within_size p)
depth_within_size (reflexive t) = omega arith
depth_within_size (rewriting a p q) = omega (arith, depth_within_size p, depth_within_size q)
depth_within_size (an_axiom i) = omega arith
depth_within_size (induction a) = omega arith
depth_within_size (computing t) = omega arith
depth_within_size (ring_equal s t) = omega arith
depth_within_size (hole k) = omega arith
