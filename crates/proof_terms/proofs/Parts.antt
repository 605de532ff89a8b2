-- The parts of a proof after filling, and its holes by those of its parts.
use Rattle.std.proofs.Common.{◌≡◌, ℕ, ◌<◌, ◌≤◌, List, [], ◌∷◌, ◌++◌, length, map, arith, ap, refl}
use Rattle.std.specs.List.{flat_map}
use Rattle.std.proofs.lemmas.List.{append-nil}
use Rattle.proof_terms.proofs.Joined.{joined_nil}
use Rattle.proof_terms.specs.Tree.{ProofTree, hypothesis, lambda, application, general, special, pair, first, second, left_of, right_of, by_cases, pack, unpack, from_bottom, stable, reflexive, rewriting, an_axiom, induction, computing, ring_equal, hole}
use Rattle.proof_terms.specs.Holes.{holes_of, filled}
use Rattle.proof_terms.specs.Paths.{parts, with_parts}

pub parts_filled : (p : ProofTree) (k : ℕ) (f : ProofTree) → 0 < length (parts p) → parts (filled p k f) ≡ map (λ q. filled q k f) (parts p)
parts_filled (hypothesis i) k f h = refl
parts_filled (lambda a p) k f h = refl
parts_filled (application p q) k f h = refl
parts_filled (general s p) k f h = refl
parts_filled (special p t) k f h = refl
parts_filled (pair p q) k f h = refl
parts_filled (first p) k f h = refl
parts_filled (second p) k f h = refl
parts_filled (left_of b p) k f h = refl
parts_filled (right_of a p) k f h = refl
parts_filled (by_cases p q r) k f h = refl
parts_filled (pack s a t p) k f h = refl
parts_filled (unpack p q) k f h = refl
parts_filled (from_bottom a p) k f h = refl
parts_filled (stable p) k f h = refl
parts_filled (reflexive t) k f h = refl
parts_filled (rewriting a p q) k f h = refl
parts_filled (an_axiom n) k f h = refl
parts_filled (induction a) k f h = refl
parts_filled (computing t) k f h = refl
parts_filled (ring_equal s t) k f h = refl
parts_filled (hole n) k f h = absurd (omega (arith, h))

-- filled is what the rule makes of the filled parts
pub filled_parts : (p : ProofTree) (k : ℕ) (f : ProofTree) → 0 < length (parts p) → with_parts p (map (λ q. filled q k f) (parts p)) ≡ filled p k f
filled_parts (hypothesis i) k f h = refl
filled_parts (lambda a p) k f h = refl
filled_parts (application p q) k f h = refl
filled_parts (general s p) k f h = refl
filled_parts (special p t) k f h = refl
filled_parts (pair p q) k f h = refl
filled_parts (first p) k f h = refl
filled_parts (second p) k f h = refl
filled_parts (left_of b p) k f h = refl
filled_parts (right_of a p) k f h = refl
filled_parts (by_cases p q r) k f h = refl
filled_parts (pack s a t p) k f h = refl
filled_parts (unpack p q) k f h = refl
filled_parts (from_bottom a p) k f h = refl
filled_parts (stable p) k f h = refl
filled_parts (reflexive t) k f h = refl
filled_parts (rewriting a p q) k f h = refl
filled_parts (an_axiom n) k f h = refl
filled_parts (induction a) k f h = refl
filled_parts (computing t) k f h = refl
filled_parts (ring_equal s t) k f h = refl
filled_parts (hole n) k f h = absurd (omega (arith, h))

-- the former parts in the filled proof give the former proof
pub former_parts : (p : ProofTree) (k : ℕ) (f : ProofTree) → 0 < length (parts p) → with_parts (filled p k f) (parts p) ≡ p
former_parts (hypothesis i) k f h = refl
former_parts (lambda a p) k f h = refl
former_parts (application p q) k f h = refl
former_parts (general s p) k f h = refl
former_parts (special p t) k f h = refl
former_parts (pair p q) k f h = refl
former_parts (first p) k f h = refl
former_parts (second p) k f h = refl
former_parts (left_of b p) k f h = refl
former_parts (right_of a p) k f h = refl
former_parts (by_cases p q r) k f h = refl
former_parts (pack s a t p) k f h = refl
former_parts (unpack p q) k f h = refl
former_parts (from_bottom a p) k f h = refl
former_parts (stable p) k f h = refl
former_parts (reflexive t) k f h = refl
former_parts (rewriting a p q) k f h = refl
former_parts (an_axiom n) k f h = refl
former_parts (induction a) k f h = refl
former_parts (computing t) k f h = refl
former_parts (ring_equal s t) k f h = refl
former_parts (hole n) k f h = absurd (omega (arith, h))

pub holes_by_parts : (p : ProofTree) → 0 < length (parts p) → holes_of p ≡ flat_map holes_of (parts p)
holes_by_parts (hypothesis i) h = absurd (omega (arith, h))
holes_by_parts (lambda a p) h = joined_nil (holes_of p)
holes_by_parts (application p q) h = ap (λ ns. holes_of p ++ ns) (joined_nil (holes_of q))
holes_by_parts (general s p) h = joined_nil (holes_of p)
holes_by_parts (special p t) h = joined_nil (holes_of p)
holes_by_parts (pair p q) h = ap (λ ns. holes_of p ++ ns) (joined_nil (holes_of q))
holes_by_parts (first p) h = joined_nil (holes_of p)
holes_by_parts (second p) h = joined_nil (holes_of p)
holes_by_parts (left_of b p) h = joined_nil (holes_of p)
holes_by_parts (right_of a p) h = joined_nil (holes_of p)
holes_by_parts (by_cases p q r) h = ap (λ ns. holes_of p ++ (holes_of q ++ ns)) (joined_nil (holes_of r))
holes_by_parts (pack s a t p) h = joined_nil (holes_of p)
holes_by_parts (unpack p q) h = ap (λ ns. holes_of p ++ ns) (joined_nil (holes_of q))
holes_by_parts (from_bottom a p) h = joined_nil (holes_of p)
holes_by_parts (stable p) h = joined_nil (holes_of p)
holes_by_parts (reflexive t) h = absurd (omega (arith, h))
holes_by_parts (rewriting a p q) h = ap (λ ns. holes_of p ++ ns) (joined_nil (holes_of q))
holes_by_parts (an_axiom n) h = absurd (omega (arith, h))
holes_by_parts (induction a) h = absurd (omega (arith, h))
holes_by_parts (computing t) h = absurd (omega (arith, h))
holes_by_parts (ring_equal s t) h = absurd (omega (arith, h))
holes_by_parts (hole n) h = absurd (omega (arith, h))

pub three_at_most : (p : ProofTree) → length (parts p) ≤ 3
three_at_most (hypothesis i) = omega arith
three_at_most (lambda a p) = omega arith
three_at_most (application p q) = omega arith
three_at_most (general s p) = omega arith
three_at_most (special p t) = omega arith
three_at_most (pair p q) = omega arith
three_at_most (first p) = omega arith
three_at_most (second p) = omega arith
three_at_most (left_of b p) = omega arith
three_at_most (right_of a p) = omega arith
three_at_most (by_cases p q r) = omega arith
three_at_most (pack s a t p) = omega arith
three_at_most (unpack p q) = omega arith
three_at_most (from_bottom a p) = omega arith
three_at_most (stable p) = omega arith
three_at_most (reflexive t) = omega arith
three_at_most (rewriting a p q) = omega arith
three_at_most (an_axiom n) = omega arith
three_at_most (induction a) = omega arith
three_at_most (computing t) = omega arith
three_at_most (ring_equal s t) = omega arith
three_at_most (hole n) = omega arith
