-- The holes of a proof, and the proof with a fragment in the place of one.
use Rattle.std.specs.Prelude.{ℕ, ◌+◌, List, [], ◌∷◌, ◌++◌, nat_eq, if◌then◌else◌}
use Rattle.proof_terms.specs.Tree.{ProofTree, lambda, application, general, special, pair, first, second, left_of, right_of, by_cases, pack, unpack, from_bottom, stable, rewriting, hole}

-- the numbers of the holes, in preorder
abbrev pub holes_of : ProofTree → List ℕ
holes_of (lambda a p) = holes_of p
holes_of (application p q) = holes_of p ++ holes_of q
holes_of (general s p) = holes_of p
holes_of (special p t) = holes_of p
holes_of (pair p q) = holes_of p ++ holes_of q
holes_of (first p) = holes_of p
holes_of (second p) = holes_of p
holes_of (left_of b p) = holes_of p
holes_of (right_of a p) = holes_of p
holes_of (by_cases p q r) = holes_of p ++ (holes_of q ++ holes_of r)
holes_of (pack s a t p) = holes_of p
holes_of (unpack p q) = holes_of p ++ holes_of q
holes_of (from_bottom a p) = holes_of p
holes_of (stable p) = holes_of p
holes_of (rewriting a p q) = holes_of p ++ holes_of q
holes_of (hole k) = k ∷ []
holes_of p = []

-- how many times the number is in the list
abbrev pub times : ℕ → List ℕ → ℕ
times k [] = 0
times k (n ∷ numbers) = (if nat_eq n k then 1 else 0) + times k numbers

-- how many holes k the proof has
abbrev pub hole_count : ProofTree → ℕ → ℕ
hole_count p k = times k (holes_of p)

-- the proof with the fragment in the place of each hole k
abbrev pub filled : ProofTree → ℕ → ProofTree → ProofTree
filled (lambda a p) k fragment = lambda a (filled p k fragment)
filled (application p q) k fragment = application (filled p k fragment) (filled q k fragment)
filled (general s p) k fragment = general s (filled p k fragment)
filled (special p t) k fragment = special (filled p k fragment) t
filled (pair p q) k fragment = pair (filled p k fragment) (filled q k fragment)
filled (first p) k fragment = first (filled p k fragment)
filled (second p) k fragment = second (filled p k fragment)
filled (left_of b p) k fragment = left_of b (filled p k fragment)
filled (right_of a p) k fragment = right_of a (filled p k fragment)
filled (by_cases p q r) k fragment = by_cases (filled p k fragment) (filled q k fragment) (filled r k fragment)
filled (pack s a t p) k fragment = pack s a t (filled p k fragment)
filled (unpack p q) k fragment = unpack (filled p k fragment) (filled q k fragment)
filled (from_bottom a p) k fragment = from_bottom a (filled p k fragment)
filled (stable p) k fragment = stable (filled p k fragment)
filled (rewriting a p q) k fragment = rewriting a (filled p k fragment) (filled q k fragment)
filled (hole n) k fragment = if nat_eq n k then fragment else hole n
filled p k fragment = p
