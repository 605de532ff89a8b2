-- Paths in a proof. A path lists, from the root, the number from 0 of the proof part taken.
use Rattle.std.specs.Prelude.{ℕ, List, [], ◌∷◌, Some, slice_get, slice_set}
use Rattle.std.specs.Option.{option_and_then, option_map_or}
use Rattle.std.specs.declared.option.Option.{Option}
use Rattle.proof_terms.specs.Tree.{ProofTree, lambda, application, general, special, pair, first, second, left_of, right_of, by_cases, pack, unpack, from_bottom, stable, rewriting, hole}

-- the proof parts, in field order
abbrev pub parts : ProofTree → List ProofTree
parts (lambda a p) = p ∷ []
parts (application p q) = p ∷ q ∷ []
parts (general s p) = p ∷ []
parts (special p t) = p ∷ []
parts (pair p q) = p ∷ q ∷ []
parts (first p) = p ∷ []
parts (second p) = p ∷ []
parts (left_of b p) = p ∷ []
parts (right_of a p) = p ∷ []
parts (by_cases p q r) = p ∷ q ∷ r ∷ []
parts (pack s a t p) = p ∷ []
parts (unpack p q) = p ∷ q ∷ []
parts (from_bottom a p) = p ∷ []
parts (stable p) = p ∷ []
parts (rewriting a p q) = p ∷ q ∷ []
parts p = []

-- the same rule over other parts, where there are as many
abbrev pub with_parts : ProofTree → List ProofTree → ProofTree
with_parts (lambda a p) (l ∷ []) = lambda a l
with_parts (application p q) (l ∷ m ∷ []) = application l m
with_parts (general s p) (l ∷ []) = general s l
with_parts (special p t) (l ∷ []) = special l t
with_parts (pair p q) (l ∷ m ∷ []) = pair l m
with_parts (first p) (l ∷ []) = first l
with_parts (second p) (l ∷ []) = second l
with_parts (left_of b p) (l ∷ []) = left_of b l
with_parts (right_of a p) (l ∷ []) = right_of a l
with_parts (by_cases p q r) (l ∷ m ∷ n ∷ []) = by_cases l m n
with_parts (pack s a t p) (l ∷ []) = pack s a t l
with_parts (unpack p q) (l ∷ m ∷ []) = unpack l m
with_parts (from_bottom a p) (l ∷ []) = from_bottom a l
with_parts (stable p) (l ∷ []) = stable l
with_parts (rewriting a p q) (l ∷ m ∷ []) = rewriting a l m
with_parts p others = p

-- what stands at the path, where it names a node
abbrev pub at_path : ProofTree → List ℕ → Option ProofTree
at_path p [] = Some p
at_path p (i ∷ path) = option_and_then (λ q. at_path q path) (slice_get (parts p) i)

-- the proof with another in the place of what stands at the path
abbrev pub put_at : ProofTree → List ℕ → ProofTree → ProofTree
put_at p [] other = other
put_at p (i ∷ path) other = option_map_or (λ q. with_parts p (slice_set (parts p) i (put_at q path other))) (slice_get (parts p) i) p

-- the proof with hole k at the path
abbrev pub holed : ProofTree → List ℕ → ℕ → ProofTree
holed p path k = put_at p path (hole k)
