-- Filling as a search from the left.
use Rattle.std.specs.Prelude.{ℕ, Some, None, nat_eq, if◌then◌else◌}
use Rattle.std.specs.Option.{option_map, option_or}
use Rattle.std.specs.declared.option.Option.{Option}
use Rattle.proof_terms.specs.Tree.{ProofTree, lambda, application, general, special, pair, first, second, left_of, right_of, by_cases, pack, unpack, from_bottom, stable, rewriting, hole}

-- the proof with the fragment in the place of its first hole k, where it has one
abbrev pub first_filled : ProofTree → ℕ → ProofTree → Option ProofTree
first_filled (lambda a p) k f = option_map (lambda a) (first_filled p k f)
first_filled (application p q) k f = option_or (option_map (λ l. application l q) (first_filled p k f)) (option_map (application p) (first_filled q k f))
first_filled (general s p) k f = option_map (general s) (first_filled p k f)
first_filled (special p t) k f = option_map (λ l. special l t) (first_filled p k f)
first_filled (pair p q) k f = option_or (option_map (λ l. pair l q) (first_filled p k f)) (option_map (pair p) (first_filled q k f))
first_filled (first p) k f = option_map first (first_filled p k f)
first_filled (second p) k f = option_map second (first_filled p k f)
first_filled (left_of b p) k f = option_map (left_of b) (first_filled p k f)
first_filled (right_of a p) k f = option_map (right_of a) (first_filled p k f)
first_filled (by_cases p q r) k f = option_or (option_map (λ l. by_cases l q r) (first_filled p k f)) (option_or (option_map (λ l. by_cases p l r) (first_filled q k f)) (option_map (by_cases p q) (first_filled r k f)))
first_filled (pack s a t p) k f = option_map (pack s a t) (first_filled p k f)
first_filled (unpack p q) k f = option_or (option_map (λ l. unpack l q) (first_filled p k f)) (option_map (unpack p) (first_filled q k f))
first_filled (from_bottom a p) k f = option_map (from_bottom a) (first_filled p k f)
first_filled (stable p) k f = option_map stable (first_filled p k f)
first_filled (rewriting a p q) k f = option_or (option_map (λ l. rewriting a l q) (first_filled p k f)) (option_map (rewriting a p) (first_filled q k f))
first_filled (hole n) k f = if nat_eq n k then Some f else None
first_filled p k f = None
