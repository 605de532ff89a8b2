-- Lists of holes that are joined, and a path that gets longer.
use Rattle.std.proofs.Common.{◌≡◌, ℕ, ◌+◌, ◌≤◌, List, [], ◌∷◌, ◌++◌, reverse, nat_eq, if◌then◌else◌, arith, ap, refl, sym, ◌∙◌}
use Rattle.std.proofs.lemmas.List.{append_assoc, append-nil, reverse-append}
use Rattle.proof_terms.specs.Holes.{times}

pub joined_nil : (xs : List ℕ) → xs ≡ xs ++ []
joined_nil xs = sym (append-nil xs)

pub joined_twice : (xs ys zs : List ℕ) → (xs ++ ys) ++ zs ≡ xs ++ (ys ++ zs)
joined_twice xs ys zs = append_assoc xs ys zs

pub joined_thrice : (ws xs ys zs : List ℕ) → ((ws ++ xs) ++ ys) ++ zs ≡ ws ++ (xs ++ (ys ++ zs))
joined_thrice ws xs ys zs = append_assoc (ws ++ xs) ys zs ∙ append_assoc ws xs (ys ++ zs)

pub times_joined : (k : ℕ) (xs ys : List ℕ) → times k (xs ++ ys) ≡ times k xs + times k ys
times_joined k [] ys = omega arith
times_joined k (x ∷ xs) ys = rw (times_joined k xs ys) (omega arith)

pub no_more : (k : ℕ) (xs ys : List ℕ) → times k xs ≡ 0 → times k ys ≡ 0 → times k (xs ++ ys) ≡ 0
no_more k xs ys e f = rw (times_joined k xs ys) (omega (arith, e, f))

pub reverse_longer : (path : List ℕ) (i : ℕ) → reverse (path ++ i ∷ []) ≡ i ∷ reverse path
reverse_longer path i = reverse-append path (i ∷ [])

pub no_left : (k : ℕ) (xs ys : List ℕ) → times k (xs ++ ys) ≡ 0 → times k xs ≡ 0
no_left k xs ys e = let total = times_joined k xs ys in omega (arith, e, total)

pub no_right : (k : ℕ) (xs ys : List ℕ) → times k (xs ++ ys) ≡ 0 → times k ys ≡ 0
no_right k xs ys e = let total = times_joined k xs ys in omega (arith, e, total)
