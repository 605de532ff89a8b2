-- What filling does to the holes of a proof, and at the path of a hole.
use Rattle.std.specs.Prelude.{◌≡◌, ◌≤◌, ℕ, List, ◌∷◌, ◌++◌, Some}
use Rattle.proof_terms.specs.Tree.{ProofTree, hole}
use Rattle.proof_terms.specs.Holes.{holes_of, times, hole_count, filled}
use Rattle.proof_terms.specs.Paths.{at_path, put_at, holed}

-- where a path leads to hole k, the proof has it
abbrev pub PathLeadsToHole : Type 0
PathLeadsToHole =
    (p : ProofTree) (path : List ℕ) (k : ℕ) → at_path p path ≡ Some (hole k) → 1 ≤ hole_count p k

-- one path leads to a hole that occurs once
abbrev pub PathIsUnique : Type 0
PathIsUnique =
    (p : ProofTree) (path other : List ℕ) (k : ℕ)
    → hole_count p k ≤ 1 → at_path p path ≡ Some (hole k) → at_path p other ≡ Some (hole k)
    → path ≡ other

-- filling puts the fragment at the path of the hole, and changes nothing else
abbrev pub FillIsAtPath : Type 0
FillIsAtPath =
    (p fragment : ProofTree) (path : List ℕ) (k : ℕ)
    → hole_count p k ≤ 1 → at_path p path ≡ Some (hole k)
    → filled p k fragment ≡ put_at p path fragment

-- after filling, the fragment stands at the path of the hole, and the hole put there again gives the former proof
abbrev pub FillIsUndone : Type 0
FillIsUndone =
    (p fragment : ProofTree) (path : List ℕ) (k : ℕ)
    → hole_count p k ≤ 1 → at_path p path ≡ Some (hole k)
    → (at_path (filled p k fragment) path ≡ Some fragment) × (holed (filled p k fragment) path k ≡ p)

-- the fragment's holes stand in the place of the hole that was filled
abbrev pub FragmentHolesReplaceHole : Type 0
FragmentHolesReplaceHole =
    (p fragment : ProofTree) (k : ℕ) (front back : List ℕ)
    → holes_of p ≡ front ++ k ∷ back → times k front ≡ 0 → times k back ≡ 0
    → holes_of (filled p k fragment) ≡ front ++ (holes_of fragment ++ back)

-- filling a hole that the proof has not changes nothing
abbrev pub FillWithoutHole : Type 0
FillWithoutHole =
    (p fragment : ProofTree) (k : ℕ) → hole_count p k ≡ 0 → filled p k fragment ≡ p
