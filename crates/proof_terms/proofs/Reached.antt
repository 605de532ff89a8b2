-- The path of a hole, and filling at it.
use Rattle.std.proofs.Common.{◌≡◌, ℕ, zero, suc, ◌+◌, ◌<◌, ◌≤◌, List, [], ◌∷◌, ◌++◌, Some, None, true, length, map, slice_get, set, arith, ap, refl, sym, ◌∙◌, subst}
use Rattle.std.proofs.lemmas.Bool.{eq-eqb}
use Rattle.std.proofs.lemmas.Option.{option_and_then_some, slice_get-map, slice_get_within}
use Rattle.std.specs.List.{flat_map}
use Rattle.std.specs.declared.option.Option.{Option}
use Rattle.std.specs.Option.{option_and_then, option_map, option_map_or, is_some, IsSome}
use Rattle.proof_terms.proofs.Joined.{times_joined}
use Rattle.proof_terms.proofs.Parts.{parts_filled, filled_parts, former_parts, holes_by_parts, three_at_most}
use Rattle.proof_terms.proofs.Filled.{not_filled}
use Rattle.proof_terms.specs.Tree.{ProofTree, hole}
use Rattle.proof_terms.specs.Holes.{holes_of, times, hole_count, filled}
use Rattle.proof_terms.specs.Paths.{parts, with_parts, at_path, put_at, holed}

-- the holes k of all the proofs
abbrev all_holes : List ProofTree → ℕ → ℕ
all_holes ps k = times k (flat_map holes_of ps)

head_and_rest : (p : ProofTree) (ps : List ProofTree) (k : ℕ) → all_holes (p ∷ ps) k ≡ hole_count p k + all_holes ps k
head_and_rest p ps k = times_joined k (holes_of p) (flat_map holes_of ps)

same_item : {p q : ProofTree} → Some p ≡ Some q → p ≡ q
same_item e = cc

one_among_all : (ps : List ProofTree) (i : ℕ) (q : ProofTree) (k : ℕ) → slice_get ps i ≡ Some q → hole_count q k ≤ all_holes ps k
one_among_all [] i q k e = absurd (cc)
one_among_all (p ∷ ps) zero q k e =
    let total = head_and_rest p ps k in
    let same : hole_count p k ≡ hole_count q k = ap (λ r. hole_count r k) (same_item e) in
    omega (arith, total, same)
one_among_all (p ∷ ps) (suc i) q k e =
    let total = head_and_rest p ps k in
    omega (arith, total, one_among_all ps i q k e)

none_filled : (ps : List ProofTree) (k : ℕ) (f : ProofTree) → all_holes ps k ≡ 0 → map (λ q. filled q k f) ps ≡ ps
none_filled [] k f h = refl
none_filled (p ∷ ps) k f h =
    let total = head_and_rest p ps k in
    let here : hole_count p k ≡ 0 = omega (arith, total, h) in
    let rest : all_holes ps k ≡ 0 = omega (arith, total, h) in
    λ i. not_filled p k f here i ∷ none_filled ps k f rest i

-- where one of the proofs has the hole, filling all is filling that one
one_filled : (ps : List ProofTree) (i : ℕ) (q : ProofTree) (k : ℕ) (f : ProofTree) → slice_get ps i ≡ Some q → all_holes ps k ≤ 1 → 1 ≤ hole_count q k → set ps i (filled q k f) ≡ map (λ r. filled r k f) ps
one_filled [] i q k f e h some = absurd (cc)
one_filled (p ∷ ps) zero q k f e h some =
    let total = head_and_rest p ps k in
    let same : hole_count p k ≡ hole_count q k = ap (λ r. hole_count r k) (same_item e) in
    let rest : all_holes ps k ≡ 0 = omega (arith, total, h, same, some) in
    λ j. filled (sym (same_item e) j) k f ∷ sym (none_filled ps k f rest) j
one_filled (p ∷ ps) (suc i) q k f e h some =
    let total = head_and_rest p ps k in
    let within = one_among_all ps i q k e in
    let here : hole_count p k ≡ 0 = omega (arith, total, h, within, some) in
    let rest : all_holes ps k ≤ 1 = omega (arith, total, h) in
    λ j. sym (not_filled p k f here) j ∷ one_filled ps i q k f e rest some j

-- and putting that one back gives the former proofs
one_put_back : (ps : List ProofTree) (i : ℕ) (q : ProofTree) (k : ℕ) (f : ProofTree) → slice_get ps i ≡ Some q → all_holes ps k ≤ 1 → 1 ≤ hole_count q k → set (map (λ r. filled r k f) ps) i q ≡ ps
one_put_back [] i q k f e h some = absurd (cc)
one_put_back (p ∷ ps) zero q k f e h some =
    let total = head_and_rest p ps k in
    let same : hole_count p k ≡ hole_count q k = ap (λ r. hole_count r k) (same_item e) in
    let rest : all_holes ps k ≡ 0 = omega (arith, total, h, same, some) in
    λ j. sym (same_item e) j ∷ none_filled ps k f rest j
one_put_back (p ∷ ps) (suc i) q k f e h some =
    let total = head_and_rest p ps k in
    let within = one_among_all ps i q k e in
    let here : hole_count p k ≡ 0 = omega (arith, total, h, within, some) in
    let rest : all_holes ps k ≤ 1 = omega (arith, total, h) in
    λ j. not_filled p k f here j ∷ one_put_back ps i q k f e rest some j

one_place : (ps : List ProofTree) (i j : ℕ) (q r : ProofTree) (k : ℕ) → slice_get ps i ≡ Some q → slice_get ps j ≡ Some r → all_holes ps k ≤ 1 → 1 ≤ hole_count q k → 1 ≤ hole_count r k → i ≡ j
one_place [] i j q r k e g h some more = absurd (cc)
one_place (p ∷ ps) zero zero q r k e g h some more = refl
one_place (p ∷ ps) zero (suc j) q r k e g h some more =
    let total = head_and_rest p ps k in
    let same : hole_count p k ≡ hole_count q k = ap (λ r. hole_count r k) (same_item e) in
    let within = one_among_all ps j r k g in
    absurd (omega (arith, total, h, same, some, more, within))
one_place (p ∷ ps) (suc i) zero q r k e g h some more =
    let total = head_and_rest p ps k in
    let same : hole_count p k ≡ hole_count r k = ap (λ r. hole_count r k) (same_item g) in
    let within = one_among_all ps i q k e in
    absurd (omega (arith, total, h, same, some, more, within))
one_place (p ∷ ps) (suc i) (suc j) q r k e g h some more =
    let total = head_and_rest p ps k in
    let rest : all_holes ps k ≤ 1 = omega (arith, total, h) in
    ap suc (one_place ps i j q r k e g rest some more)

has_parts : (p : ProofTree) (i : ℕ) (q : ProofTree) → slice_get (parts p) i ≡ Some q → 0 < length (parts p)
has_parts p i q e = omega (arith, slice_get_within (parts p) i q e)

count_by_parts : (p : ProofTree) (k : ℕ) → 0 < length (parts p) → hole_count p k ≡ all_holes (parts p) k
count_by_parts p k h = ap (times k) (holes_by_parts p h)

few_parts : (p : ProofTree) (k : ℕ) → 0 < length (parts p) → hole_count p k ≤ 1 → all_holes (parts p) k ≤ 1
few_parts p k h few = let same = count_by_parts p k h in omega (arith, few, same)

few_part : (p : ProofTree) (i : ℕ) (q : ProofTree) (k : ℕ) → slice_get (parts p) i ≡ Some q → hole_count p k ≤ 1 → hole_count q k ≤ 1
few_part p i q k e few =
    let same = count_by_parts p k (has_parts p i q e) in
    let within = one_among_all (parts p) i q k e in
    omega (arith, few, same, within)

count_of_hole : (k : ℕ) → times k (k ∷ []) ≡ 1
count_of_hole k = rw (eq-eqb k k refl) refl

-- where a path leads to hole k, the proof has it
pub leads_to_hole : (p : ProofTree) (path : List ℕ) (k : ℕ) → at_path p path ≡ Some (hole k) → 1 ≤ hole_count p k
leads_to_hole p [] k e =
    let same : hole_count p k ≡ hole_count (hole k) k = ap (λ r. hole_count r k) (same_item e) in
    let one = count_of_hole k in
    omega (arith, same, one)
leads_to_hole p (i ∷ path) k e =
    option_and_then_some
    (λ q. at_path q path)
    (slice_get (parts p) i)
    (hole k)
    e
    (λ (q : ProofTree) (g : slice_get (parts p) i ≡ Some q) (h : at_path q path ≡ Some (hole k)).
    let some = leads_to_hole q path k h in
    let within = one_among_all (parts p) i q k g in
    let same = count_by_parts p k (has_parts p i q g) in
    omega (arith, some, within, same))

pub one_hole : (p : ProofTree) (path : List ℕ) (k : ℕ) → hole_count p k ≤ 1 → at_path p path ≡ Some (hole k) → hole_count p k ≡ 1
one_hole p path k few e = let some = leads_to_hole p path k e in omega (arith, few, some)

no_further : (k i : ℕ) (path : List ℕ) (p q : ProofTree) → Some p ≡ Some (hole k) → at_path p (i ∷ path) ≡ Some q → ⊥
no_further k i path p q e h =
    let none : at_path (hole k) (i ∷ path) ≡ Some q = subst (λ r. at_path r (i ∷ path) ≡ Some q) (same_item e) h in
    cc

-- one path leads to a hole that occurs once
pub one_path : (p : ProofTree) (path other : List ℕ) (k : ℕ) → hole_count p k ≤ 1 → at_path p path ≡ Some (hole k) → at_path p other ≡ Some (hole k) → path ≡ other
one_path p [] [] k few e g = refl
one_path p [] (j ∷ other) k few e g = absurd (no_further k j other p (hole k) e g)
one_path p (i ∷ path) [] k few e g = absurd (no_further k i path p (hole k) g e)
one_path p (i ∷ path) (j ∷ other) k few e g =
    option_and_then_some
    (λ q. at_path q path)
    (slice_get (parts p) i)
    (hole k)
    e
    (λ (q : ProofTree) (a : slice_get (parts p) i ≡ Some q) (b : at_path q path ≡ Some (hole k)).
    option_and_then_some
    (λ q. at_path q other)
    (slice_get (parts p) j)
    (hole k)
    g
    (λ (r : ProofTree) (c : slice_get (parts p) j ≡ Some r) (d : at_path r other ≡ Some (hole k)).
    let place = one_place (parts p) i j q r k a c (few_parts p k (has_parts p i q a) few) (leads_to_hole q path k b) (leads_to_hole r other k d) in
    let same : q ≡ r = same_item (sym a ∙ ap (slice_get (parts p)) place ∙ c) in
    let rest = one_path q path other k (few_part p i q k a few) b (subst (λ z. at_path z other ≡ Some (hole k)) (sym same) d) in
    λ l. place l ∷ rest l))

filled_hole : (k : ℕ) (f : ProofTree) → filled (hole k) k f ≡ f
filled_hole k f = rw (eq-eqb k k refl) refl

-- filling puts the fragment at the path of the hole
pub filled_at_path : (p f : ProofTree) (path : List ℕ) (k : ℕ) → hole_count p k ≤ 1 → at_path p path ≡ Some (hole k) → filled p k f ≡ put_at p path f
filled_at_path p f [] k few e = ap (λ r. filled r k f) (same_item e) ∙ filled_hole k f
filled_at_path p f (i ∷ path) k few e =
    option_and_then_some
    (λ q. at_path q path)
    (slice_get (parts p) i)
    (hole k)
    e
    (λ (q : ProofTree) (a : slice_get (parts p) i ≡ Some q) (b : at_path q path ≡ Some (hole k)).
    let some = has_parts p i q a in
    let all = one_filled (parts p) i q k f a (few_parts p k some few) (leads_to_hole q path k b) in
    let below = filled_at_path q f path k (few_part p i q k a few) b in
    sym (filled_parts p k f some)
    ∙ ap (with_parts p) (sym all)
    ∙ ap (λ r. with_parts p (set (parts p) i r)) below
    ∙ ap (λ o. option_map_or (λ r. with_parts p (set (parts p) i (put_at r path f))) o p) (sym a))

-- what is reached after filling, and put back
pub undone : (p f : ProofTree) (path : List ℕ) (k : ℕ) → hole_count p k ≤ 1 → at_path p path ≡ Some (hole k) → (at_path (filled p k f) path ≡ Some f) × (holed (filled p k f) path k ≡ p)
undone p f [] k few e = (ap Some (ap (λ r. filled r k f) (same_item e) ∙ filled_hole k f), sym (same_item e))
undone p f (i ∷ path) k few e =
    option_and_then_some
    (λ q. at_path q path)
    (slice_get (parts p) i)
    (hole k)
    e
    (λ (q : ProofTree) (a : slice_get (parts p) i ≡ Some q) (b : at_path q path ≡ Some (hole k)).
    let some = has_parts p i q a in
    let below = undone q f path k (few_part p i q k a few) b in
    let filled_all = parts_filled p k f some in
    let reached : slice_get (parts (filled p k f)) i ≡ Some (filled q k f) =
    ap (λ ps. slice_get ps i) filled_all ∙ slice_get-map (λ r. filled r k f) (parts p) i ∙ ap (option_map (λ r. filled r k f)) a in
    let back = one_put_back (parts p) i q k f a (few_parts p k some few) (leads_to_hole q path k b) in (
      ap (option_and_then (λ r. at_path r path)) reached ∙ below.0,
      ap (λ o. option_map_or (λ r. with_parts (filled p k f) (set (parts (filled p k f)) i (put_at r path (hole k)))) o (filled p k f)) reached
          ∙ ap (λ r. with_parts (filled p k f) (set (parts (filled p k f)) i r)) below.1
          ∙ ap (λ ps. with_parts (filled p k f) (set ps i q)) filled_all
          ∙ ap (with_parts (filled p k f)) back
          ∙ former_parts p k f some,
    ))

-- a part has the number 0, 1 or 2
pub few_numbers : (p : ProofTree) (i : ℕ) (path : List ℕ) → IsSome (at_path p (i ∷ path)) → i < 3
few_numbers p i path e = numbered (slice_get (parts p) i) refl e
  where
    numbered : (o : Option ProofTree) → slice_get (parts p) i ≡ o → is_some (option_and_then (λ q. at_path q path) o) ≡ true → i < 3
    numbered None h g = absurd (cc)
    numbered (Some q) h g = let within = slice_get_within (parts p) i q h in let few = three_at_most p in omega (arith, within, few)
