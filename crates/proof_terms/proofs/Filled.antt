-- What filling does to a proof, and that the search from the left fills alike.
use Rattle.std.proofs.Common.{◌≡◌, ℕ, zero, suc, ◌+◌, ◌≤◌, true, false, List, [], ◌∷◌, ◌++◌, Some, None, nat_eq, if◌then◌else◌, arith, ap, refl, sym, ◌∙◌, ⊎_elim, eqb}
use Rattle.std.proofs.lemmas.Bool.Decides.{eqb_tells}
use Rattle.std.proofs.lemmas.Bool.{eq-eqb}
use Rattle.std.proofs.lemmas.List.{append_assoc, append-nil}
use Rattle.std.specs.declared.option.Option.{Option}
use Rattle.std.specs.Option.{option_map, option_or}
use Rattle.proof_terms.proofs.Joined.{times_joined, no_left, no_right}
use Rattle.proof_terms.specs.Tree.{ProofTree, hypothesis, lambda, application, general, special, pair, first, second, left_of, right_of, by_cases, pack, unpack, from_bottom, stable, reflexive, rewriting, an_axiom, induction, computing, ring_equal, hole}
use Rattle.proof_terms.specs.Holes.{holes_of, times, hole_count, filled}
use Rattle.proof_terms.specs.Search.{first_filled}

no_hole : (n k : ℕ) (f : ProofTree) → times k (n ∷ []) ≡ 0 → (if nat_eq n k then f else hole n) ≡ hole n
no_hole n k f h =
    ⊎_elim
    (λ (e : (eqb n k ≡ true) × (n ≡ k)). let one : times k (n ∷ []) ≡ 1 = rw e.0 refl in absurd (omega (arith, h, one)))
    (λ (e : (eqb n k ≡ false) × (n ≡ k → ⊥)). rw e.0 refl)
    (eqb_tells n k)

both : (c : ProofTree → ProofTree → ProofTree) {p q l m : ProofTree} → l ≡ p → m ≡ q → c l m ≡ c p q
both c e h = λ i. c (e i) (h i)

three : {p q r l m n : ProofTree} → l ≡ p → m ≡ q → n ≡ r → by_cases l m n ≡ by_cases p q r
three e g h = λ i. by_cases (e i) (g i) (h i)

-- filling a hole that the proof has not changes nothing
pub not_filled : (p : ProofTree) (k : ℕ) (f : ProofTree) → hole_count p k ≡ 0 → filled p k f ≡ p
not_filled (hypothesis i) k f h = refl
not_filled (lambda a p) k f h = ap (lambda a) (not_filled p k f h)
not_filled (application p q) k f h = both (application) (not_filled p k f (no_left k (holes_of p) (holes_of q) h)) (not_filled q k f (no_right k (holes_of p) (holes_of q) h))
not_filled (general s p) k f h = ap (general s) (not_filled p k f h)
not_filled (special p t) k f h = ap (λ l. special l t) (not_filled p k f h)
not_filled (pair p q) k f h = both (pair) (not_filled p k f (no_left k (holes_of p) (holes_of q) h)) (not_filled q k f (no_right k (holes_of p) (holes_of q) h))
not_filled (first p) k f h = ap (first) (not_filled p k f h)
not_filled (second p) k f h = ap (second) (not_filled p k f h)
not_filled (left_of b p) k f h = ap (left_of b) (not_filled p k f h)
not_filled (right_of a p) k f h = ap (right_of a) (not_filled p k f h)
not_filled (by_cases p q r) k f h = let rest = no_right k (holes_of p) (holes_of q ++ holes_of r) h in three (not_filled p k f (no_left k (holes_of p) (holes_of q ++ holes_of r) h)) (not_filled q k f (no_left k (holes_of q) (holes_of r) rest)) (not_filled r k f (no_right k (holes_of q) (holes_of r) rest))
not_filled (pack s a t p) k f h = ap (pack s a t) (not_filled p k f h)
not_filled (unpack p q) k f h = both (unpack) (not_filled p k f (no_left k (holes_of p) (holes_of q) h)) (not_filled q k f (no_right k (holes_of p) (holes_of q) h))
not_filled (from_bottom a p) k f h = ap (from_bottom a) (not_filled p k f h)
not_filled (stable p) k f h = ap (stable) (not_filled p k f h)
not_filled (reflexive t) k f h = refl
not_filled (rewriting a p q) k f h = both (rewriting a) (not_filled p k f (no_left k (holes_of p) (holes_of q) h)) (not_filled q k f (no_right k (holes_of p) (holes_of q) h))
not_filled (an_axiom n) k f h = refl
not_filled (induction a) k f h = refl
not_filled (computing t) k f h = refl
not_filled (ring_equal s t) k f h = refl
not_filled (hole n) k f h = no_hole n k f h

-- the numbers with others in the place of each k
abbrev spliced : ℕ → List ℕ → List ℕ → List ℕ
spliced k new [] = []
spliced k new (n ∷ numbers) = (if nat_eq n k then new else n ∷ []) ++ spliced k new numbers

spliced_joined : (k : ℕ) (new xs ys : List ℕ) → spliced k new (xs ++ ys) ≡ spliced k new xs ++ spliced k new ys
spliced_joined k new [] ys = refl
spliced_joined k new (n ∷ xs) ys =
    ap (λ ns. (if nat_eq n k then new else n ∷ []) ++ ns) (spliced_joined k new xs ys)
    ∙ sym (append_assoc (if nat_eq n k then new else n ∷ []) (spliced k new xs) (spliced k new ys))

spliced_hole : (n k : ℕ) (f : ProofTree) → holes_of (if nat_eq n k then f else hole n) ≡ spliced k (holes_of f) (n ∷ [])
spliced_hole n k f =
    ⊎_elim
    (λ (e : (eqb n k ≡ true) × (n ≡ k)). rw e.0 (sym (append-nil (holes_of f))))
    (λ (e : (eqb n k ≡ false) × (n ≡ k → ⊥)). rw e.0 refl)
    (eqb_tells n k)

spliced_two : (k : ℕ) (new xs ys : List ℕ) {ls ms : List ℕ} → ls ≡ spliced k new xs → ms ≡ spliced k new ys → ls ++ ms ≡ spliced k new (xs ++ ys)
spliced_two k new xs ys e h = (λ i. e i ++ h i) ∙ sym (spliced_joined k new xs ys)

holes_filled : (p : ProofTree) (k : ℕ) (f : ProofTree) → holes_of (filled p k f) ≡ spliced k (holes_of f) (holes_of p)
holes_filled (hypothesis i) k f = refl
holes_filled (lambda a p) k f = holes_filled p k f
holes_filled (application p q) k f = spliced_two k (holes_of f) (holes_of p) (holes_of q) (holes_filled p k f) (holes_filled q k f)
holes_filled (general s p) k f = holes_filled p k f
holes_filled (special p t) k f = holes_filled p k f
holes_filled (pair p q) k f = spliced_two k (holes_of f) (holes_of p) (holes_of q) (holes_filled p k f) (holes_filled q k f)
holes_filled (first p) k f = holes_filled p k f
holes_filled (second p) k f = holes_filled p k f
holes_filled (left_of b p) k f = holes_filled p k f
holes_filled (right_of a p) k f = holes_filled p k f
holes_filled (by_cases p q r) k f = spliced_two k (holes_of f) (holes_of p) (holes_of q ++ holes_of r) (holes_filled p k f) (spliced_two k (holes_of f) (holes_of q) (holes_of r) (holes_filled q k f) (holes_filled r k f))
holes_filled (pack s a t p) k f = holes_filled p k f
holes_filled (unpack p q) k f = spliced_two k (holes_of f) (holes_of p) (holes_of q) (holes_filled p k f) (holes_filled q k f)
holes_filled (from_bottom a p) k f = holes_filled p k f
holes_filled (stable p) k f = holes_filled p k f
holes_filled (reflexive t) k f = refl
holes_filled (rewriting a p q) k f = spliced_two k (holes_of f) (holes_of p) (holes_of q) (holes_filled p k f) (holes_filled q k f)
holes_filled (an_axiom n) k f = refl
holes_filled (induction a) k f = refl
holes_filled (computing t) k f = refl
holes_filled (ring_equal s t) k f = refl
holes_filled (hole n) k f = spliced_hole n k f

spliced_none : (k : ℕ) (new xs : List ℕ) → times k xs ≡ 0 → spliced k new xs ≡ xs
spliced_none k new [] h = refl
spliced_none k new (n ∷ xs) h =
    ⊎_elim
    (λ (e : (eqb n k ≡ true) × (n ≡ k)). let more : times k (n ∷ xs) ≡ 1 + times k xs = rw e.0 refl in absurd (omega (arith, h, more)))
    (λ (e : (eqb n k ≡ false) × (n ≡ k → ⊥)). let same : times k (n ∷ xs) ≡ times k xs = rw e.0 (omega arith) in rw e.0 (ap (λ ns. n ∷ ns) (spliced_none k new xs (sym same ∙ h))))
    (eqb_tells n k)

spliced_here : (k : ℕ) (new xs : List ℕ) → spliced k new (k ∷ xs) ≡ new ++ spliced k new xs
spliced_here k new xs = rw (eq-eqb k k refl) refl

-- the fragment's holes stand in the place of the hole that was filled
pub holes_replaced : (p f : ProofTree) (k : ℕ) (front back : List ℕ) → holes_of p ≡ front ++ k ∷ back → times k front ≡ 0 → times k back ≡ 0 → holes_of (filled p k f) ≡ front ++ (holes_of f ++ back)
holes_replaced p f k front back e g h =
    holes_filled p k f
    ∙ ap (spliced k (holes_of f)) e
    ∙ spliced_joined k (holes_of f) front (k ∷ back)
    ∙ (λ i. spliced_none k (holes_of f) front g i ++ spliced_here k (holes_of f) back i)
    ∙ ap (λ ns. front ++ (holes_of f ++ ns)) (spliced_none k (holes_of f) back h)

-- the proof, where the number of holes is not 0
abbrev pub where_some : ℕ → ProofTree → Option ProofTree
where_some zero p = None
where_some (suc n) p = Some p

found_one : (c : ProofTree → ProofTree) (n : ℕ) (l : ProofTree) {o : Option ProofTree} → o ≡ where_some n l → option_map c o ≡ where_some n (c l)
found_one c zero l e = ap (option_map c) e
found_one c (suc n) l e = ap (option_map c) e

found_two : (c : ProofTree → ProofTree → ProofTree) (p q l m : ProofTree) (x y total : ℕ) {o s : Option ProofTree} → total ≡ x + y → total ≤ 1 → o ≡ where_some x l → s ≡ where_some y m → (x ≡ 0 → l ≡ p) → (y ≡ 0 → m ≡ q) → option_or (option_map (λ z. c z q) o) (option_map (c p) s) ≡ where_some total (c l m)
found_two c p q l m zero zero total t h e g u v = rw (t, e, g) refl
found_two c p q l m zero (suc y) total t h e g u v =
    let more : total ≡ suc y = omega (arith, t) in
    rw (more, e, g) (ap (λ z. Some (c z m)) (sym (u refl)))
found_two c p q l m (suc x) zero total t h e g u v =
    let more : total ≡ suc x = omega (arith, t) in
    rw (more, e) (ap (λ z. Some (c l z)) (sym (v refl)))
found_two c p q l m (suc x) (suc y) total t h e g u v = absurd (omega (arith, t, h))

found_three : (p q r l m n : ProofTree) (x y z total : ℕ) {o s w : Option ProofTree} → total ≡ x + (y + z) → total ≤ 1 → o ≡ where_some x l → s ≡ where_some y m → w ≡ where_some z n → (x ≡ 0 → l ≡ p) → (y ≡ 0 → m ≡ q) → (z ≡ 0 → n ≡ r) → option_or (option_map (λ a. by_cases a q r) o) (option_or (option_map (λ a. by_cases p a r) s) (option_map (by_cases p q) w)) ≡ where_some total (by_cases l m n)
found_three p q r l m n zero zero zero total t h e f g u v a = rw (t, e, f, g) refl
found_three p q r l m n zero zero (suc z) total t h e f g u v a =
    let more : total ≡ suc z = omega (arith, t) in
    rw (more, e, f, g) (ap Some (three (sym (u refl)) (sym (v refl)) refl))
found_three p q r l m n zero (suc y) zero total t h e f g u v a =
    let more : total ≡ suc y = omega (arith, t) in
    rw (more, e, f) (ap Some (three (sym (u refl)) refl (sym (a refl))))
found_three p q r l m n (suc x) zero zero total t h e f g u v a =
    let more : total ≡ suc x = omega (arith, t) in
    rw (more, e) (ap Some (three refl (sym (v refl)) (sym (a refl))))
found_three p q r l m n zero (suc y) (suc z) total t h e f g u v a = absurd (omega (arith, t, h))
found_three p q r l m n (suc x) zero (suc z) total t h e f g u v a = absurd (omega (arith, t, h))
found_three p q r l m n (suc x) (suc y) z total t h e f g u v a = absurd (omega (arith, t, h))

less_left : (x y total : ℕ) → total ≡ x + y → total ≤ 1 → x ≤ 1
less_left x y total t h = omega (arith, t, h)

less_right : (x y total : ℕ) → total ≡ x + y → total ≤ 1 → y ≤ 1
less_right x y total t h = omega (arith, t, h)

found_hole : (n k : ℕ) (f : ProofTree) → (if nat_eq n k then Some f else None) ≡ where_some (times k (n ∷ [])) (if nat_eq n k then f else hole n)
found_hole n k f =
    ⊎_elim
    (λ (e : (eqb n k ≡ true) × (n ≡ k)). rw e.0 refl)
    (λ (e : (eqb n k ≡ false) × (n ≡ k → ⊥)). rw e.0 refl)
    (eqb_tells n k)

-- the search fills the one hole, where there is one
pub found : (p : ProofTree) (k : ℕ) (f : ProofTree) → hole_count p k ≤ 1 → first_filled p k f ≡ where_some (hole_count p k) (filled p k f)
found (hypothesis i) k f h = refl
found (lambda a p) k f h = found_one (lambda a) (hole_count p k) (filled p k f) (found p k f h)
found (application p q) k f h = let total = times_joined k (holes_of p) (holes_of q) in found_two (application) p q (filled p k f) (filled q k f) (hole_count p k) (hole_count q k) _ total h (found p k f (less_left _ _ _ total h)) (found q k f (less_right _ _ _ total h)) (not_filled p k f) (not_filled q k f)
found (general s p) k f h = found_one (general s) (hole_count p k) (filled p k f) (found p k f h)
found (special p t) k f h = found_one (λ l. special l t) (hole_count p k) (filled p k f) (found p k f h)
found (pair p q) k f h = let total = times_joined k (holes_of p) (holes_of q) in found_two (pair) p q (filled p k f) (filled q k f) (hole_count p k) (hole_count q k) _ total h (found p k f (less_left _ _ _ total h)) (found q k f (less_right _ _ _ total h)) (not_filled p k f) (not_filled q k f)
found (first p) k f h = found_one (first) (hole_count p k) (filled p k f) (found p k f h)
found (second p) k f h = found_one (second) (hole_count p k) (filled p k f) (found p k f h)
found (left_of b p) k f h = found_one (left_of b) (hole_count p k) (filled p k f) (found p k f h)
found (right_of a p) k f h = found_one (right_of a) (hole_count p k) (filled p k f) (found p k f h)
found (by_cases p q r) k f h = let rest = times_joined k (holes_of q) (holes_of r) in let total = times_joined k (holes_of p) (holes_of q ++ holes_of r) in let fewer = less_right _ _ _ total h in found_three p q r (filled p k f) (filled q k f) (filled r k f) (hole_count p k) (hole_count q k) (hole_count r k) _ (total ∙ ap (λ n. hole_count p k + n) rest) h (found p k f (less_left _ _ _ total h)) (found q k f (less_left _ _ _ rest fewer)) (found r k f (less_right _ _ _ rest fewer)) (not_filled p k f) (not_filled q k f) (not_filled r k f)
found (pack s a t p) k f h = found_one (pack s a t) (hole_count p k) (filled p k f) (found p k f h)
found (unpack p q) k f h = let total = times_joined k (holes_of p) (holes_of q) in found_two (unpack) p q (filled p k f) (filled q k f) (hole_count p k) (hole_count q k) _ total h (found p k f (less_left _ _ _ total h)) (found q k f (less_right _ _ _ total h)) (not_filled p k f) (not_filled q k f)
found (from_bottom a p) k f h = found_one (from_bottom a) (hole_count p k) (filled p k f) (found p k f h)
found (stable p) k f h = found_one (stable) (hole_count p k) (filled p k f) (found p k f h)
found (reflexive t) k f h = refl
found (rewriting a p q) k f h = let total = times_joined k (holes_of p) (holes_of q) in found_two (rewriting a) p q (filled p k f) (filled q k f) (hole_count p k) (hole_count q k) _ total h (found p k f (less_left _ _ _ total h)) (found q k f (less_right _ _ _ total h)) (not_filled p k f) (not_filled q k f)
found (an_axiom n) k f h = refl
found (induction a) k f h = refl
found (computing t) k f h = refl
found (ring_equal s t) k f h = refl
found (hole n) k f h = found_hole n k f

told_one : (n : ℕ) (l : ProofTree) {q : ProofTree} → n ≤ 1 → where_some n l ≡ Some q → n ≡ 1
told_one zero l h e = absurd (cc)
told_one (suc zero) l h e = refl
told_one (suc (suc n)) l h e = absurd (omega (arith, h))

told_which : (n : ℕ) {l q : ProofTree} → where_some n l ≡ Some q → q ≡ l
told_which zero e = absurd (cc)
told_which (suc n) e = cc

told_none : (n : ℕ) (l : ProofTree) → where_some n l ≡ None → n ≡ 0
told_none zero l e = refl
told_none (suc n) l e = absurd (cc)

pub had_one : (p : ProofTree) (k : ℕ) (f q : ProofTree) → hole_count p k ≤ 1 → first_filled p k f ≡ Some q → hole_count p k ≡ 1
had_one p k f q few e = told_one (hole_count p k) (filled p k f) few (sym (found p k f few) ∙ e)

pub gave_filled : (p : ProofTree) (k : ℕ) (f q : ProofTree) → hole_count p k ≤ 1 → first_filled p k f ≡ Some q → q ≡ filled p k f
gave_filled p k f q few e = told_which (hole_count p k) (sym (found p k f few) ∙ e)

pub had_none : (p : ProofTree) (k : ℕ) (f : ProofTree) → hole_count p k ≤ 1 → first_filled p k f ≡ None → hole_count p k ≡ 0
had_none p k f few e = told_none (hole_count p k) (filled p k f) (sym (found p k f few) ∙ e)
