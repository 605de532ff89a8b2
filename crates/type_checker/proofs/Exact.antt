-- The walk gives a proof the formula that it has, and the place of its fault where it has none.
use Rattle.std.proofs.Common.{◌≡◌, ℕ, ◌+◌, Bool, true, false, ◌&&◌, if◌then◌else◌, List, ◌∷◌, Option, Some, None, slice_get, Result, Ok, Err, refl, sym, ◌∙◌, ap, subst, arith}
use Rattle.std.proofs.lemmas.Bool.{and_parts, and_from}
use Rattle.ck_base.specs.declared.decl.Sort.{Sort}
use Rattle.ck_base.specs.declared.decl.Sort.TheVariants as sort
use Rattle.ck_base.specs.declared.decl.Decl.{Decl}
use Rattle.sorted_terms.specs.Tree.{TermTree, equal, binary}
use Rattle.sorted_terms.specs.Sorts.{sort_of, has_sort}
use Rattle.formulas.specs.Tree.{FormulaTree, implies, and_also, or_else, for_all, there_is, bottom, holds, joined, quantified, not_so}
use Rattle.formulas.specs.Sorts.{fits, well_sorted}
use Rattle.formulas.specs.Substitution.{shift, instance}
use Rattle.formulas.specs.Context.{raised}
use Rattle.arith_axioms.specs.declared.no_compute.NoCompute.{NoCompute}
use Rattle.arith_axioms.specs.Axioms.{axiom_at, induction as induction_form}
use Rattle.arith_axioms.specs.Computing.{computing as computed}
use Rattle.proof_terms.specs.Tree.{ProofTree, hypothesis, lambda, application, general, special, pair, first, second, left_of, right_of, by_cases, pack, unpack, from_bottom, stable, reflexive, rewriting, an_axiom, induction, computing, ring_equal}
use Rattle.type_checker.specs.Typing.{Has}
use Rattle.type_checker.specs.Place.{proof_nodes, is_assumable, AreAssumable}
use Rattle.type_checker.specs.Same.{same_formula}
use Rattle.type_checker.specs.Rules.{given, computes, of_leaf, special_of, first_of, second_of, denied_of, and_then, is_ring_equation, of_one, applied, rewritten, of_two, of_cases, of_unpacked}
use Rattle.type_checker.specs.Walk.{Walk, found_at, found, continued, with_sides, with_body, walked}
use Rattle.type_checker.specs.SameLaws.{formula_is, formula_same}
use Rattle.type_checker.proofs.Rings.{ring_is, is_ring}
use Rattle.type_checker.proofs.Sides.{fits_left_side}
use Rattle.type_checker.proofs.Sorted.{sort_known, known_sort, assumable}
use Rattle.type_checker.proofs.Lowering.{unpacked_ok, unpacked}

-- What the rules gave

given_ok : (t : Bool) (a b : FormulaTree) → given t a ≡ Some b → (t ≡ true) × (b ≡ a)
given_ok true a b e = let same : a ≡ b = cc in (refl, sym same)
given_ok false a b e = absurd (cc)

computes_ok : (r : Result (Unit {0}) NoCompute) → computes r ≡ true → r ≡ Ok tt
computes_ok (Ok u) e = refl
computes_ok (Err fault) e = absurd (cc)

special_ok : (names : List Decl) (variables : List Sort) (t : TermTree) (f c : FormulaTree) → special_of names variables t f ≡ Some c
    → (s : Sort) × (a : FormulaTree) × (f ≡ quantified for_all s a) × (sort_of names variables t ≡ Some s) × (c ≡ instance a t 0)
special_ok names variables t (quantified for_all s a) c e =
    let k = given_ok (has_sort (sort_of names variables t) s) (instance a t 0) c e in
    (s, a, refl, sort_known (sort_of names variables t) s k.0, k.1)
special_ok names variables t f c e = absurd (cc)

first_ok : (f a : FormulaTree) → first_of f ≡ Some a → (b : FormulaTree) × (f ≡ joined and_also a b)
first_ok (joined and_also a b) c e = let same : a ≡ c = cc in (b, ap (λ x. joined and_also x b) same)
first_ok f c e = absurd (cc)

second_ok : (f b : FormulaTree) → second_of f ≡ Some b → (a : FormulaTree) × (f ≡ joined and_also a b)
second_ok (joined and_also a b) c e = let same : b ≡ c = cc in (a, ap (joined and_also a) same)
second_ok f c e = absurd (cc)

denied_ok : (f a : FormulaTree) → denied_of f ≡ Some a → f ≡ not_so a
denied_ok (joined implies a bottom) c e = let same : a ≡ c = cc in ap not_so same
denied_ok f c e = absurd (cc)

twice_denied_ok : (o : Option FormulaTree) (f a : FormulaTree) → denied_of f ≡ o → and_then o denied_of ≡ Some a → f ≡ not_so (not_so a)
twice_denied_ok None f a h e = absurd (cc)
twice_denied_ok (Some b) f a h e = denied_ok f b h ∙ ap not_so (denied_ok b a e)

applied_ok : (f c d : FormulaTree) → applied f c ≡ Some d → f ≡ joined implies c d
applied_ok (joined implies a b) c d e =
    let k = given_ok (same_formula a c) b d e in
    (λ i. joined implies (formula_is a c k.0 i) (sym k.1 i))
applied_ok f c d e = absurd (cc)

rewritten_ok : (names : List Decl) (variables : List Sort) (a f g c : FormulaTree) → rewritten names variables a f g ≡ Some c
    → (s : TermTree) × (t : TermTree) × (f ≡ holds (binary equal s t)) × (well_sorted names (sort.Int ∷ variables) a ≡ true) × (g ≡ instance a s 0) × (c ≡ instance a t 0)
rewritten_ok names variables a (holds (binary equal s t)) g c e =
    let k = given_ok (well_sorted names (sort.Int ∷ variables) a && same_formula (instance a s 0) g) (instance a t 0) c e in
    let both = and_parts (well_sorted names (sort.Int ∷ variables) a) (same_formula (instance a s 0) g) k.0 in
    (s, t, refl, both.0, sym (formula_is (instance a s 0) g both.1), k.1)
rewritten_ok names variables a f g c e = absurd (cc)

-- What the walks gave

found_if_ok : (t : Bool) (a b : FormulaTree) (n m : ℕ) → fits a ≡ t → found_at (if t then Some a else None) n ≡ Ok (b, m) → (fits b ≡ true) × (a ≡ b) × (m ≡ n + 1)
found_if_ok true a b n m h e =
    let k : ◌≡◌ {A = FormulaTree × ℕ} (a, n + 1) (b, m) = cc in
    let same : a ≡ b = ap (λ (x : FormulaTree × ℕ). x.0) k in
    (subst (λ x. fits x ≡ true) same h, same, sym (ap (λ (x : FormulaTree × ℕ). x.1) k))
found_if_ok false a b n m h e = absurd (cc)

found_ok : (o : Option FormulaTree) (n : ℕ) (a : FormulaTree) (m : ℕ) → found o n ≡ Ok (a, m) → (fits a ≡ true) × (o ≡ Some a) × (m ≡ n + 1)
found_ok None n a m e = absurd (cc)
found_ok (Some b) n a m e = let k = found_if_ok (fits b) b a n m refl e in (k.0, ap Some k.1, k.2)

continued_ok : (w : Walk) (next : FormulaTree → ℕ → Walk) (r : FormulaTree × ℕ) → continued w next ≡ Ok r → (f : FormulaTree) × (k : ℕ) × (w ≡ Ok (f, k)) × (next f k ≡ Ok r)
continued_ok (Ok x) next r e = (x.0, x.1, refl, e)
continued_ok (Err place) next r e = absurd (cc)

one_ok : (w : Walk) (rule : FormulaTree → Option FormulaTree) (a : FormulaTree) (m : ℕ) → continued w (λ f k. found (rule f) k) ≡ Ok (a, m)
    → (f : FormulaTree) × (k : ℕ) × (w ≡ Ok (f, k)) × (fits a ≡ true) × (rule f ≡ Some a) × (m ≡ k + 1)
one_ok w rule a m e =
    let u = continued_ok w (λ f k. found (rule f) k) (a, m) e in
    let v = found_ok (rule u.0) u.1 a m u.3 in
    (u.0, u.1, u.2, v.0, v.1, v.2)

two_ok : (w : Walk) (onward : ℕ → Walk) (rule : FormulaTree → FormulaTree → Option FormulaTree) (a : FormulaTree) (m : ℕ)
    → continued w (λ f k. continued (onward k) (λ g l. found (rule f g) l)) ≡ Ok (a, m)
    → (f : FormulaTree) × (k : ℕ) × (g : FormulaTree) × (l : ℕ) × (w ≡ Ok (f, k)) × (onward k ≡ Ok (g, l)) × (fits a ≡ true) × (rule f g ≡ Some a) × (m ≡ l + 1)
two_ok w onward rule a m e =
    let u = continued_ok w (λ f k. continued (onward k) (λ g l. found (rule f g) l)) (a, m) e in
    let v = one_ok (onward u.1) (rule u.0) a m u.3 in
    (u.0, u.1, v.0, v.1, u.2, v.2, v.3, v.4, v.5)

sides_ok : (f : FormulaTree) (place : ℕ) (next : FormulaTree → FormulaTree → Walk) (r : FormulaTree × ℕ) → with_sides f place next ≡ Ok r
    → (a : FormulaTree) × (b : FormulaTree) × (f ≡ joined or_else a b) × (next a b ≡ Ok r)
sides_ok (joined or_else a b) place next r e = (a, b, refl, e)
sides_ok f place next r e = absurd (cc)

body_ok : (f : FormulaTree) (place : ℕ) (next : Sort → FormulaTree → Walk) (r : FormulaTree × ℕ) → with_body f place next ≡ Ok r
    → (s : Sort) × (a : FormulaTree) × (f ≡ quantified there_is s a) × (next s a ≡ Ok r)
body_ok (quantified there_is s a) place next r e = (s, a, refl, e)
body_ok f place next r e = absurd (cc)

if_ok : (t : Bool) (w : Walk) (place : ℕ) (r : FormulaTree × ℕ) → (if t then w else Err place) ≡ Ok r → (t ≡ true) × (w ≡ Ok r)
if_ok true w place r e = (refl, e)
if_ok false w place r e = absurd (cc)

-- the number after a node and its parts
after_one : (n p k m : ℕ) → k ≡ n + p → m ≡ k + 1 → m ≡ n + (1 + p)
after_one n p k m h e = omega (arith, h, e)

after_two : (n p q k l m : ℕ) → k ≡ n + p → l ≡ k + q → m ≡ l + 1 → m ≡ n + (1 + p + q)
after_two n p q k l m h i e = omega (arith, h, i, e)

-- What the walk gives is the formula of the proof.
pub has : (names : List Decl) (variables : List Sort) (hypotheses : List FormulaTree) (p : ProofTree) (n : ℕ) (a : FormulaTree) (m : ℕ)
    → walked names variables hypotheses p n ≡ Ok (a, m) → Has names variables hypotheses p a × (m ≡ n + proof_nodes p)
has names variables hypotheses (hypothesis k) n a m e =
    let u = found_ok (slice_get hypotheses k) n a m e in ((u.0, u.1), u.2)
has names variables hypotheses (lambda a p) n c m e =
    let t = if_ok (is_assumable names variables a) (continued (walked names variables (a ∷ hypotheses) p n) (λ b k. found (Some (joined implies a b)) k)) (n + proof_nodes p) (c, m) e in
    let u = one_ok (walked names variables (a ∷ hypotheses) p n) (λ b. Some (joined implies a b)) c m t.1 in
    let i = has names variables (a ∷ hypotheses) p n u.0 u.1 u.2 in
    let whole : joined implies a u.0 ≡ c = cc (u.4) in
    ((u.3, (and_parts (fits a) (well_sorted names variables a) t.0).1, u.0, i.0, sym whole), after_one n (proof_nodes p) u.1 m i.1 u.5)
has names variables hypotheses (application p q) n c m e =
    let u = two_ok (walked names variables hypotheses p n) (λ k. walked names variables hypotheses q k) (λ f g. of_two names variables (application p q) f g) c m e in
    let i = has names variables hypotheses p n u.0 u.1 u.4 in
    let j = has names variables hypotheses q u.1 u.2 u.3 u.5 in
    ((u.6, u.2, subst (λ x. Has names variables hypotheses p x) (applied_ok u.0 u.2 c u.7) i.0, j.0), after_two n (proof_nodes p) (proof_nodes q) u.1 u.3 m i.1 j.1 u.8)
has names variables hypotheses (general s p) n c m e =
    let u = one_ok (walked names (s ∷ variables) (raised hypotheses) p n) (λ a. Some (quantified for_all s a)) c m e in
    let i = has names (s ∷ variables) (raised hypotheses) p n u.0 u.1 u.2 in
    let whole : quantified for_all s u.0 ≡ c = cc (u.4) in
    ((u.3, u.0, i.0, sym whole), after_one n (proof_nodes p) u.1 m i.1 u.5)
has names variables hypotheses (special p t) n c m e =
    let u = one_ok (walked names variables hypotheses p n) (λ f. of_one names variables (special p t) f) c m e in
    let i = has names variables hypotheses p n u.0 u.1 u.2 in
    let r = special_ok names variables t u.0 c u.4 in
    ((u.3, r.0, r.1, subst (λ x. Has names variables hypotheses p x) r.2 i.0, r.3, r.4), after_one n (proof_nodes p) u.1 m i.1 u.5)
has names variables hypotheses (pair p q) n c m e =
    let u = two_ok (walked names variables hypotheses p n) (λ k. walked names variables hypotheses q k) (λ f g. of_two names variables (pair p q) f g) c m e in
    let i = has names variables hypotheses p n u.0 u.1 u.4 in
    let j = has names variables hypotheses q u.1 u.2 u.3 u.5 in
    let whole : joined and_also u.0 u.2 ≡ c = cc (u.7) in
    ((u.6, u.0, u.2, i.0, j.0, sym whole), after_two n (proof_nodes p) (proof_nodes q) u.1 u.3 m i.1 j.1 u.8)
has names variables hypotheses (first p) n c m e =
    let u = one_ok (walked names variables hypotheses p n) (λ f. of_one names variables (first p) f) c m e in
    let i = has names variables hypotheses p n u.0 u.1 u.2 in
    let r = first_ok u.0 c u.4 in
    ((u.3, r.0, subst (λ x. Has names variables hypotheses p x) r.1 i.0), after_one n (proof_nodes p) u.1 m i.1 u.5)
has names variables hypotheses (second p) n c m e =
    let u = one_ok (walked names variables hypotheses p n) (λ f. of_one names variables (second p) f) c m e in
    let i = has names variables hypotheses p n u.0 u.1 u.2 in
    let r = second_ok u.0 c u.4 in
    ((u.3, r.0, subst (λ x. Has names variables hypotheses p x) r.1 i.0), after_one n (proof_nodes p) u.1 m i.1 u.5)
has names variables hypotheses (left_of b p) n c m e =
    let u = one_ok (walked names variables hypotheses p n) (λ f. of_one names variables (left_of b p) f) c m e in
    let i = has names variables hypotheses p n u.0 u.1 u.2 in
    let r = given_ok (well_sorted names variables b) (joined or_else u.0 b) c u.4 in
    ((u.3, r.0, u.0, i.0, r.1), after_one n (proof_nodes p) u.1 m i.1 u.5)
has names variables hypotheses (right_of a p) n c m e =
    let u = one_ok (walked names variables hypotheses p n) (λ f. of_one names variables (right_of a p) f) c m e in
    let i = has names variables hypotheses p n u.0 u.1 u.2 in
    let r = given_ok (well_sorted names variables a) (joined or_else a u.0) c u.4 in
    ((u.3, r.0, u.0, i.0, r.1), after_one n (proof_nodes p) u.1 m i.1 u.5)
has names variables hypotheses (by_cases p q r) n c m e =
    let u = continued_ok (walked names variables hypotheses p n) _ (c, m) e in
    let i = has names variables hypotheses p n u.0 u.1 u.2 in
    let d = sides_ok u.0 (u.1 + proof_nodes q + proof_nodes r) _ (c, m) u.3 in
    let v = continued_ok (walked names variables (d.0 ∷ hypotheses) q u.1) _ (c, m) d.3 in
    let j = has names variables (d.0 ∷ hypotheses) q u.1 v.0 v.1 v.2 in
    let w = one_ok (walked names variables (d.1 ∷ hypotheses) r v.1) (λ g. of_cases v.0 g) c m v.3 in
    let k = has names variables (d.1 ∷ hypotheses) r v.1 w.0 w.1 w.2 in
    let g = given_ok (same_formula v.0 w.0) v.0 c w.4 in
    let left : v.0 ≡ c = sym g.1 in
    let right : w.0 ≡ c = sym (formula_is v.0 w.0 g.0) ∙ left in
    let end : m ≡ n + (1 + proof_nodes p + proof_nodes q + proof_nodes r) = omega (arith, i.1, j.1, k.1, w.5) in
    ((w.3, d.0, d.1, subst (λ x. Has names variables hypotheses p x) d.2 i.0, subst (λ x. Has names variables (d.0 ∷ hypotheses) q x) left j.0, subst (λ x. Has names variables (d.1 ∷ hypotheses) r x) right k.0), end)
has names variables hypotheses (pack s a t p) n c m e =
    let u = one_ok (walked names variables hypotheses p n) (λ f. of_one names variables (pack s a t p) f) c m e in
    let i = has names variables hypotheses p n u.0 u.1 u.2 in
    let r = given_ok (well_sorted names (s ∷ variables) a && (has_sort (sort_of names variables t) s && same_formula (instance a t 0) u.0)) (quantified there_is s a) c u.4 in
    let x = and_parts (well_sorted names (s ∷ variables) a) (has_sort (sort_of names variables t) s && same_formula (instance a t 0) u.0) r.0 in
    let y = and_parts (has_sort (sort_of names variables t) s) (same_formula (instance a t 0) u.0) x.1 in
    ((u.3, x.0, sort_known (sort_of names variables t) s y.0, subst (λ x. Has names variables hypotheses p x) (sym (formula_is (instance a t 0) u.0 y.1)) i.0, r.1), after_one n (proof_nodes p) u.1 m i.1 u.5)
has names variables hypotheses (unpack p q) n c m e =
    let u = continued_ok (walked names variables hypotheses p n) _ (c, m) e in
    let i = has names variables hypotheses p n u.0 u.1 u.2 in
    let d = body_ok u.0 (u.1 + proof_nodes q) _ (c, m) u.3 in
    let w = one_ok (walked names (d.0 ∷ variables) (d.1 ∷ raised hypotheses) q u.1) (λ g. of_unpacked g) c m d.3 in
    let j = has names (d.0 ∷ variables) (d.1 ∷ raised hypotheses) q u.1 w.0 w.1 w.2 in
    ((w.3, d.0, d.1, subst (λ x. Has names variables hypotheses p x) d.2 i.0, subst (λ x. Has names (d.0 ∷ variables) (d.1 ∷ raised hypotheses) q x) (sym (unpacked_ok w.0 c w.4)) j.0), after_two n (proof_nodes p) (proof_nodes q) u.1 w.1 m i.1 j.1 w.5)
has names variables hypotheses (from_bottom a p) n c m e =
    let u = one_ok (walked names variables hypotheses p n) (λ f. of_one names variables (from_bottom a p) f) c m e in
    let i = has names variables hypotheses p n u.0 u.1 u.2 in
    let r = given_ok (well_sorted names variables a && same_formula bottom u.0) a c u.4 in
    let x = and_parts (well_sorted names variables a) (same_formula bottom u.0) r.0 in
    ((u.3, x.0, subst (λ x. Has names variables hypotheses p x) (sym (formula_is bottom u.0 x.1)) i.0, r.1), after_one n (proof_nodes p) u.1 m i.1 u.5)
has names variables hypotheses (stable p) n c m e =
    let u = one_ok (walked names variables hypotheses p n) (λ f. of_one names variables (stable p) f) c m e in
    let i = has names variables hypotheses p n u.0 u.1 u.2 in
    ((u.3, subst (λ x. Has names variables hypotheses p x) (twice_denied_ok (denied_of u.0) u.0 c refl u.4) i.0), after_one n (proof_nodes p) u.1 m i.1 u.5)
has names variables hypotheses (reflexive t) n c m e =
    let u = found_ok (of_leaf names variables hypotheses (reflexive t)) n c m e in
    let r = given_ok (has_sort (sort_of names variables t) sort.Int) (holds (binary equal t t)) c u.1 in
    ((u.0, sort_known (sort_of names variables t) sort.Int r.0, r.1), u.2)
has names variables hypotheses (rewriting a p q) n c m e =
    let u = two_ok (walked names variables hypotheses p n) (λ k. walked names variables hypotheses q k) (λ f g. of_two names variables (rewriting a p q) f g) c m e in
    let i = has names variables hypotheses p n u.0 u.1 u.4 in
    let j = has names variables hypotheses q u.1 u.2 u.3 u.5 in
    let r = rewritten_ok names variables a u.0 u.2 c u.7 in
    ((u.6, r.3, r.0, r.1, subst (λ x. Has names variables hypotheses p x) r.2 i.0, subst (λ x. Has names variables hypotheses q x) r.4 j.0, r.5), after_two n (proof_nodes p) (proof_nodes q) u.1 u.3 m i.1 j.1 u.8)
has names variables hypotheses (an_axiom i) n a m e =
    let u = found_ok (axiom_at i) n a m e in ((u.0, u.1), u.2)
has names variables hypotheses (induction a) n c m e =
    let u = found_ok (of_leaf names variables hypotheses (induction a)) n c m e in
    let r = given_ok (well_sorted names (sort.Int ∷ variables) a) (induction_form a) c u.1 in
    ((u.0, r.0, r.1), u.2)
has names variables hypotheses (computing t) n c m e =
    let u = found_ok (of_leaf names variables hypotheses (computing t)) n c m e in
    let r = given_ok (has_sort (sort_of names variables t) sort.Bool && computes (computed t)) (holds t) c u.1 in
    let x = and_parts (has_sort (sort_of names variables t) sort.Bool) (computes (computed t)) r.0 in
    ((u.0, sort_known (sort_of names variables t) sort.Bool x.0, computes_ok (computed t) x.1, r.1), u.2)
has names variables hypotheses (ring_equal s t) n c m e =
    let u = found_ok (of_leaf names variables hypotheses (ring_equal s t)) n c m e in
    let r = given_ok (has_sort (sort_of names variables s) sort.Int && (has_sort (sort_of names variables t) sort.Int && is_ring_equation s t)) (holds (binary equal s t)) c u.1 in
    let x = and_parts (has_sort (sort_of names variables s) sort.Int) (has_sort (sort_of names variables t) sort.Int && is_ring_equation s t) r.0 in
    let y = and_parts (has_sort (sort_of names variables t) sort.Int) (is_ring_equation s t) x.1 in
    ((u.0, sort_known (sort_of names variables s) sort.Int x.0, sort_known (sort_of names variables t) sort.Int y.0, ring_is s t y.1, r.1), u.2)
has names variables hypotheses p n a m e = absurd (cc)

-- Conversely, the walk gives the formula that a proof has.

one_more : (n p : ℕ) → n + p + 1 ≡ n + (1 + p)
one_more n p = omega arith

two_more : (n p q : ℕ) → n + p + q + 1 ≡ n + (1 + p + q)
two_more n p q = omega arith

three_more : (n p q r : ℕ) → n + p + q + r + 1 ≡ n + (1 + p + q + r)
three_more n p q r = omega arith

moved : (n p q : ℕ) → n + p + (1 + q) ≡ n + (1 + p + q)
moved n p q = omega arith

-- a formula that fits is found
found_fits : (a : FormulaTree) (n m : ℕ) → fits a ≡ true → n + 1 ≡ m → found (Some a) n ≡ Ok (a, m)
found_fits a n m fit e = rw fit (ap (λ x. Ok (a, x)) e)

given_true : (t : Bool) (a : FormulaTree) → t ≡ true → given t a ≡ Some a
given_true t a e = rw e refl

one_finds : (w : Walk) (rule : FormulaTree → Option FormulaTree) (f a : FormulaTree) (n p : ℕ) → w ≡ Ok (f, n + p) → rule f ≡ Some a → fits a ≡ true
    → continued w (λ g k. found (rule g) k) ≡ Ok (a, n + (1 + p))
one_finds w rule f a n p e r fit = rw (e, r) (found_fits a (n + p) (n + (1 + p)) fit (one_more n p))

two_finds : (w : Walk) (onward : ℕ → Walk) (rule : FormulaTree → FormulaTree → Option FormulaTree) (f g a : FormulaTree) (n p q : ℕ)
    → w ≡ Ok (f, n + p) → onward (n + p) ≡ Ok (g, n + p + q) → rule f g ≡ Some a → fits a ≡ true
    → continued w (λ f k. continued (onward k) (λ g l. found (rule f g) l)) ≡ Ok (a, n + (1 + p + q))
two_finds w onward rule f g a n p q e h r fit = rw (e, h, r) (found_fits a (n + p + q) (n + (1 + p + q)) fit (two_more n p q))

pub finds : (names : List Decl) (variables : List Sort) (hypotheses : List FormulaTree) (p : ProofTree) (a : FormulaTree) (n : ℕ)
    → Has names variables hypotheses p a → walked names variables hypotheses p n ≡ Ok (a, n + proof_nodes p)
finds names variables hypotheses (hypothesis k) a n h = rw h.1 (found_fits a n (n + 1) h.0 refl)
finds names variables hypotheses (lambda a p) c n h =
    let fit : fits a ≡ true = fits_left_side implies a h.2 (subst (λ x. fits x ≡ true) h.4 h.0) in
    rw (and_from (fits a) (well_sorted names variables a) fit h.1)
    (one_finds (walked names variables (a ∷ hypotheses) p n) (λ b. Some (joined implies a b)) h.2 c n (proof_nodes p) (finds names variables (a ∷ hypotheses) p h.2 n h.3) (ap Some (sym h.4)) h.0)
finds names variables hypotheses (application p q) c n h =
    two_finds (walked names variables hypotheses p n) (λ k. walked names variables hypotheses q k) (λ f g. of_two names variables (application p q) f g) (joined implies h.1 c) h.1 c n (proof_nodes p) (proof_nodes q)
    (finds names variables hypotheses p (joined implies h.1 c) n h.2) (finds names variables hypotheses q h.1 (n + proof_nodes p) h.3) (given_true (same_formula h.1 h.1) c (formula_same h.1)) h.0
finds names variables hypotheses (general s p) c n h =
    one_finds (walked names (s ∷ variables) (raised hypotheses) p n) (λ a. Some (quantified for_all s a)) h.1 c n (proof_nodes p) (finds names (s ∷ variables) (raised hypotheses) p h.1 n h.2) (ap Some (sym h.3)) h.0
finds names variables hypotheses (special p t) c n h =
    one_finds (walked names variables hypotheses p n) (λ f. of_one names variables (special p t) f) (quantified for_all h.1 h.2) c n (proof_nodes p) (finds names variables hypotheses p (quantified for_all h.1 h.2) n h.3)
    (given_true (has_sort (sort_of names variables t) h.1) (instance h.2 t 0) (known_sort (sort_of names variables t) h.1 h.4) ∙ ap Some (sym h.5)) h.0
finds names variables hypotheses (pair p q) c n h =
    two_finds (walked names variables hypotheses p n) (λ k. walked names variables hypotheses q k) (λ f g. of_two names variables (pair p q) f g) h.1 h.2 c n (proof_nodes p) (proof_nodes q)
    (finds names variables hypotheses p h.1 n h.3) (finds names variables hypotheses q h.2 (n + proof_nodes p) h.4) (ap Some (sym h.5)) h.0
finds names variables hypotheses (first p) c n h =
    one_finds (walked names variables hypotheses p n) (λ f. of_one names variables (first p) f) (joined and_also c h.1) c n (proof_nodes p) (finds names variables hypotheses p (joined and_also c h.1) n h.2) refl h.0
finds names variables hypotheses (second p) c n h =
    one_finds (walked names variables hypotheses p n) (λ f. of_one names variables (second p) f) (joined and_also h.1 c) c n (proof_nodes p) (finds names variables hypotheses p (joined and_also h.1 c) n h.2) refl h.0
finds names variables hypotheses (left_of b p) c n h =
    one_finds (walked names variables hypotheses p n) (λ f. of_one names variables (left_of b p) f) h.2 c n (proof_nodes p) (finds names variables hypotheses p h.2 n h.3)
    (given_true (well_sorted names variables b) (joined or_else h.2 b) h.1 ∙ ap Some (sym h.4)) h.0
finds names variables hypotheses (right_of a p) c n h =
    one_finds (walked names variables hypotheses p n) (λ f. of_one names variables (right_of a p) f) h.2 c n (proof_nodes p) (finds names variables hypotheses p h.2 n h.3)
    (given_true (well_sorted names variables a) (joined or_else a h.2) h.1 ∙ ap Some (sym h.4)) h.0
finds names variables hypotheses (by_cases p q r) c n h =
    rw (finds names variables hypotheses p (joined or_else h.1 h.2) n h.3, finds names variables (h.1 ∷ hypotheses) q c (n + proof_nodes p) h.4, finds names variables (h.2 ∷ hypotheses) r c (n + proof_nodes p + proof_nodes q) h.5, formula_same c)
    (found_fits c (n + proof_nodes p + proof_nodes q + proof_nodes r) (n + (1 + proof_nodes p + proof_nodes q + proof_nodes r)) h.0 (three_more n (proof_nodes p) (proof_nodes q) (proof_nodes r)))
finds names variables hypotheses (pack s a t p) c n h =
    let good = and_from (well_sorted names (s ∷ variables) a) (has_sort (sort_of names variables t) s && same_formula (instance a t 0) (instance a t 0)) h.1 (and_from (has_sort (sort_of names variables t) s) (same_formula (instance a t 0) (instance a t 0)) (known_sort (sort_of names variables t) s h.2) (formula_same (instance a t 0))) in
    one_finds (walked names variables hypotheses p n) (λ f. of_one names variables (pack s a t p) f) (instance a t 0) c n (proof_nodes p) (finds names variables hypotheses p (instance a t 0) n h.3)
    (given_true (well_sorted names (s ∷ variables) a && (has_sort (sort_of names variables t) s && same_formula (instance a t 0) (instance a t 0))) (quantified there_is s a) good ∙ ap Some (sym h.4)) h.0
finds names variables hypotheses (unpack p q) c n h =
    rw (finds names variables hypotheses p (quantified there_is h.1 h.2) n h.3)
    (one_finds (walked names (h.1 ∷ variables) (h.2 ∷ raised hypotheses) q (n + proof_nodes p)) (λ g. of_unpacked g) (shift c 1 0) c (n + proof_nodes p) (proof_nodes q)
    (finds names (h.1 ∷ variables) (h.2 ∷ raised hypotheses) q (shift c 1 0) (n + proof_nodes p) h.4) (unpacked c (shift c 1 0) refl) h.0
    ∙ ap (λ x. Ok (c, x)) (moved n (proof_nodes p) (proof_nodes q)))
finds names variables hypotheses (from_bottom a p) c n h =
    one_finds (walked names variables hypotheses p n) (λ f. of_one names variables (from_bottom a p) f) bottom c n (proof_nodes p) (finds names variables hypotheses p bottom n h.2)
    (given_true (well_sorted names variables a && true) a (and_from (well_sorted names variables a) true h.1 refl) ∙ ap Some (sym h.3)) h.0
finds names variables hypotheses (stable p) a n h =
    one_finds (walked names variables hypotheses p n) (λ f. of_one names variables (stable p) f) (not_so (not_so a)) a n (proof_nodes p) (finds names variables hypotheses p (not_so (not_so a)) n h.1) refl h.0
finds names variables hypotheses (reflexive t) c n h =
    rw (known_sort (sort_of names variables t) sort.Int h.1)
    (subst (λ x. found (Some (holds (binary equal t t))) n ≡ Ok (x, n + 1)) (sym h.2) (found_fits (holds (binary equal t t)) n (n + 1) (subst (λ x. fits x ≡ true) h.2 h.0) refl))
finds names variables hypotheses (rewriting a p q) c n h =
    let good = and_from (well_sorted names (sort.Int ∷ variables) a) (same_formula (instance a h.2 0) (instance a h.2 0)) h.1 (formula_same (instance a h.2 0)) in
    two_finds (walked names variables hypotheses p n) (λ k. walked names variables hypotheses q k) (λ f g. of_two names variables (rewriting a p q) f g) (holds (binary equal h.2 h.3)) (instance a h.2 0) c n (proof_nodes p) (proof_nodes q)
    (finds names variables hypotheses p (holds (binary equal h.2 h.3)) n h.4) (finds names variables hypotheses q (instance a h.2 0) (n + proof_nodes p) h.5)
    (given_true (well_sorted names (sort.Int ∷ variables) a && same_formula (instance a h.2 0) (instance a h.2 0)) (instance a h.3 0) good ∙ ap Some (sym h.6)) h.0
finds names variables hypotheses (an_axiom i) a n h = rw h.1 (found_fits a n (n + 1) h.0 refl)
finds names variables hypotheses (induction a) c n h =
    rw h.1 (subst (λ x. found (Some (induction_form a)) n ≡ Ok (x, n + 1)) (sym h.2) (found_fits (induction_form a) n (n + 1) (subst (λ x. fits x ≡ true) h.2 h.0) refl))
finds names variables hypotheses (computing t) c n h =
    rw (known_sort (sort_of names variables t) sort.Bool h.1, h.2)
    (subst (λ x. found (Some (holds t)) n ≡ Ok (x, n + 1)) (sym h.3) (found_fits (holds t) n (n + 1) (subst (λ x. fits x ≡ true) h.3 h.0) refl))
finds names variables hypotheses (ring_equal s t) c n h =
    rw (known_sort (sort_of names variables s) sort.Int h.1, known_sort (sort_of names variables t) sort.Int h.2, is_ring s t h.3)
    (subst (λ x. found (Some (holds (binary equal s t))) n ≡ Ok (x, n + 1)) (sym h.4) (found_fits (holds (binary equal s t)) n (n + 1) (subst (λ x. fits x ≡ true) h.4 h.0) refl))
finds names variables hypotheses p a n h = absurd h

-- a walk does not both give a formula and end at a place
apart : (r : FormulaTree × ℕ) (place : ℕ) → ◌≡◌ {A = Walk} (Ok r) (Err place) → ⊥
apart r place e = absurd (cc)

-- where the walk ends at a place, the proof has no formula
pub none_at : (names : List Decl) (variables : List Sort) (hypotheses : List FormulaTree) (p : ProofTree) (n place : ℕ)
    → walked names variables hypotheses p n ≡ Err place → (a : FormulaTree) → Has names variables hypotheses p a → ⊥
none_at names variables hypotheses p n place e a h = apart (a, n + proof_nodes p) place (sym (finds names variables hypotheses p a n h) ∙ e)

-- the formula that the walk gives may be a hypothesis
pub walked_assumable : (names : List Decl) (variables : List Sort) (hypotheses : List FormulaTree) (p : ProofTree) (n : ℕ) (a : FormulaTree) (m : ℕ)
    → AreAssumable names variables hypotheses → walked names variables hypotheses p n ≡ Ok (a, m) → is_assumable names variables a ≡ true
walked_assumable names variables hypotheses p n a m all e = assumable names variables hypotheses p a all (has names variables hypotheses p n a m e).0
