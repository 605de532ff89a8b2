-- Where every total is 0 the value is 0, by taking one product after the other out of the polynomial.
use Rattle.std.proofs.Common.{◌≡◌, ◌≢◌, ℕ, zero, suc, ◌==◌, ◌≤◌, ℤ, pos, ◌+ℤ◌, ◌*ℤ◌, neg_ℤ, Bool, true, false, ◌&&◌, List, [], ◌∷◌, ◌++◌, length, Some, if◌then◌else◌, arith, subst, sym, ap, ap₂, refl, ◌∙◌, ⊎_elim}
use Rattle.std.proofs.Math.IntN.{zero-*ℤ}
use Rattle.std.proofs.lemmas.Int.{ints}
use Rattle.std.proofs.lemmas.Bool.Decides.{eqb_tells}
use lib.Signed.{le_z}
use Rattle.ck_base.specs.declared.decl.Sort.{Sort}
use Rattle.ck_base.specs.declared.decl.Sort.TheVariants as sort
use Rattle.ck_base.specs.declared.decl.Decl.{Decl}
use Rattle.sorted_terms.specs.Tree.{equal, TermTree, binary}
use Rattle.sorted_terms.specs.Values.{Value, number, truth, IsOf, as_number, State, Environment, same_value, value, AreOf, IsState}
use Rattle.sorted_terms.specs.Sorts.{sort_of}
use Rattle.sorted_terms.proofs.Substituting.{value_sorted}
use Rattle.formulas.specs.Tree.{holds}
use Rattle.formulas.specs.Truth.{Truth}
use Rattle.arith_axioms.specs.declared.factor.Factor.{Factor}
use Rattle.arith_axioms.specs.declared.factor.Factor.TheVariants.{Name, Index}
use Rattle.arith_axioms.specs.Polynomials.{Product, Polynomial, same_factor, same_product, negated, expansion, total_in, IsSamePolynomial, product_value, polynomial_value}
use Rattle.arith_axioms.proofs.Integers.{distribute_left}
use Rattle.arith_axioms.proofs.Expansions.{appended_value, negated_value, kept}

-- The test for equal products

clash : false ≡ true → ⊥
clash e = absurd (cc)

factors_same : (f g : Factor) → same_factor f g ≡ true → f ≡ g
factors_same (Name m) (Name n) e = ⊎_elim (λ (h : ((m == n) ≡ true) × (m ≡ n)). ap Name h.1) (λ (h : ((m == n) ≡ false) × (m ≢ n)). absurd (clash (sym h.0 ∙ e))) (eqb_tells m n)
factors_same (Name m) (Index n) e = absurd (clash e)
factors_same (Index m) (Name n) e = absurd (clash e)
factors_same (Index m) (Index n) e = ⊎_elim (λ (h : ((m == n) ≡ true) × (m ≡ n)). ap Index h.1) (λ (h : ((m == n) ≡ false) × (m ≢ n)). absurd (clash (sym h.0 ∙ e))) (eqb_tells m n)

same_number : (m : ℕ) → (m == m) ≡ true
same_number m = ⊎_elim (λ (h : ((m == m) ≡ true) × (m ≡ m)). h.0) (λ (h : ((m == m) ≡ false) × (m ≢ m)). absurd (h.1 refl)) (eqb_tells m m)

factor_itself : (f : Factor) → same_factor f f ≡ true
factor_itself (Name m) = same_number m
factor_itself (Index m) = same_number m

both_parts : (a b : Bool) → (a && b) ≡ true → (a ≡ true) × (b ≡ true)
both_parts true b e = (refl, e)
both_parts false b e = absurd (clash e)

pub products_same : (p q : Product) → same_product p q ≡ true → p ≡ q
products_same [] [] e = refl
products_same [] (g ∷ q) e = absurd (clash e)
products_same (f ∷ p) [] e = absurd (clash e)
products_same (f ∷ p) (g ∷ q) e =
    let parts = both_parts (same_factor f g) (same_product p q) e in
    ap₂ (λ x y. x ∷ y) (factors_same f g parts.0) (products_same p q parts.1)

pub product_itself : (p : Product) → same_product p p ≡ true
product_itself [] = refl
product_itself (f ∷ p) = rw (factor_itself f, product_itself p) refl

-- One product taken out

without : Product → Polynomial → Polynomial
without p [] = []
without p ((c, q) ∷ es) = if same_product p q then without p es else (c, q) ∷ without p es

shorter : (p : Product) (es : Polynomial) → length (without p es) ≤ length es
unfolding without
shorter p [] = omega arith
shorter p ((c, q) ∷ es) = counted (same_product p q) (shorter p es)
  where
    counted : (b : Bool) → length (without p es) ≤ length es → length (if b then without p es else (c, q) ∷ without p es) ≤ length ((c, q) ∷ es)
    counted true h = omega (arith, h)
    counted false h = omega (arith, h)

gather : (c v t r s : ℤ) → s ≡ t *ℤ v +ℤ r → c *ℤ v +ℤ s ≡ (c +ℤ t) *ℤ v +ℤ r
gather c v t r s e = both (c *ℤ v) (t *ℤ v) ((c +ℤ t) *ℤ v) r s (distribute_left c t v) e
  where
    both : (a b w r s : ℤ) → w ≡ a +ℤ b → s ≡ b +ℤ r → a +ℤ s ≡ w +ℤ r
    both a b w r s f g = omega (arith, ints)

pass : (a b r s : ℤ) → s ≡ b +ℤ r → a +ℤ s ≡ b +ℤ (a +ℤ r)
pass a b r s e = omega (arith, ints)

nothing : (v : ℤ) → pos 0 ≡ pos 0 *ℤ v +ℤ pos 0
nothing v = rw (zero-*ℤ v) refl

-- the value is the product's total times its value, and the value of the rest
taken : (p : Product) (es : Polynomial) (state : State) (environment : Environment) → polynomial_value es state environment ≡ total_in es p *ℤ product_value p state environment +ℤ polynomial_value (without p es) state environment
unfolding without
taken p [] state environment = nothing (product_value p state environment)
taken p ((c, q) ∷ es) state environment = split (same_product p q) refl (taken p es state environment)
  where
    split : (b : Bool) → same_product p q ≡ b → polynomial_value es state environment ≡ total_in es p *ℤ product_value p state environment +ℤ polynomial_value (without p es) state environment → c *ℤ product_value q state environment +ℤ polynomial_value es state environment ≡ (if b then c +ℤ total_in es p else total_in es p) *ℤ product_value p state environment +ℤ polynomial_value (if b then without p es else (c, q) ∷ without p es) state environment
    split true e h =
        ap (λ r. c *ℤ product_value r state environment +ℤ polynomial_value es state environment) (sym (products_same p q e))
        ∙ gather c (product_value p state environment) (total_in es p) (polynomial_value (without p es) state environment) (polynomial_value es state environment) h
    split false e h = pass (c *ℤ product_value q state environment) (total_in es p *ℤ product_value p state environment) (polynomial_value (without p es) state environment) (polynomial_value es state environment) h

-- its total in the rest is 0
gone : (p : Product) (es : Polynomial) → total_in (without p es) p ≡ pos 0
unfolding without
gone p [] = refl
gone p ((c, q) ∷ es) = split (same_product p q) refl (gone p es)
  where
    split : (b : Bool) → same_product p q ≡ b → total_in (without p es) p ≡ pos 0 → total_in (if b then without p es else (c, q) ∷ without p es) p ≡ pos 0
    split true e h = h
    split false e h = rw e h

-- every other total stays
untouched : (p r : Product) (es : Polynomial) → same_product r p ≡ false → total_in (without p es) r ≡ total_in es r
unfolding without
untouched p r [] other = refl
untouched p r ((c, q) ∷ es) other = split (same_product p q) refl (untouched p r es other)
  where
    split : (b : Bool) → same_product p q ≡ b → total_in (without p es) r ≡ total_in es r → total_in (if b then without p es else (c, q) ∷ without p es) r ≡ (if same_product r q then c +ℤ total_in es r else total_in es r)
    split true e h = rw (sym (ap (same_product r) (products_same p q e)) ∙ other) h
    split false e h = ap (λ n. if same_product r q then c +ℤ n else n) h

-- so every total of the rest is 0 where every total is
all_zero : (p : Product) (es : Polynomial) → ((r : Product) → total_in es r ≡ pos 0) → (r : Product) → total_in (without p es) r ≡ pos 0
all_zero p es h r = by_test (same_product r p) refl
  where
    by_test : (b : Bool) → same_product r p ≡ b → total_in (without p es) r ≡ pos 0
    by_test true e = subst (λ q. total_in (without p es) q ≡ pos 0) (sym (products_same r p e)) (gone p es)
    by_test false e = untouched p r es e ∙ h r

vanish : (a v s : ℤ) → a ≡ pos 0 → s ≡ pos 0 → a *ℤ v +ℤ s ≡ pos 0
vanish a v s e f = rw (e, f, zero-*ℤ v) refl

first_gone : (c : ℤ) (p : Product) (es : Polynomial) → without p ((c, p) ∷ es) ≡ without p es
unfolding without
first_gone c p es = rw (product_itself p) refl

zero_value : (n : ℕ) (es : Polynomial) (state : State) (environment : Environment) → length es ≤ n → ((r : Product) → total_in es r ≡ pos 0) → polynomial_value es state environment ≡ pos 0
zero_value n [] state environment fits h = refl
zero_value zero ((c, p) ∷ es) state environment fits h = absurd (omega arith)
zero_value (suc n) ((c, p) ∷ es) state environment fits h =
    taken p ((c, p) ∷ es) state environment
    ∙ vanish (total_in ((c, p) ∷ es) p) (product_value p state environment) (polynomial_value (without p ((c, p) ∷ es)) state environment) (h p)
    (zero_value n (without p ((c, p) ∷ es)) state environment
    (subst (λ fs. length fs ≤ n) (sym (first_gone c p es)) (omega (arith, shorter p es, fits)))
    (all_zero p ((c, p) ∷ es) h))

-- Two polynomials with the same totals

pub appended_total : (es fs : Polynomial) (p : Product) → total_in (es ++ fs) p ≡ total_in es p +ℤ total_in fs p
appended_total [] fs p = from_zero (total_in fs p)
  where
    from_zero : (a : ℤ) → a ≡ pos 0 +ℤ a
    from_zero a = omega (arith, ints)
appended_total ((c, q) ∷ es) fs p = counted (same_product p q) (appended_total es fs p)
  where
    regroup : (a b c d : ℤ) → b ≡ c +ℤ d → a +ℤ b ≡ (a +ℤ c) +ℤ d
    regroup a b c d e = omega (arith, ints)

    counted : (b : Bool) → total_in (es ++ fs) p ≡ total_in es p +ℤ total_in fs p → (if b then c +ℤ total_in (es ++ fs) p else total_in (es ++ fs) p) ≡ (if b then c +ℤ total_in es p else total_in es p) +ℤ total_in fs p
    counted true h = regroup c (total_in (es ++ fs) p) (total_in es p) (total_in fs p) h
    counted false h = h

pub negated_total : (es : Polynomial) (p : Product) → total_in (negated es) p ≡ neg_ℤ (total_in es p)
negated_total [] p = refl
negated_total ((c, q) ∷ es) p = counted (same_product p q) (negated_total es p)
  where
    opposite : (c a b : ℤ) → a ≡ neg_ℤ b → neg_ℤ c +ℤ a ≡ neg_ℤ (c +ℤ b)
    opposite c a b e = omega (arith, ints)

    counted : (b : Bool) → total_in (negated es) p ≡ neg_ℤ (total_in es p) → (if b then neg_ℤ c +ℤ total_in (negated es) p else total_in (negated es) p) ≡ neg_ℤ (if b then c +ℤ total_in es p else total_in es p)
    counted true h = opposite c (total_in (negated es) p) (total_in es p) h
    counted false h = h

apart_zero : (a b c d : ℤ) → a ≡ b +ℤ c → c ≡ neg_ℤ d → b ≡ d → a ≡ pos 0
apart_zero a b c d e f g = omega (arith, ints)

no_difference : (a b c d : ℤ) → a ≡ b +ℤ c → c ≡ neg_ℤ d → a ≡ pos 0 → b ≡ d
no_difference a b c d e f g = omega (arith, ints)

pub same_values : (es fs : Polynomial) (state : State) (environment : Environment) → ((p : Product) → total_in es p ≡ total_in fs p) → polynomial_value es state environment ≡ polynomial_value fs state environment
same_values es fs state environment h =
    no_difference (polynomial_value (es ++ negated fs) state environment) (polynomial_value es state environment) (polynomial_value (negated fs) state environment) (polynomial_value fs state environment)
    (appended_value es (negated fs) state environment)
    (negated_value fs state environment)
    (zero_value (length (es ++ negated fs)) (es ++ negated fs) state environment (omega arith)
    (λ p. apart_zero (total_in (es ++ negated fs) p) (total_in es p) (total_in (negated fs) p) (total_in fs p) (appended_total es (negated fs) p) (negated_total fs p) (h p)))

pub one_value : (s t : TermTree) → IsSamePolynomial s t → (state : State) (environment : Environment) → as_number (value s state environment) ≡ as_number (value t state environment)
one_value s t h state environment =
    kept s state environment ∙ same_values (expansion s) (expansion t) state environment h ∙ sym (kept t state environment)

reflexive : (x : ℤ) → le_z x x ≡ true
reflexive x = grind (arith, ints)

both_sides : (m n : ℤ) → m ≡ n → (le_z m n && le_z n m) ≡ true
both_sides m n e = rw (e, reflexive n) refl

equal_values : (u v : Value) → IsOf sort.Int u → IsOf sort.Int v → as_number u ≡ as_number v → same_value u v ≡ true
equal_values (number m) (number n) o p e = both_sides m n e
equal_values (number m) (truth b) o p e = absurd p
equal_values (truth a) v o p e = absurd o

pub equal_terms : (names : List Decl) (variables : List Sort) (s t : TermTree) → sort_of names variables s ≡ Some sort.Int → sort_of names variables t ≡ Some sort.Int → IsSamePolynomial s t → (state : State) (environment : Environment) → IsState names state → AreOf variables environment → Truth (holds (binary equal s t)) state environment
equal_terms names variables s t sorted_s sorted_t h state environment is_state are_of =
    equal_values (value s state environment) (value t state environment)
    (value_sorted names variables s sort.Int sorted_s state environment is_state are_of)
    (value_sorted names variables t sort.Int sorted_t state environment is_state are_of)
    (one_value s t h state environment)
