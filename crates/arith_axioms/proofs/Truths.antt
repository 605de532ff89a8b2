-- The axioms are true, one by one, and the induction form by induction on the integer.
use mathlib.Core.Path.{transport}
use Rattle.std.proofs.Common.{◌≡◌, ℕ, zero, suc, ◌*◌, ℤ, pos, negsuc, ◌+ℤ◌, ◌-ℤ◌, ◌*ℤ◌, unsigned_abs, Bool, true, false, ◌&&◌, ◌||◌, not, List, [], ◌∷◌, Some, slice_get, arith, subst, sym, ap, refl, ◌∙◌}
use Rattle.std.proofs.Math.IntN.{pos-*ℤ-pos}
use Rattle.std.proofs.lemmas.Int.{ints, unsigned_abs-mul}
use lib.Signed.{lt_z, le_z}
use Rattle.ck_base.specs.declared.decl.Sort.TheVariants as sort
use Rattle.sorted_terms.specs.Tree.{index}
use Rattle.sorted_terms.specs.Values.{Value, number, truth, IsOf, State, Environment, same_integer}
use Rattle.formulas.specs.Tree.{FormulaTree}
use Rattle.formulas.specs.Truth.{Truth, AllTrue}
use Rattle.formulas.proofs.Substituting.{truth_shift, truth_instance}
use Rattle.formulas.specs.Substitution.{shift}
use Rattle.arith_axioms.specs.Axioms.{axioms, axiom_at, induction, next_at, 0', 1', ◌+'◌}
use Rattle.arith_axioms.proofs.Integers.{distribute_left_minus}

-- what is true of every integer, and of every truth value, is true of every value of the sort

over_integers : (P : Value → Type 0) → ((n : ℤ) → P (number n)) → (v : Value) → IsOf sort.Int v → P v
over_integers P f (number n) o = f n
over_integers P f (truth b) o = absurd o

over_truths : (P : Value → Type 0) → ((b : Bool) → P (truth b)) → (v : Value) → IsOf sort.Bool v → P v
over_truths P f (number n) o = absurd o
over_truths P f (truth b) o = f b

clash : false ≡ true → ⊥
clash e = absurd (cc)

both_ways : (a b : Bool) → a ≡ true → b ≡ true → (a && b) ≡ true
both_ways true b h k = k
both_ways false b h k = h

both_parts : (a b : Bool) → (a && b) ≡ true → (a ≡ true) × (b ≡ true)
both_parts true b e = (refl, e)
both_parts false b e = absurd (clash e)

-- the test is true where its failure is absurd
decided : (b : Bool) → (b ≡ true → ⊥) → b ≡ false
decided true h = absurd (h refl)
decided false h = refl

refuted : (b : Bool) → b ≡ false → b ≡ true → ⊥
refuted b e f = clash (sym e ∙ f)

-- Integers

reflexive : (x : ℤ) → le_z x x ≡ true
reflexive x = grind (arith, ints)

transitive : (x y z : ℤ) → le_z x y ≡ true → le_z y z ≡ true → le_z x z ≡ true
transitive x y z h k = grind (arith, ints)

one_of : (x y : ℤ) → le_z x y ≡ false → le_z y x ≡ true
one_of x y h = grind (arith, ints)

ordered : (x y : ℤ) → (le_z x y ≡ true → ⊥) × (le_z y x ≡ true → ⊥) → ⊥
ordered x y h = h.1 (one_of x y (decided (le_z x y) h.0))

sums : (x y u v : ℤ) → le_z x y ≡ true → le_z u v ≡ true → le_z (x +ℤ u) (y +ℤ v) ≡ true
sums x y u v h k = grind (arith, ints)

natural : (d : ℤ) → le_z (pos 0) d ≡ true → (n : ℕ) × (d ≡ pos n)
natural (pos n) h = (n, refl)
natural (negsuc n) h = absurd (clash h)

gap : (x y : ℤ) → le_z x y ≡ true → le_z (pos 0) (y -ℤ x) ≡ true
gap x y h = grind (arith, ints)

no_gap : (x y d : ℤ) (n : ℕ) → d ≡ y -ℤ x → d ≡ pos n → le_z x y ≡ true
no_gap x y d n e f = grind (arith, ints)

products : (x y z : ℤ) → le_z (pos 0) z ≡ true → le_z x y ≡ true → le_z (x *ℤ z) (y *ℤ z) ≡ true
products x y z h k =
    let factor = natural z h in
    let wide = natural (y -ℤ x) (gap x y k) in
    no_gap (x *ℤ z) (y *ℤ z) ((y -ℤ x) *ℤ z) (wide.0 * factor.0) (distribute_left_minus y x z) (ap (λ n. n *ℤ z) wide.1 ∙ ap (λ n. pos wide.0 *ℤ n) factor.1 ∙ pos-*ℤ-pos wide.0 factor.0)

next_within : (x y : ℤ) → lt_z x y ≡ true → le_z (x +ℤ pos 1) y ≡ true
next_within x y h = grind (arith, ints)

within_next : (x y : ℤ) → le_z (x +ℤ pos 1) y ≡ true → lt_z x y ≡ true
within_next x y h = grind (arith, ints)

irreflexive : (x : ℤ) → lt_z x x ≡ false
irreflexive x = grind (arith, ints)

above : (x y : ℤ) → le_z x y ≡ false → lt_z y x ≡ true
above x y h = grind (arith, ints)

not_below : (x y : ℤ) → lt_z x y ≡ false → le_z y x ≡ true
not_below x y h = grind (arith, ints)

not_back : (x y : ℤ) → lt_z x y ≡ true → le_z y x ≡ false
not_back x y h = grind (arith, ints)

below : (x y : ℤ) → lt_z x y ≡ true → le_z x y ≡ true
below x y h = grind (arith, ints)

cancelled : (x y z : ℤ) → le_z (x +ℤ z) (y +ℤ z) ≡ true → le_z x y ≡ true
cancelled x y z h = grind (arith, ints)

zero_or : (m n : ℕ) → m * n ≡ 0 → (m ≡ 0 → ⊥) × (n ≡ 0 → ⊥) → ⊥
zero_or zero n e h = h.0 refl
zero_or (suc m) zero e h = h.1 refl
zero_or (suc m) (suc n) e h = absurd (grind arith)

same_as_zero : (x : ℤ) → unsigned_abs x ≡ 0 → same_integer x (pos 0) ≡ true
same_as_zero (pos zero) e = refl
same_as_zero (pos (suc n)) e = absurd (omega arith)
same_as_zero (negsuc n) e = absurd (omega arith)

squeezed : (x : ℤ) → le_z x (pos 0) ≡ true → le_z (pos 0) x ≡ true → unsigned_abs x ≡ 0
squeezed x h k = grind (arith, ints)

zero_same : (x : ℤ) → same_integer x (pos 0) ≡ true → unsigned_abs x ≡ 0
zero_same x e = let parts = both_parts (le_z x (pos 0)) (le_z (pos 0) x) e in squeezed x parts.0 parts.1

no_zero_divisors : (x y : ℤ) → same_integer (x *ℤ y) (pos 0) ≡ true → (same_integer x (pos 0) ≡ true → ⊥) × (same_integer y (pos 0) ≡ true → ⊥) → ⊥
no_zero_divisors x y e h =
    zero_or (unsigned_abs x) (unsigned_abs y) (sym (unsigned_abs-mul x y) ∙ zero_same (x *ℤ y) e) ((λ f. h.0 (same_as_zero x f)), (λ f. h.1 (same_as_zero y f)))

-- Truth values

denied : (b : Bool) → not b ≡ true → b ≡ true → ⊥
denied true e f = clash e
denied false e f = clash f

not_true : (b : Bool) → (b ≡ true → ⊥) → not b ≡ true
not_true true h = absurd (h refl)
not_true false h = refl

either_part : (a b : Bool) → (a || b) ≡ true → (a ≡ true → ⊥) × (b ≡ true → ⊥) → ⊥
either_part true b e h = h.0 refl
either_part false b e h = h.1 e

left_part : (a b : Bool) → a ≡ true → (a || b) ≡ true
left_part true b e = refl
left_part false b e = absurd (clash e)

right_part : (a b : Bool) → b ≡ true → (a || b) ≡ true
right_part true b e = refl
right_part false b e = e

-- The table

all_axioms : (state : State) (environment : Environment) → AllTrue axioms state environment
all_axioms state environment = (
  over_integers _ reflexive,
  (
    over_integers _ (λ x. over_integers _ (λ y. over_integers _ (λ z. transitive x y z))),
    (
      over_integers _ (λ x. over_integers _ (λ y h k. both_ways (le_z x y) (le_z y x) h k)),
      (
        over_integers _ (λ x. over_integers _ (λ y. ordered x y)),
        (
          over_integers _ (λ x. over_integers _ (λ y. over_integers _ (λ u. over_integers _ (λ v. sums x y u v)))),
          (
            over_integers _ (λ x. over_integers _ (λ y. over_integers _ (λ z. products x y z))),
            (
              over_integers _ (λ x. over_integers _ (λ y. next_within x y)),
              (
                over_integers _ (λ x. over_integers _ (λ y. within_next x y)),
                (
                  over_integers _ (λ x. refuted (lt_z x x) (irreflexive x)),
                  (
                    over_integers _ (λ x. over_integers _ (λ y h. above x y (decided (le_z x y) h))),
                    (
                      over_integers _ (λ x. over_integers _ (λ y h. not_below x y (decided (lt_z x y) h))),
                      (
                        over_integers _ (λ x. over_integers _ (λ y h. refuted (le_z y x) (not_back x y h))),
                        (
                          over_integers _ (λ x. over_integers _ (λ y h. (both_parts (le_z x y) (le_z y x) h).0)),
                          (
                            over_integers _ (λ x. over_integers _ (λ y. below x y)),
                            (
                              over_integers _ (λ x. over_integers _ (λ y. no_zero_divisors x y)),
                              (
                                over_integers _ (λ x. over_integers _ (λ y. over_integers _ (λ z. cancelled x y z))),
                                (
                                  over_integers _ (λ x. over_integers _ (λ y h. both_ways (le_z y x) (le_z x y) (both_parts (le_z x y) (le_z y x) h).1 (both_parts (le_z x y) (le_z y x) h).0)),
                                  (
                                    refl,
                                    (
                                      clash,
                                      (
                                        over_truths _ denied,
                                        (
                                          over_truths _ not_true,
                                          (
                                            over_truths _ (λ a. over_truths _ (λ b. both_parts a b)),
                                            (
                                              over_truths _ (λ a. over_truths _ (λ b. both_ways a b)),
                                              (
                                                over_truths _ (λ a. over_truths _ (λ b. either_part a b)),
                                                (
                                                  over_truths _ (λ a. over_truths _ (λ b. left_part a b)),
                                                  (
                                                    over_truths _ (λ a. over_truths _ (λ b. right_part a b)),
                                                    tt,
                                                  ),
                                                ),
                                              ),
                                            ),
                                          ),
                                        ),
                                      ),
                                    ),
                                  ),
                                ),
                              ),
                            ),
                          ),
                        ),
                      ),
                    ),
                  ),
                ),
              ),
            ),
          ),
        ),
      ),
    ),
  ),
)

one_of_all : (formulas : List FormulaTree) (i : ℕ) (a : FormulaTree) (state : State) (environment : Environment) → AllTrue formulas state environment → slice_get formulas i ≡ Some a → Truth a state environment
one_of_all [] i a state environment h e = absurd (cc)
one_of_all (b ∷ formulas) zero a state environment h e = let same : b ≡ a = cc in subst (λ x. Truth x state environment) same h.0
one_of_all (b ∷ formulas) (suc i) a state environment h e = one_of_all formulas i a state environment h.1 e

pub axiom_true : (i : ℕ) (a : FormulaTree) (state : State) (environment : Environment) → axiom_at i ≡ Some a → Truth a state environment
unfolding axiom_at
axiom_true zero a state environment e = absurd (cc)
axiom_true (suc i) a state environment e = one_of_all axioms i a state environment (all_axioms state environment) e

-- Induction

-- the formula about the next integer is true where the formula is about the integer plus 1
next_true : (a : FormulaTree) (n : ℤ) (state : State) (environment : Environment) → Truth (next_at 0 a) state (number n ∷ environment) ≡ Truth a state (number (n +ℤ pos 1) ∷ environment)
next_true a n state environment =
    truth_instance (shift a 1 1) (index 0 +' 1') state [] (number n ∷ environment) ∙ truth_shift a state (number (n +ℤ pos 1) ∷ []) (number n ∷ []) environment

not_negative : (n : ℕ) → le_z (pos 0) (pos n) ≡ true
not_negative n = grind (arith, ints)

step_true : (n : ℕ) → pos n +ℤ pos 1 ≡ pos (suc n)
step_true n = omega (arith, ints)

module _ (a : FormulaTree) (state : State) (environment : Environment) (first : Truth a state (number (pos 0) ∷ environment)) (step : (n : ℤ) → le_z (pos 0) n ≡ true → Truth a state (number n ∷ environment) → Truth a state (number (n +ℤ pos 1) ∷ environment)) where
  of_naturals : (n : ℕ) → Truth a state (number (pos n) ∷ environment)
  of_naturals zero = first
  of_naturals (suc n) = subst (λ m. Truth a state (number m ∷ environment)) (step_true n) (step (pos n) (not_negative n) (of_naturals n))

  of_integers : (n : ℤ) → le_z (pos 0) n ≡ true → Truth a state (number n ∷ environment)
  of_integers (pos n) h = of_naturals n
  of_integers (negsuc n) h = absurd (clash h)

pub induction_true : (a : FormulaTree) (state : State) (environment : Environment) → Truth (induction a) state environment
induction_true a state environment = λ first step.
    over_integers _ (of_integers a state environment
    (transport (truth_instance a 0' state [] environment) first)
    (λ n h x. transport (next_true a n state environment) (step (number n) tt h x)))
