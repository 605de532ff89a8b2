-- A product of two numbers that end at a bound ends there too.
use Rattle.std.proofs.Common.{◌≡◌, ℕ, zero, suc, ◌+◌, ◌*◌, ◌≤◌, ◌<◌, ◌⊎◌, min, arith, ⊎_elim, refl, sym, ap, ap₂, subst, ◌∙◌}
use Rattle.std.proofs.Math.Nat.{min-zero, zero-min, min-eq_left, min-eq_right, le-min, mul-le-mul_left, mul-one, mul-zero, mul_comm, le_trans}
use Rattle.std.proofs.lemmas.Bool.{cases_lt}

-- a factor that is not 0 takes nothing away
kept : (a b : ℕ) → 0 < b → a ≤ a * b
kept a b h = subst (λ n. n ≤ a * b) (mul-one a) (mul-le-mul_left a h)

-- a factor at the bound or above brings the product there, where the other is not 0
large : (a b m : ℕ) → suc m ≤ a → min (suc m * min b (suc m)) (suc m) ≡ min (a * b) (suc m)
large a zero m h = rw (zero-min (suc m), mul-zero (suc m), mul-zero a) refl
large a (suc b) m h =
    let positive : 0 < min (suc b) (suc m) = omega arith in
    let both : suc m ≤ a * suc b = le_trans h (kept a (suc b) (omega arith)) in
    min-eq_right (kept (suc m) (min (suc b) (suc m)) positive) ∙ sym (min-eq_right both)

pub saturated_product : (a b m : ℕ) → min (min a m * min b m) m ≡ min (a * b) m
saturated_product a b zero = min-zero (min a zero * min b zero) ∙ sym (min-zero (a * b))
saturated_product a b (suc m) =
    ⊎_elim
    (λ (h : a < suc m).
    ⊎_elim
    (λ (k : b < suc m). ap₂ (λ x y. min (x * y) (suc m)) (min-eq_left (omega (arith, h))) (min-eq_left (omega (arith, k))))
    (λ (k : suc m ≤ b).
    ap₂ (λ x y. min (x * y) (suc m)) (min-eq_left (omega (arith, h))) (min-eq_right k)
    ∙ ap (λ n. min n (suc m)) (mul_comm a (suc m))
    ∙ ap (λ n. min (suc m * n) (suc m)) (sym (min-eq_left {n = a} {m = suc m} (omega (arith, h))))
    ∙ large b a m k
    ∙ ap (λ n. min n (suc m)) (mul_comm b a))
    (cases_lt b (suc m)))
    (λ (h : suc m ≤ a). ap (λ n. min (n * min b (suc m)) (suc m)) (min-eq_right h) ∙ large a b m h)
    (cases_lt a (suc m))
