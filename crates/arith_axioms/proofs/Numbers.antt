-- Which numbers the table of axioms has.
use Rattle.std.proofs.Common.{◌≡◌, ℕ, zero, suc, ◌≤◌, ◌<◌, nat_le, Bool, true, false, Option, None, Some, is_some, arith, ap, sym, refl, ◌∙◌, ⊎_elim}
use Rattle.std.proofs.lemmas.Bool.{cases_lt}
use Rattle.std.proofs.lemmas.Option.{slice_get_past, slice_get-get_or}
use Rattle.formulas.specs.Tree.{FormulaTree, bottom}
use Rattle.arith_axioms.specs.Axioms.{axioms, axiom_at}

pub absent : (i : ℕ) → 26 < i → axiom_at i ≡ None
unfolding axiom_at
absent zero h = refl
absent (suc i) h = slice_get_past axioms i (omega (arith, h))

pub none_zero : axiom_at 0 ≡ None
unfolding axiom_at
none_zero = refl

present : (i : ℕ) → 1 ≤ i → i ≤ 26 → is_some (axiom_at i) ≡ true
unfolding axiom_at
present zero h k = absurd (omega (arith, h))
present (suc i) h k = ap is_some (slice_get-get_or axioms i bottom (omega (arith, k)))

-- the numbers from 1 on that are at most 26, and no number below 1
pub from_one : (i : ℕ) → 1 ≤ i → nat_le i 26 ≡ is_some (axiom_at i)
from_one i h =
    ⊎_elim
    (λ (k : 26 < i). grind (arith, absent i k))
    (λ (k : i ≤ 26). grind (arith, present i h k))
    (cases_lt 26 i)

pub below_one : (i : ℕ) → i < 1 → nat_le 1 i ≡ is_some (axiom_at i)
below_one zero h = sym (ap is_some none_zero)
below_one (suc i) h = absurd (omega (arith, h))

-- which numbers these are, and that the others have no axiom
some_none : ◌≡◌ {A = Bool} false true → ⊥
some_none e = absurd (cc)

pub listed_first : (i : ℕ) → is_some (axiom_at i) ≡ true → 1 ≤ i
listed_first zero h = absurd (some_none (sym (ap is_some none_zero) ∙ h))
listed_first (suc i) h = omega arith

pub listed_last : (i : ℕ) → is_some (axiom_at i) ≡ true → i ≤ 26
listed_last i h =
    ⊎_elim
    (λ (k : 26 < i). absurd (some_none (sym (ap is_some (absent i k)) ∙ h)))
    (λ (k : i ≤ 26). k)
    (cases_lt 26 i)

pub not_listed : (o : Option FormulaTree) → is_some o ≡ false → None ≡ o
not_listed None h = refl
not_listed (Some a) h = absurd (cc)
