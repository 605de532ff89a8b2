-- Substitution at a place that is above every index.
use Rattle.std.proofs.Common.{◌≡◌, ℕ, suc, ◌+◌, ◌-◌, ◌≤◌, ◌<◌, ◌^◌, nat_lt, ◌==◌, Bool, true, false, ◌||◌, if◌then◌else◌, ⊎_elim, arith, ap, ap₂, sym, ◌∙◌, refl, subst, ◌≢◌}
use Rattle.std.proofs.lemmas.Bool.{lt-ltb, le-ltb}
use Rattle.std.proofs.lemmas.Bool.Decides.{eqb_tells}
use Rattle.sorted_terms.specs.Tree.{TermTree, name, index, integer, boolean, unary, binary}
use Rattle.sorted_terms.specs.Substitution.{shift_term, instance_term, replace_term, occurs_term, HasTermIndicesBelow}

differs : (k place : ℕ) → k < place → (k == place) ≡ false
differs k place h = ⊎_elim (λ (e : ((k == place) ≡ true) × (k ≡ place)). absurd (omega (arith, h, e.1))) (λ (e : ((k == place) ≡ false) × (k ≢ place)). e.0) (eqb_tells k place)

module _ (bound : ℕ) where
  pub term_shift_past : (t : TermTree) (by above : ℕ) → bound ≤ above → HasTermIndicesBelow bound t → shift_term t by above ≡ t
  term_shift_past (name x) by above h i = refl
  term_shift_past (index k) by above h i = rw (lt-ltb k above (omega (arith, h, i))) refl
  term_shift_past (integer n) by above h i = refl
  term_shift_past (boolean b) by above h i = refl
  term_shift_past (unary sign t) by above h i = ap (unary sign) (term_shift_past t by above h i)
  term_shift_past (binary sign s t) by above h i = ap₂ (binary sign) (term_shift_past s by above h i.0) (term_shift_past t by above h i.1)

  pub term_instance_past : (t inserted : TermTree) (place : ℕ) → bound ≤ place → HasTermIndicesBelow bound t → instance_term t inserted place ≡ t
  term_instance_past (name x) inserted place h i = refl
  term_instance_past (index k) inserted place h i = rw (lt-ltb k place (omega (arith, h, i))) refl
  term_instance_past (integer n) inserted place h i = refl
  term_instance_past (boolean b) inserted place h i = refl
  term_instance_past (unary sign t) inserted place h i = ap (unary sign) (term_instance_past t inserted place h i)
  term_instance_past (binary sign s t) inserted place h i = ap₂ (binary sign) (term_instance_past s inserted place h i.0) (term_instance_past t inserted place h i.1)

  pub term_absent_past : (t : TermTree) (place : ℕ) → bound ≤ place → HasTermIndicesBelow bound t → occurs_term place t ≡ false
  term_absent_past (name x) place h i = refl
  term_absent_past (index k) place h i = differs k place (omega (arith, h, i))
  term_absent_past (integer n) place h i = refl
  term_absent_past (boolean b) place h i = refl
  term_absent_past (unary sign t) place h i = term_absent_past t place h i
  term_absent_past (binary sign s t) place h i = rw (term_absent_past s place h i.0) (term_absent_past t place h i.1)

  -- where a shift from 0 on keeps the indices below what it adds, there are none
  same_shift : (t : TermTree) (by other : ℕ) → bound ≤ by → HasTermIndicesBelow bound (shift_term t by 0) → shift_term t other 0 ≡ shift_term t by 0
  same_shift (name x) by other h i = refl
  same_shift (index k) by other h i =
      let j : k + by < bound = subst (λ b. (if b then k else k + by) < bound) (le-ltb k 0 (omega arith)) i in
      absurd (omega (arith, h, j))
  same_shift (integer n) by other h i = refl
  same_shift (boolean b) by other h i = refl
  same_shift (unary sign t) by other h i = ap (unary sign) (same_shift t by other h i)
  same_shift (binary sign s t) by other h i = ap₂ (binary sign) (same_shift s by other h i.0) (same_shift t by other h i.1)

  pub term_replaced_past : (t : TermTree) (x : ℕ) (inserted : TermTree) (under other : ℕ) → bound ≤ under → HasTermIndicesBelow bound (replace_term t x inserted under) → replace_term t x inserted other ≡ replace_term t x inserted under
  term_replaced_past (name y) x inserted under other h i = by (y == x) i where
    by : (b : Bool) → HasTermIndicesBelow bound (if b then shift_term inserted under 0 else name y) → (if b then shift_term inserted other 0 else name y) ≡ (if b then shift_term inserted under 0 else name y)
    by true i = same_shift inserted under other h i
    by false i = refl
  term_replaced_past (index k) x inserted under other h i = refl
  term_replaced_past (integer n) x inserted under other h i = refl
  term_replaced_past (boolean b) x inserted under other h i = refl
  term_replaced_past (unary sign t) x inserted under other h i = ap (unary sign) (term_replaced_past t x inserted under other h i)
  term_replaced_past (binary sign s t) x inserted under other h i = ap₂ (binary sign) (term_replaced_past s x inserted under other h i.0) (term_replaced_past t x inserted under other h i.1)

-- A term without an index is as it was after a shift and after an instance, and has none after a
-- replacement by another such term.
raised : (t : TermTree) (bound : ℕ) → HasTermIndicesBelow 0 t → HasTermIndicesBelow bound t
raised (name x) bound i = tt
raised (index k) bound i = absurd (omega (arith, i))
raised (integer n) bound i = tt
raised (boolean b) bound i = tt
raised (unary sign t) bound i = raised t bound i
raised (binary sign s t) bound i = (raised s bound i.0, raised t bound i.1)

pub closed_shift : (t : TermTree) (by above bound : ℕ) → HasTermIndicesBelow 0 t → HasTermIndicesBelow bound (shift_term t by above)
closed_shift t by above bound i = subst (HasTermIndicesBelow bound) (sym (term_shift_past 0 t by above (omega arith) i)) (raised t bound i)

pub closed_instance : (t inserted : TermTree) (place bound : ℕ) → HasTermIndicesBelow 0 t → HasTermIndicesBelow bound (instance_term t inserted place)
closed_instance t inserted place bound i = subst (HasTermIndicesBelow bound) (sym (term_instance_past 0 t inserted place (omega arith) i)) (raised t bound i)

pub closed_replacement : (t : TermTree) (x : ℕ) (inserted : TermTree) (under bound : ℕ) → HasTermIndicesBelow 0 t → HasTermIndicesBelow 0 inserted → HasTermIndicesBelow bound (replace_term t x inserted under)
closed_replacement (name y) x inserted under bound i j = by (y == x) where
  by : (b : Bool) → HasTermIndicesBelow bound (if b then shift_term inserted under 0 else name y)
  by true = closed_shift inserted under 0 bound j
  by false = tt
closed_replacement (index k) x inserted under bound i j = absurd (omega (arith, i))
closed_replacement (integer n) x inserted under bound i j = tt
closed_replacement (boolean b) x inserted under bound i j = tt
closed_replacement (unary sign t) x inserted under bound i j = closed_replacement t x inserted under bound i j
closed_replacement (binary sign s t) x inserted under bound i j = (closed_replacement s x inserted under bound i.0 j, closed_replacement t x inserted under bound i.1 j)
