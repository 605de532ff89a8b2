-- Lookups in a list with a front part, in a list with items put in behind the front, and after a write.
use Rattle.std.proofs.Common.{◌≡◌, ◌≢◌, ℕ, zero, suc, ◌+◌, ◌-◌, ◌<◌, ◌≤◌, List, [], ◌∷◌, ◌++◌, length, Some, slice_get, set, nat_lt, if◌then◌else◌, arith, ap, refl, ⊎_elim}
use Rattle.std.proofs.lemmas.Bool.{cases_lt, lt-ltb, le-ltb}

-- what stands in the front is what stands there before any other rest
pub get_front : {A : Type 0} (front back other : List A) (k : ℕ) → k < length front → slice_get (front ++ back) k ≡ slice_get (front ++ other) k
get_front [] back other k h = absurd (omega arith)
get_front (x ∷ front) back other zero h = refl
get_front (x ∷ front) back other (suc k) h = get_front front back other k (omega arith)

get_past : {A : Type 0} (new back : List A) (k : ℕ) → slice_get (new ++ back) (k + length new) ≡ slice_get back k
get_past [] back k = let same : k + 0 ≡ k = omega arith in ap (λ n. slice_get back n) same
get_past (x ∷ new) back k =
    let same : k + length (x ∷ new) ≡ suc (k + length new) = omega arith in
    rw same (get_past new back k)

-- what stands behind the front stands further back by as many as are put in
pub get_behind : {A : Type 0} (front new back : List A) (k : ℕ) → length front ≤ k → slice_get (front ++ (new ++ back)) (k + length new) ≡ slice_get (front ++ back) k
get_behind [] new back k h = get_past new back k
get_behind (x ∷ front) new back zero h = absurd (omega arith)
get_behind (x ∷ front) new back (suc k) h =
    let same : suc k + length new ≡ suc (k + length new) = omega arith in
    rw same (get_behind front new back k (omega arith))

-- a shifted index finds what the index finds where nothing is put in
pub get_shifted : {A : Type 0} (front new back : List A) (k : ℕ) → slice_get (front ++ (new ++ back)) (if nat_lt k (length front) then k else k + length new) ≡ slice_get (front ++ back) k
get_shifted front new back k =
    ⊎_elim
    (λ (h : k < length front). rw (lt-ltb k (length front) h) (get_front front (new ++ back) back k h))
    (λ (h : length front ≤ k). rw (le-ltb k (length front) h) (get_behind front new back k h))
    (cases_lt k (length front))

-- the item right behind the front
pub get_next : {A : Type 0} (front : List A) (x : A) (back : List A) → slice_get (front ++ x ∷ back) (length front) ≡ Some x
get_next [] x back = refl
get_next (y ∷ front) x back = get_next front x back

-- what stands further back stands one place earlier where the item behind the front is left out
pub get_without : {A : Type 0} (front : List A) (x : A) (back : List A) (k : ℕ) → length front < k → slice_get (front ++ back) (k - 1) ≡ slice_get (front ++ x ∷ back) k
get_without [] x back zero h = absurd (omega arith)
get_without [] x back (suc k) h = let same : suc k - 1 ≡ k = omega arith in rw same refl
get_without (y ∷ front) x back zero h = absurd (omega arith)
get_without (y ∷ front) x back (suc zero) h = absurd (omega arith)
get_without (y ∷ front) x back (suc (suc k)) h =
    let below : suc (suc k) - 1 ≡ suc (suc k - 1) = omega arith in
    rw below (get_without front x back (suc k) (omega arith))

-- the item that was written
pub get_written : {A : Type 0} (items : List A) (i : ℕ) (x : A) → i < length items → slice_get (set items i x) i ≡ Some x
get_written [] i x h = absurd (omega arith)
get_written (y ∷ items) zero x h = refl
get_written (y ∷ items) (suc i) x h = get_written items i x (omega arith)

-- every other item is as it was
pub get_kept : {A : Type 0} (items : List A) (i k : ℕ) (x : A) → k ≢ i → slice_get (set items i x) k ≡ slice_get items k
get_kept [] i k x h = refl
get_kept (y ∷ items) zero zero x h = absurd (h refl)
get_kept (y ∷ items) zero (suc k) x h = refl
get_kept (y ∷ items) (suc i) zero x h = refl
get_kept (y ∷ items) (suc i) (suc k) x h = get_kept items i k x (λ e. h (ap suc e))
