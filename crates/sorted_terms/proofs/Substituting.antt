-- Substitution keeps values and sorts, by induction on the term; only names and indices are of interest.
use Rattle.std.proofs.Common.{◌≡◌, ◌≢◌, ℕ, zero, suc, ◌+◌, ◌-◌, ◌<◌, ◌≤◌, Bool, true, false, ◌&&◌, if◌then◌else◌, eqb, ltb, List, [], ◌∷◌, ◌++◌, length, Option, Some, None, slice_get, set, arith, ap, sym, subst, ◌∙◌, refl, ⊎_elim}
use Rattle.std.specs.Option.{option_map, unwrap_or}
use Rattle.std.proofs.lemmas.Bool.{cases_lt, lt-ltb, le-ltb}
use Rattle.std.proofs.lemmas.Bool.Decides.{eqb_tells}
use Rattle.ck_base.specs.declared.decl.Sort.{Sort}
use Rattle.ck_base.specs.declared.decl.Sort.TheVariants as sort
use Rattle.ck_base.specs.declared.decl.Decl.{Decl}
use Rattle.sorted_terms.specs.Tree.{UnarySign, minus, denial, BinarySign, plus, difference, times, equal, less, at_most, both, either, TermTree, name, index, integer, boolean, unary, binary}
use Rattle.sorted_terms.specs.Values.{Value, IsOf, default, State, Environment, value_at, unary_value, binary_value, value, AreOf, IsState}
use Rattle.sorted_terms.specs.Sorts.{unary_takes, binary_takes, binary_gives, has_sort, sort_of}
use Rattle.sorted_terms.specs.Substitution.{shift_term, instance_at, instance_term, replace_term, occurs_term}
use Rattle.sorted_terms.proofs.Lookups.{get_front, get_shifted, get_next, get_without, get_written, get_kept}

-- Values

pub value_shift : (t : TermTree) (state : State) (front new back : Environment) → value (shift_term t (length new) (length front)) state (front ++ (new ++ back)) ≡ value t state (front ++ back)
value_shift (name x) state front new back = refl
value_shift (index k) state front new back = ap (λ o. unwrap_or o default) (get_shifted front new back k)
value_shift (integer n) state front new back = refl
value_shift (boolean b) state front new back = refl
value_shift (unary sign t) state front new back = ap (unary_value sign) (value_shift t state front new back)
value_shift (binary sign s t) state front new back = λ i. binary_value sign (value_shift s state front new back i) (value_shift t state front new back i)

value_instance_at : (k : ℕ) (inserted : TermTree) (state : State) (front back : Environment) → value (instance_at k inserted (length front)) state (front ++ back) ≡ value_at (front ++ value inserted state back ∷ back) k
value_instance_at k inserted state front back =
    ⊎_elim
    (λ (h : k < length front). rw (lt-ltb k (length front) h) (ap (λ o. unwrap_or o default) (get_front front back (value inserted state back ∷ back) k h)))
    (λ (h : length front ≤ k). rw (le-ltb k (length front) h)
    (⊎_elim
    (λ (e : (eqb k (length front) ≡ true) × (k ≡ length front)). rw e.0
    (value_shift inserted state [] front back
    ∙ sym (ap (λ n. value_at (front ++ value inserted state back ∷ back) n) e.1 ∙ ap (λ o. unwrap_or o default) (get_next front (value inserted state back) back))))
    (λ (e : (eqb k (length front) ≡ false) × (k ≢ length front)). rw e.0
    (ap (λ o. unwrap_or o default) (get_without front (value inserted state back) back k (omega (arith, h, e.1)))))
    (eqb_tells k (length front))))
    (cases_lt k (length front))

pub value_instance : (t inserted : TermTree) (state : State) (front back : Environment) → value (instance_term t inserted (length front)) state (front ++ back) ≡ value t state (front ++ value inserted state back ∷ back)
value_instance (name x) inserted state front back = refl
value_instance (index k) inserted state front back = value_instance_at k inserted state front back
value_instance (integer n) inserted state front back = refl
value_instance (boolean b) inserted state front back = refl
value_instance (unary sign t) inserted state front back = ap (unary_value sign) (value_instance t inserted state front back)
value_instance (binary sign s t) inserted state front back = λ i. binary_value sign (value_instance s inserted state front back i) (value_instance t inserted state front back i)

value_replaced_name : (y x : ℕ) (inserted : TermTree) (state : State) (front back : Environment) → x < length state → value (replace_term (name y) x inserted (length front)) state (front ++ back) ≡ value_at (set state x (value inserted state back)) y
value_replaced_name y x inserted state front back h =
    ⊎_elim
    (λ (e : (eqb y x ≡ true) × (y ≡ x)). rw e.0
    (value_shift inserted state [] front back
    ∙ sym (ap (λ n. value_at (set state x (value inserted state back)) n) e.1 ∙ ap (λ o. unwrap_or o default) (get_written state x (value inserted state back) h))))
    (λ (e : (eqb y x ≡ false) × (y ≢ x)). rw e.0
    (sym (ap (λ o. unwrap_or o default) (get_kept state x y (value inserted state back) e.1))))
    (eqb_tells y x)

pub value_replaced : (t : TermTree) (x : ℕ) (inserted : TermTree) (state : State) (front back : Environment) → x < length state → value (replace_term t x inserted (length front)) state (front ++ back) ≡ value t (set state x (value inserted state back)) (front ++ back)
value_replaced (name y) x inserted state front back h = value_replaced_name y x inserted state front back h
value_replaced (index k) x inserted state front back h = refl
value_replaced (integer n) x inserted state front back h = refl
value_replaced (boolean b) x inserted state front back h = refl
value_replaced (unary sign t) x inserted state front back h = ap (unary_value sign) (value_replaced t x inserted state front back h)
value_replaced (binary sign s t) x inserted state front back h = λ i. binary_value sign (value_replaced s x inserted state front back h i) (value_replaced t x inserted state front back h i)

-- Sorts

-- the sort of a sign, from the sorts of its parts
unary_sort : UnarySign → Option Sort → Option Sort
unary_sort sign o = if has_sort o (unary_takes sign) then Some (unary_takes sign) else None

binary_sort : BinarySign → Option Sort → Option Sort → Option Sort
binary_sort sign o q = if has_sort o (binary_takes sign) && has_sort q (binary_takes sign) then Some (binary_gives sign) else None

module _ (names : List Decl) where
  pub sort_shift : (t : TermTree) (front new back : List Sort) → sort_of names (front ++ (new ++ back)) (shift_term t (length new) (length front)) ≡ sort_of names (front ++ back) t
  unfolding unary_sort binary_sort
  sort_shift (name x) front new back = refl
  sort_shift (index k) front new back = get_shifted front new back k
  sort_shift (integer n) front new back = refl
  sort_shift (boolean b) front new back = refl
  sort_shift (unary sign t) front new back = ap (unary_sort sign) (sort_shift t front new back)
  sort_shift (binary sign s t) front new back = λ i. binary_sort sign (sort_shift s front new back i) (sort_shift t front new back i)

  module _ (inserted : TermTree) (s : Sort) (back : List Sort) (known : sort_of names back inserted ≡ Some s) where
    sort_instance_at : (k : ℕ) (front : List Sort) → sort_of names (front ++ back) (instance_at k inserted (length front)) ≡ slice_get (front ++ s ∷ back) k
    sort_instance_at k front =
        ⊎_elim
        (λ (h : k < length front). rw (lt-ltb k (length front) h) (get_front front back (s ∷ back) k h))
        (λ (h : length front ≤ k). rw (le-ltb k (length front) h)
        (⊎_elim
        (λ (e : (eqb k (length front) ≡ true) × (k ≡ length front)). rw e.0
        (sort_shift inserted [] front back ∙ known
        ∙ sym (ap (λ n. slice_get (front ++ s ∷ back) n) e.1 ∙ get_next front s back)))
        (λ (e : (eqb k (length front) ≡ false) × (k ≢ length front)). rw e.0
        (get_without front s back k (omega (arith, h, e.1))))
        (eqb_tells k (length front))))
        (cases_lt k (length front))

    pub sort_instance : (t : TermTree) (front : List Sort) → sort_of names (front ++ back) (instance_term t inserted (length front)) ≡ sort_of names (front ++ s ∷ back) t
    unfolding unary_sort binary_sort
    sort_instance (name x) front = refl
    sort_instance (index k) front = sort_instance_at k front
    sort_instance (integer n) front = refl
    sort_instance (boolean b) front = refl
    sort_instance (unary sign t) front = ap (unary_sort sign) (sort_instance t front)
    sort_instance (binary sign u t) front = λ i. binary_sort sign (sort_instance u front i) (sort_instance t front i)

  module _ (x : ℕ) (inserted : TermTree) (back : List Sort) (same : sort_of names back inserted ≡ sort_of names back (name x)) where
    sort_replaced_name : (y : ℕ) (front : List Sort) → sort_of names (front ++ back) (replace_term (name y) x inserted (length front)) ≡ sort_of names (front ++ back) (name y)
    sort_replaced_name y front =
        ⊎_elim
        (λ (e : (eqb y x ≡ true) × (y ≡ x)). rw e.0
        (sort_shift inserted [] front back ∙ same ∙ sym (ap (λ n. sort_of names (front ++ back) (name n)) e.1)))
        (λ (e : (eqb y x ≡ false) × (y ≢ x)). rw e.0 refl)
        (eqb_tells y x)

    pub sort_replaced : (t : TermTree) (front : List Sort) → sort_of names (front ++ back) (replace_term t x inserted (length front)) ≡ sort_of names (front ++ back) t
    unfolding unary_sort binary_sort
    sort_replaced (name y) front = sort_replaced_name y front
    sort_replaced (index k) front = refl
    sort_replaced (integer n) front = refl
    sort_replaced (boolean b) front = refl
    sort_replaced (unary sign t) front = ap (unary_sort sign) (sort_replaced t front)
    sort_replaced (binary sign u t) front = λ i. binary_sort sign (sort_replaced u front i) (sort_replaced t front i)

-- Sorts of values

name_sorted : (names : List Decl) (x : ℕ) (s : Sort) (state : State) → option_map (λ (d : Decl). d.sort) (slice_get names x) ≡ Some s → IsState names state → IsOf s (value_at state x)
name_sorted [] x s state e is = absurd (cc)
name_sorted (d ∷ names) x s [] e is = absurd is
name_sorted (d ∷ names) zero s (v ∷ state) e is = let same : d.sort ≡ s = cc in subst (λ r. IsOf r v) same is.0
name_sorted (d ∷ names) (suc x) s (v ∷ state) e is = name_sorted names x s state e is.1

index_sorted : (variables : List Sort) (k : ℕ) (s : Sort) (environment : Environment) → slice_get variables k ≡ Some s → AreOf variables environment → IsOf s (value_at environment k)
index_sorted [] k s environment e are = absurd (cc)
index_sorted (r ∷ variables) k s [] e are = absurd are
index_sorted (r ∷ variables) zero s (v ∷ environment) e are = let same : r ≡ s = cc in subst (λ r. IsOf r v) same are.0
index_sorted (r ∷ variables) (suc k) s (v ∷ environment) e are = index_sorted variables k s environment e are.1

unary_of : (sign : UnarySign) (v : Value) → IsOf (unary_takes sign) (unary_value sign v)
unary_of minus v = tt
unary_of denial v = tt

binary_of : (sign : BinarySign) (u v : Value) → IsOf (binary_gives sign) (binary_value sign u v)
binary_of plus u v = tt
binary_of difference u v = tt
binary_of times u v = tt
binary_of equal u v = tt
binary_of less u v = tt
binary_of at_most u v = tt
binary_of both u v = tt
binary_of either u v = tt

given_sort : (b : Bool) (r s : Sort) → (if b then Some r else None) ≡ Some s → r ≡ s
given_sort true r s e = cc
given_sort false r s e = absurd (cc)

pub value_sorted : (names : List Decl) (variables : List Sort) (t : TermTree) (s : Sort) → sort_of names variables t ≡ Some s → (state : State) (environment : Environment) → IsState names state → AreOf variables environment → IsOf s (value t state environment)
value_sorted names variables (name x) s e state environment is are = name_sorted names x s state e is
value_sorted names variables (index k) s e state environment is are = index_sorted variables k s environment e are
value_sorted names variables (integer n) s e state environment is are = let same : sort.Int ≡ s = cc in subst (λ r. IsOf r (value (integer n) state environment)) same tt
value_sorted names variables (boolean b) s e state environment is are = let same : sort.Bool ≡ s = cc in subst (λ r. IsOf r (value (boolean b) state environment)) same tt
value_sorted names variables (unary sign t) s e state environment is are =
    subst (λ r. IsOf r (value (unary sign t) state environment)) (given_sort (has_sort (sort_of names variables t) (unary_takes sign)) (unary_takes sign) s e) (unary_of sign (value t state environment))
value_sorted names variables (binary sign u t) s e state environment is are =
    subst (λ r. IsOf r (value (binary sign u t) state environment)) (given_sort (has_sort (sort_of names variables u) (binary_takes sign) && has_sort (sort_of names variables t) (binary_takes sign)) (binary_gives sign) s e) (binary_of sign (value u state environment) (value t state environment))

-- A shift by one is undone

at_undone : (k above : ℕ) (inserted : TermTree) → instance_at (if ltb k above then k else k + 1) inserted above ≡ index k
at_undone k above inserted =
    ⊎_elim
    (λ (h : k < above). rw (lt-ltb k above h) (rw (lt-ltb k above h) refl))
    (λ (h : above ≤ k).
    let beyond : above ≤ k + 1 = omega (arith, h) in
    let same : k + 1 - 1 ≡ k = omega arith in
    rw (le-ltb k above h) (rw (le-ltb (k + 1) above beyond)
    (⊎_elim
    (λ (e : (eqb (k + 1) above ≡ true) × (k + 1 ≡ above)). absurd (omega (arith, h, e.1)))
    (λ (e : (eqb (k + 1) above ≡ false) × (k + 1 ≢ above)). rw e.0 (ap index same))
    (eqb_tells (k + 1) above))))
    (cases_lt k above)

pub term_undone : (t inserted : TermTree) (above : ℕ) → instance_term (shift_term t 1 above) inserted above ≡ t
term_undone (name x) inserted above = refl
term_undone (index k) inserted above = at_undone k above inserted
term_undone (integer n) inserted above = refl
term_undone (boolean b) inserted above = refl
term_undone (unary sign t) inserted above = ap (unary sign) (term_undone t inserted above)
term_undone (binary sign s t) inserted above = λ i. binary sign (term_undone s inserted above i) (term_undone t inserted above i)

pub same_shifted : (s t : TermTree) (above : ℕ) → shift_term s 1 above ≡ shift_term t 1 above → s ≡ t
same_shifted s t above e = sym (term_undone s (name 0) above) ∙ ap (λ u. instance_term u (name 0) above) e ∙ term_undone t (name 0) above

no_index : (k above : ℕ) → eqb (if ltb k above then k else k + 1) above ≡ false
no_index k above =
    ⊎_elim
    (λ (h : k < above). rw (lt-ltb k above h) (differ k (omega (arith, h))))
    (λ (h : above ≤ k). rw (le-ltb k above h) (differ (k + 1) (omega (arith, h))))
    (cases_lt k above)
  where
    differ : (n : ℕ) → n ≢ above → eqb n above ≡ false
    differ n apart =
        ⊎_elim
        (λ (e : (eqb n above ≡ true) × (n ≡ above)). absurd (apart e.1))
        (λ (e : (eqb n above ≡ false) × (n ≢ above)). e.0)
        (eqb_tells n above)

pub term_room : (t : TermTree) (above : ℕ) → occurs_term above (shift_term t 1 above) ≡ false
term_room (name x) above = refl
term_room (index k) above = no_index k above
term_room (integer n) above = refl
term_room (boolean b) above = refl
term_room (unary sign t) above = term_room t above
term_room (binary sign s t) above = rw (term_room s above, term_room t above) refl
