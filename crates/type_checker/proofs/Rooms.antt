-- Where a substitution keeps every index below 2^32: a well-sorted formula that fits has only indices below
-- the number of bound variables around it and its depth.
use Rattle.std.proofs.Common.{◌≡◌, ℕ, suc, ◌+◌, ◌-◌, ◌^◌, ◌<◌, ◌≤◌, ◌&&◌, nat_lt, ◌==◌, true, false, Bool, if◌then◌else◌, List, ◌∷◌, length, Some, None, refl, arith}
use Rattle.std.proofs.lemmas.Bool.{and_parts}
use Rattle.std.proofs.lemmas.Option.{slice_get_within}
use Rattle.ck_base.specs.declared.decl.Sort.{Sort}
use Rattle.ck_base.specs.declared.decl.Sort.TheVariants as sort
use Rattle.ck_base.specs.declared.decl.Decl.{Decl}
use Rattle.sorted_terms.specs.Tree.{TermTree, name, index, integer, boolean, unary, binary}
use Rattle.sorted_terms.specs.Sorts.{sort_of, has_sort, unary_takes, binary_takes, binary_gives, term_size, term_depth}
use Rattle.sorted_terms.specs.Substitution.{shift_term, instance_at, instance_term, HasTermIndicesBelow}
use Rattle.sorted_terms.proofs.Sizes.{term_size_positive, term_depth_positive}
use Rattle.formulas.specs.Tree.{FormulaTree, for_all, bottom, holds, joined, quantified}
use Rattle.formulas.specs.Sorts.{well_sorted, fits, size, depth}
use Rattle.formulas.specs.Substitution.{shift, instance, HasIndicesBelow}
use Rattle.type_checker.specs.Place.{is_assumable}
use Rattle.type_checker.proofs.Sides.{fits_bounds, fits_smaller}
use Rattle.type_checker.proofs.Sorted.{sort_known, assumable_fits, assumable_sorted}

-- Indices of what has a sort

given_if : (t : Bool) (r s : Sort) → (if t then Some r else None) ≡ Some s → t ≡ true
given_if true r s e = refl
given_if false r s e = absurd (cc)

term_indices : (names : List Decl) (variables : List Sort) (t : TermTree) (s : Sort) (bound : ℕ) → length variables ≤ bound → sort_of names variables t ≡ Some s → HasTermIndicesBelow bound t
term_indices names variables (name x) s bound h e = tt
term_indices names variables (index k) s bound h e = let below : k < length variables = slice_get_within variables k s e in omega (arith, h, below)
term_indices names variables (integer n) s bound h e = tt
term_indices names variables (boolean b) s bound h e = tt
term_indices names variables (unary sign t) s bound h e =
    term_indices names variables t (unary_takes sign) bound h (sort_known (sort_of names variables t) (unary_takes sign) (given_if (has_sort (sort_of names variables t) (unary_takes sign)) (unary_takes sign) s e))
term_indices names variables (binary sign t u) s bound h e =
    let both = and_parts (has_sort (sort_of names variables t) (binary_takes sign)) (has_sort (sort_of names variables u) (binary_takes sign)) (given_if (has_sort (sort_of names variables t) (binary_takes sign) && has_sort (sort_of names variables u) (binary_takes sign)) (binary_gives sign) s e) in
    (term_indices names variables t (binary_takes sign) bound h (sort_known (sort_of names variables t) (binary_takes sign) both.0), term_indices names variables u (binary_takes sign) bound h (sort_known (sort_of names variables u) (binary_takes sign) both.1))

pub sorted_indices : (names : List Decl) (variables : List Sort) (a : FormulaTree) (bound : ℕ) → length variables + depth a ≤ bound → well_sorted names variables a ≡ true → HasIndicesBelow bound a
sorted_indices names variables bottom bound h e = tt
sorted_indices names variables (holds t) bound h e = term_indices names variables t sort.Bool bound (omega (arith, h)) (sort_known (sort_of names variables t) sort.Bool e)
sorted_indices names variables (joined c a b) bound h e =
    let both = and_parts (well_sorted names variables a) (well_sorted names variables b) e in
    (sorted_indices names variables a bound (omega (arith, h)) both.0, sorted_indices names variables b bound (omega (arith, h)) both.1)
sorted_indices names variables (quantified q s a) bound h e = sorted_indices names (s ∷ variables) a bound (omega (arith, h)) e

-- Indices after a shift

index_raised : (k by above bound limit : ℕ) → bound + by ≤ limit → k < bound → (if nat_lt k above then k else k + by) < limit
index_raised k by above bound limit h i = each (nat_lt k above) where
  each : (t : Bool) → (if t then k else k + by) < limit
  each true = omega (arith, h, i)
  each false = omega (arith, h, i)

term_shifted : (t : TermTree) (by above bound limit : ℕ) → bound + by ≤ limit → HasTermIndicesBelow bound t → HasTermIndicesBelow limit (shift_term t by above)
term_shifted (name x) by above bound limit h i = tt
term_shifted (index k) by above bound limit h i = index_raised k by above bound limit h i
term_shifted (integer n) by above bound limit h i = tt
term_shifted (boolean b) by above bound limit h i = tt
term_shifted (unary sign t) by above bound limit h i = term_shifted t by above bound limit h i
term_shifted (binary sign s t) by above bound limit h i = (term_shifted s by above bound limit h i.0, term_shifted t by above bound limit h i.1)

shifted : (a : FormulaTree) (by above bound limit : ℕ) → bound + by ≤ limit → HasIndicesBelow bound a → HasIndicesBelow limit (shift a by above)
shifted bottom by above bound limit h i = tt
shifted (holds t) by above bound limit h i = term_shifted t by above bound limit h i
shifted (joined c a b) by above bound limit h i = (shifted a by above bound limit h i.0, shifted b by above bound limit h i.1)
shifted (quantified q s a) by above bound limit h i = shifted a by (suc above) bound limit h i

-- what a shift of a hypothesis needs
pub shift_room : (names : List Decl) (variables : List Sort) (a : FormulaTree) (by above : ℕ) → is_assumable names variables a ≡ true → length variables + by + 256 < 2 ^ 32 → HasIndicesBelow (2 ^ 32) (shift a by above)
shift_room names variables a by above h few =
    let low = (fits_bounds a (assumable_fits names variables a h)).1 in
    shifted a by above (length variables + depth a) (2 ^ 32) (omega (arith, low, few)) (sorted_indices names variables a (length variables + depth a) (omega arith) (assumable_sorted names variables a h))

-- Indices of an instance

index_instance : (k : ℕ) (t : TermTree) (place bound limit : ℕ) → k < limit → bound + place ≤ limit → HasTermIndicesBelow bound t → HasTermIndicesBelow limit (instance_at k t place)
index_instance k t place bound limit i h j = each (nat_lt k place) (k == place) where
  each : (b c : Bool) → HasTermIndicesBelow limit (if b then index k else (if c then shift_term t place 0 else index (k - 1)))
  each true c = i
  each false true = term_shifted t place 0 bound limit h j
  each false false = omega (arith, i)

term_instance : (u t : TermTree) (place bound limit : ℕ) → HasTermIndicesBelow limit u → bound + place ≤ limit → HasTermIndicesBelow bound t → HasTermIndicesBelow limit (instance_term u t place)
term_instance (name x) t place bound limit i h j = tt
term_instance (index k) t place bound limit i h j = index_instance k t place bound limit i h j
term_instance (integer n) t place bound limit i h j = tt
term_instance (boolean b) t place bound limit i h j = tt
term_instance (unary sign u) t place bound limit i h j = term_instance u t place bound limit i h j
term_instance (binary sign u v) t place bound limit i h j = (term_instance u t place bound limit i.0 h j, term_instance v t place bound limit i.1 h j)

instanced : (a : FormulaTree) (t : TermTree) (place bound limit : ℕ) → HasIndicesBelow limit a → bound + place + depth a ≤ limit → HasTermIndicesBelow bound t → HasIndicesBelow limit (instance a t place)
instanced bottom t place bound limit i h j = tt
instanced (holds u) t place bound limit i h j = term_instance u t place bound limit i (omega (arith, h)) j
instanced (joined c a b) t place bound limit i h j = (instanced a t place bound limit i.0 (omega (arith, h)) j, instanced b t place bound limit i.1 (omega (arith, h)) j)
instanced (quantified q s a) t place bound limit i h j = instanced a t (suc place) bound limit i (omega (arith, h)) j

-- what an instance needs, where the formula fits
pub instance_room : (names : List Decl) (variables : List Sort) (s : Sort) (a : FormulaTree) (t : TermTree)
    → well_sorted names (s ∷ variables) a ≡ true → fits a ≡ true → sort_of names variables t ≡ Some s → length variables + 256 < 2 ^ 32
    → HasIndicesBelow (2 ^ 32) (instance a t 0)
instance_room names variables s a t e fit known few =
    let low = (fits_bounds a fit).1 in
    instanced a t 0 (length variables) (2 ^ 32)
    (sorted_indices names (s ∷ variables) a (2 ^ 32) (omega (arith, low, few)) e)
    (omega (arith, low, few))
    (term_indices names variables t s (length variables) (omega arith) known)

-- A formula is no larger than its instance.

instance_at_size : (k : ℕ) (t : TermTree) (place : ℕ) → 1 ≤ term_size (instance_at k t place)
instance_at_size k t place = let positive = term_size_positive (instance_at k t place) in omega (arith, positive)

instance_at_depth : (k : ℕ) (t : TermTree) (place : ℕ) → 1 ≤ term_depth (instance_at k t place)
instance_at_depth k t place = let positive = term_depth_positive (instance_at k t place) in omega (arith, positive)

term_size_grows : (u t : TermTree) (place : ℕ) → term_size u ≤ term_size (instance_term u t place)
term_size_grows (name x) t place = omega arith
term_size_grows (index k) t place = instance_at_size k t place
term_size_grows (integer n) t place = omega arith
term_size_grows (boolean b) t place = omega arith
term_size_grows (unary sign u) t place = omega (arith, term_size_grows u t place)
term_size_grows (binary sign u v) t place = omega (arith, term_size_grows u t place, term_size_grows v t place)

term_depth_grows : (u t : TermTree) (place : ℕ) → term_depth u ≤ term_depth (instance_term u t place)
term_depth_grows (name x) t place = omega arith
term_depth_grows (index k) t place = instance_at_depth k t place
term_depth_grows (integer n) t place = omega arith
term_depth_grows (boolean b) t place = omega arith
term_depth_grows (unary sign u) t place = omega (arith, term_depth_grows u t place)
term_depth_grows (binary sign u v) t place = omega (arith, term_depth_grows u t place, term_depth_grows v t place)

size_grows : (a : FormulaTree) (t : TermTree) (place : ℕ) → size a ≤ size (instance a t place)
size_grows bottom t place = omega arith
size_grows (holds u) t place = omega (arith, term_size_grows u t place)
size_grows (joined c a b) t place = omega (arith, size_grows a t place, size_grows b t place)
size_grows (quantified q s a) t place = omega (arith, size_grows a t (suc place))

depth_grows : (a : FormulaTree) (t : TermTree) (place : ℕ) → depth a ≤ depth (instance a t place)
depth_grows bottom t place = omega arith
depth_grows (holds u) t place = omega (arith, term_depth_grows u t place)
depth_grows (joined c a b) t place = omega (arith, depth_grows a t place, depth_grows b t place)
depth_grows (quantified q s a) t place = omega (arith, depth_grows a t (suc place))

-- a formula fits where an instance of it does
pub instance_fits : (a : FormulaTree) (t : TermTree) (place : ℕ) → fits (instance a t place) ≡ true → fits a ≡ true
instance_fits a t place h = fits_smaller a (instance a t place) (size_grows a t place) (depth_grows a t place) h

-- what an instance needs, where the instance fits
pub fitting_instance_room : (names : List Decl) (variables : List Sort) (s : Sort) (a : FormulaTree) (t : TermTree)
    → well_sorted names (s ∷ variables) a ≡ true → fits (instance a t 0) ≡ true → sort_of names variables t ≡ Some s → length variables + 256 < 2 ^ 32
    → HasIndicesBelow (2 ^ 32) (instance a t 0)
fitting_instance_room names variables s a t e fit known few = instance_room names variables s a t e (instance_fits a t 0 fit) known few

-- what the instance of a universal formula needs
pub special_room : (names : List Decl) (variables : List Sort) (s : Sort) (a : FormulaTree) (t : TermTree)
    → is_assumable names variables (quantified for_all s a) ≡ true → sort_of names variables t ≡ Some s → length variables + 256 < 2 ^ 32
    → HasIndicesBelow (2 ^ 32) (instance a t 0)
special_room names variables s a t h known few =
    instance_room names variables s a t (assumable_sorted names variables (quantified for_all s a) h)
    (fits_smaller a (quantified for_all s a) (omega arith) (omega arith) (assumable_fits names variables (quantified for_all s a) h))
    known few
