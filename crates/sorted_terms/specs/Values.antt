-- Values of terms: integers without bound and truth values.
use Rattle.std.specs.Prelude.{ℕ, ℤ, pos, ◌+ℤ◌, ◌-ℤ◌, ◌*ℤ◌, neg_ℤ, Bool, true, false, not, ◌&&◌, ◌||◌, List, [], ◌∷◌, slice_get, unwrap_or}
use lib.Signed.{lt_z, le_z}
use Rattle.ck_base.specs.declared.decl.Sort.{Sort}
use Rattle.ck_base.specs.declared.decl.Sort.TheVariants as sort
use Rattle.ck_base.specs.declared.decl.Decl.{Decl}
use Rattle.sorted_terms.specs.Tree.{UnarySign, minus, denial, BinarySign, plus, difference, times, equal, less, at_most, both, either, TermTree, name, index, integer, boolean, unary, binary}

pub data Value : Type 0 where
  number : (n : ℤ) → Value
  truth : (b : Bool) → Value

-- the value has the sort
abbrev pub IsOf : Sort → Value → Type 0
IsOf sort.Int (number n) = Unit {0}
IsOf sort.Int (truth b) = ⊥
IsOf sort.Bool (number n) = ⊥
IsOf sort.Bool (truth b) = Unit {0}

-- The value that stands for what is not there or has another sort: 0, and as a truth value false.
abbrev pub default : Value
default = number (pos 0)

abbrev pub as_number : Value → ℤ
as_number (number n) = n
as_number (truth b) = pos 0

abbrev pub as_truth : Value → Bool
as_truth (number n) = false
as_truth (truth b) = b

-- A state gives each declared name a value, by the name's number. An environment gives each bound
-- variable a value, the innermost first.
abbrev pub State : Type 0
State = List Value

abbrev pub Environment : Type 0
Environment = List Value

-- the value at a number, and the default where there is none
abbrev pub value_at : List Value → ℕ → Value
value_at values place = unwrap_or (slice_get values place) default

abbrev pub same_integer : ℤ → ℤ → Bool
same_integer m n = le_z m n && le_z n m

abbrev pub same_boolean : Bool → Bool → Bool
same_boolean true b = b
same_boolean false b = not b

-- equality of values; values of two sorts differ
abbrev pub same_value : Value → Value → Bool
same_value (number m) (number n) = same_integer m n
same_value (number m) (truth b) = false
same_value (truth a) (number n) = false
same_value (truth a) (truth b) = same_boolean a b

abbrev pub unary_value : UnarySign → Value → Value
unary_value minus v = number (neg_ℤ (as_number v))
unary_value denial v = truth (not (as_truth v))

abbrev pub binary_value : BinarySign → Value → Value → Value
binary_value plus u v = number (as_number u +ℤ as_number v)
binary_value difference u v = number (as_number u -ℤ as_number v)
binary_value times u v = number (as_number u *ℤ as_number v)
binary_value equal u v = truth (same_value u v)
binary_value less u v = truth (lt_z (as_number u) (as_number v))
binary_value at_most u v = truth (le_z (as_number u) (as_number v))
binary_value both u v = truth (as_truth u && as_truth v)
binary_value either u v = truth (as_truth u || as_truth v)

-- the value of a term in a state and an environment
abbrev pub value : TermTree → State → Environment → Value
value (name x) state environment = value_at state x
value (index k) state environment = value_at environment k
value (integer n) state environment = number n
value (boolean b) state environment = truth b
value (unary sign t) state environment = unary_value sign (value t state environment)
value (binary sign s t) state environment = binary_value sign (value s state environment) (value t state environment)

-- the values have these sorts, one for one
abbrev pub AreOf : List Sort → List Value → Type 0
AreOf [] [] = Unit {0}
AreOf [] (v ∷ values) = ⊥
AreOf (s ∷ sorts) [] = ⊥
AreOf (s ∷ sorts) (v ∷ values) = IsOf s v × AreOf sorts values

-- a state of these declarations: each name has a value of its sort
abbrev pub IsState : List Decl → State → Type 0
IsState [] [] = Unit {0}
IsState [] (v ∷ state) = ⊥
IsState (d ∷ names) [] = ⊥
IsState (d ∷ names) (v ∷ state) = IsOf d.sort v × IsState names state
