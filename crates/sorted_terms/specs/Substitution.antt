-- Substitution on terms, with de Bruijn indices.
use Rattle.std.specs.Prelude.{ℕ, ◌+◌, ◌-◌, ◌<◌, nat_lt, ◌==◌, Bool, false, ◌||◌, if◌then◌else◌}
use Rattle.sorted_terms.specs.Tree.{TermTree, name, index, integer, boolean, unary, binary}

-- every index of the term is below `bound`
abbrev pub HasTermIndicesBelow : ℕ → TermTree → Type 0
HasTermIndicesBelow bound (name x) = Unit {0}
HasTermIndicesBelow bound (index k) = k < bound
HasTermIndicesBelow bound (integer n) = Unit {0}
HasTermIndicesBelow bound (boolean b) = Unit {0}
HasTermIndicesBelow bound (unary sign t) = HasTermIndicesBelow bound t
HasTermIndicesBelow bound (binary sign s t) = HasTermIndicesBelow bound s × HasTermIndicesBelow bound t

-- every index that is at least `above` goes up by `by`
abbrev pub shift_term : TermTree → ℕ → ℕ → TermTree
shift_term (name x) by above = name x
shift_term (index k) by above = index (if nat_lt k above then k else k + by)
shift_term (integer n) by above = integer n
shift_term (boolean b) by above = boolean b
shift_term (unary sign t) by above = unary sign (shift_term t by above)
shift_term (binary sign s t) by above = binary sign (shift_term s by above) (shift_term t by above)

-- an index, where `inserted` comes in at index `place` and higher indices go down by one
abbrev pub instance_at : ℕ → TermTree → ℕ → TermTree
instance_at k inserted place =
    if nat_lt k place then index k else (if k == place then shift_term inserted place 0 else index (k - 1))

-- `inserted`, shifted by `place`, stands for index `place`, and higher indices go down by one
abbrev pub instance_term : TermTree → TermTree → ℕ → TermTree
instance_term (name x) inserted place = name x
instance_term (index k) inserted place = instance_at k inserted place
instance_term (integer n) inserted place = integer n
instance_term (boolean b) inserted place = boolean b
instance_term (unary sign t) inserted place = unary sign (instance_term t inserted place)
instance_term (binary sign s t) inserted place = binary sign (instance_term s inserted place) (instance_term t inserted place)

-- `inserted`, shifted by `under`, stands for the declared name `x`
abbrev pub replace_term : TermTree → ℕ → TermTree → ℕ → TermTree
replace_term (name y) x inserted under = if y == x then shift_term inserted under 0 else name y
replace_term (index k) x inserted under = index k
replace_term (integer n) x inserted under = integer n
replace_term (boolean b) x inserted under = boolean b
replace_term (unary sign t) x inserted under = unary sign (replace_term t x inserted under)
replace_term (binary sign s t) x inserted under = binary sign (replace_term s x inserted under) (replace_term t x inserted under)

-- the index occurs in the term
abbrev pub occurs_term : ℕ → TermTree → Bool
occurs_term place (name x) = false
occurs_term place (index k) = k == place
occurs_term place (integer n) = false
occurs_term place (boolean b) = false
occurs_term place (unary sign t) = occurs_term place t
occurs_term place (binary sign s t) = occurs_term place s || occurs_term place t
