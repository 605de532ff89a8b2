-- Truth of a closed term by computing its value.
use Rattle.std.specs.Prelude.{ℕ, ◌+◌, ◌*◌, ◌^◌, ◌<◌, nat_le, unsigned_abs, not, [], if◌then◌else◌, Result, Ok, Err}
use Rattle.sorted_terms.specs.Tree.{UnarySign, minus, denial, BinarySign, plus, difference, times, TermTree, name, index, integer, boolean, unary, binary}
use Rattle.sorted_terms.specs.Values.{Value, number, truth, as_number, as_truth, value}
use Rattle.sorted_terms.specs.Weights.{is_closed, term_weight}
use Rattle.arith_axioms.specs.declared.no_compute.NoCompute.{NoCompute}
use Rattle.arith_axioms.specs.declared.no_compute.NoCompute.TheVariants.{NotClosed, Wide, False}
use Rattle.arith_axioms.specs.declared.computing.Computed.{Computed}
use Rattle.arith_axioms.specs.declared.computing.Computed.TheVariants.{Number, Truth}

-- What computing a term tells, the first of these: a name or an index stands in it; its weight is 2^127 or
-- more; its value is false. No state and no environment tells the value of a closed term, so empty ones serve.
abbrev pub computing : TermTree → Result (Unit {0}) NoCompute
computing t =
    if not (is_closed t) then Err NotClosed else
    if nat_le (2 ^ 127) (term_weight t) then Err Wide else
    if not (as_truth (value t [] [])) then Err False else
    Ok tt

-- the value that the code computed
abbrev pub computed_value : Computed → Value
computed_value (Number n) = number n
computed_value (Truth b) = truth b

-- the absolute values of what a sign computes with: one number, two that are added, and two that are multiplied
abbrev pub HasRoomUnary : UnarySign → ℕ → Type 0
HasRoomUnary minus m = m < 2 ^ 127
HasRoomUnary denial m = Unit {0}

abbrev pub HasRoomBinary : BinarySign → ℕ → ℕ → Type 0
HasRoomBinary plus m n = m + n < 2 ^ 127
HasRoomBinary difference m n = m + n < 2 ^ 127
HasRoomBinary times m n = m * n < 2 ^ 127
HasRoomBinary sign m n = Unit {0}

-- the absolute value of a term without names and indices as an integer
abbrev pub size_of : TermTree → ℕ
size_of t = unsigned_abs (as_number (value t [] []))

-- no name and no index stands in the term, and no number on the way to its value reaches 2^127
abbrev pub HasRoom : TermTree → Type 0
HasRoom (name x) = ⊥
HasRoom (index k) = ⊥
HasRoom (integer n) = Unit {0}
HasRoom (boolean b) = Unit {0}
HasRoom (unary sign t) = HasRoom t × HasRoomUnary sign (size_of t)
HasRoom (binary sign s t) = HasRoom s × HasRoom t × HasRoomBinary sign (size_of s) (size_of t)
