use Rattle.std.proofs.Common.{◌≡◌, ◌+◌, ◌-◌, ◌≤◌, length, drop}
use Rattle.std.specs.Option.{option_map}
use Rattle.ck_base.specs.Names.{number_of}
use Rattle.ck_text.proofs.names.declared.Given as goal

abbrev pub invariant-loop-number : goal.invariant-loop-number
invariant-loop-number l = (number_of l.name l.names ≡ option_map (λ k. l.number + k) (number_of l.name (drop l.number l.names))) × (l.number ≤ length l.names)

abbrev pub decreases-loop-number : goal.decreases-loop-number
decreases-loop-number l = length l.names - l.number
