use Rattle.std.proofs.Common.{◌≡◌, ◌<◌, ◌^◌, length, true}
use Rattle.std.specs.List.{list_all}
use Rattle.ck_base.specs.Names.{is_digit}
use Rattle.ck_text.specs.Tokens.{value_from}
use Rattle.ck_text.proofs.digits.value.Given as goal

abbrev pub invariant-loop-rest : goal.invariant-loop-rest
invariant-loop-rest l = (value_from l.value l.rest ≡ value_from 0 l.digits) × (list_all is_digit l.rest ≡ true) × (l.value < 2 ^ 128)

abbrev pub decreases-loop-rest : goal.decreases-loop-rest
decreases-loop-rest l = length l.rest
