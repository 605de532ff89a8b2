use Rattle.std.proofs.Common.{◌≡◌, ◌+◌, length}
use Rattle.ck_base.specs.Names.{is_digit}
use Rattle.script_reader.specs.Tokens.{count_while}
use Rattle.script_reader.proofs.token.digits.Given as goal

abbrev pub invariant-loop-rest : goal.invariant-loop-rest
invariant-loop-rest l = (l.count + count_while is_digit l.rest ≡ count_while is_digit l.bytes) × (l.count + length l.rest ≡ length l.bytes)

abbrev pub decreases-loop-rest : goal.decreases-loop-rest
decreases-loop-rest l = length l.rest
