use Rattle.std.proofs.Common.{◌≡◌, ◌+◌, length}
use Rattle.ck_base.specs.Names.{is_digit}
use Rattle.ck_text.specs.Tokens.{count_while}
use Rattle.ck_text.proofs.scan.digits.Given as goal

abbrev pub invariant-loop-rest : goal.invariant-loop-rest
invariant-loop-rest l = (l.count + count_while is_digit l.rest ≡ count_while is_digit l.bytes) × (l.count + length l.rest ≡ length l.bytes)

abbrev pub decreases-loop-rest : goal.decreases-loop-rest
decreases-loop-rest l = length l.rest
