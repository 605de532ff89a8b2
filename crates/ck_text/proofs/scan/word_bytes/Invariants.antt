use Rattle.std.proofs.Common.{◌≡◌, ◌+◌, length}
use Rattle.ck_base.specs.Names.{is_name_byte}
use Rattle.ck_text.specs.Tokens.{count_while}
use Rattle.ck_text.proofs.scan.word_bytes.Given as goal

abbrev pub invariant-loop-rest : goal.invariant-loop-rest
invariant-loop-rest l = (l.count + count_while is_name_byte l.rest ≡ count_while is_name_byte l.bytes) × (l.count + length l.rest ≡ length l.bytes)

abbrev pub decreases-loop-rest : goal.decreases-loop-rest
decreases-loop-rest l = length l.rest
