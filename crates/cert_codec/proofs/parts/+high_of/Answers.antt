use Rattle.std.proofs.Common.{arith}
use Rattle.cert_codec.proofs.Numbers.{digit_below, digit_below_more, digits_below, room_for_digits}
use Rattle.cert_codec.proofs.parts.+high_of.Goals.{then-more-eq0, else-more-eq0}
use Rattle.cert_codec.proofs.parts.+high_of.Goals as goal

pub returns-then-first-limit-clause-below : goal.returns-then-first-limit-clause-below
returns-then-first-limit-clause-below t c =
    elim c.if-more-eq0.branch [
      | then-more-eq0 w ↦ digit_below c.args.more c.from.result w.if-more-eq0.true (omega (arith, c.from.ensures, c.if-first-limit.true, w.limit-is))
      | else-more-eq0 w ↦ digit_below_more c.args.more c.from.result w.if-more-eq0.false (omega (arith, c.from.ensures, c.if-first-limit.true, w.limit-is))
    ]

pub overflow_mul-result : goal.overflow_mul-result
overflow_mul-result t c = omega (arith, room_for_digits c.args.more c.in_ok-high.high 0 c.requires c.in_ok-high.ensures.below (omega arith))

pub overflow_add-result : goal.overflow_add-result
overflow_add-result t c = omega (arith, room_for_digits c.args.more c.in_ok-high.high c.from-2.result c.requires c.in_ok-high.ensures.below (omega (arith, c.from-2.ensures, c.type_inv.bytes 0)))

pub returns-clause-below : goal.returns-clause-below
returns-clause-below t c = digits_below c.args.more c.in_ok-high.high c.from-2.result c.if-more-eq0-2.false c.in_ok-high.ensures.below (omega (arith, c.from-2.ensures, c.type_inv.bytes 0))
