use Rattle.std.proofs.Common.{arith, ◌≡◌, ◌≤◌, ◌+◌, ◌/◌, ◌%◌, ◌++◌, ◌∷◌, [], OnOk, sym, ap, ◌∙◌, subst, append_assoc, decimal}
use Rattle.ck_text.proofs.Decimals.{last_digit}
use Rattle.ck_text.proofs.printing.+write_decimal.Goals as goal

pub returns-in_ok-write_decimal-clause-ok : goal.returns-in_ok-write_decimal-clause-ok
returns-in_ok-write_decimal-clause-ok t c =
    let n = c.args.n in
    let before = c.args.out.now in
    let digit = (48 + n % 10) ∷ [] in
    let large : 10 ≤ n = omega (arith, c.if-n-lt10.false) in
    let whole = ap (λ w. w ++ digit) c.in_ok-write_decimal.ensures.ok ∙ append_assoc before (decimal (n / 10)) digit ∙ ap (λ w. before ++ w) (sym (last_digit n large (omega (arith, c.ranges.n.fits)))) in
    subst (λ w. OnOk c.append-else-n-lt10.result (c.append-else-n-lt10.new.self ≡ w)) whole c.append-else-n-lt10.ensures.ok
