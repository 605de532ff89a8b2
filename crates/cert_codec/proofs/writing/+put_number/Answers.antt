use Rattle.std.proofs.Common.{◌≡◌, ◌∷◌, ◌++◌, [], OnOk, ◌+◌, ◌≤◌, ◌/◌, ◌%◌, ap, sym, subst, ◌∙◌, append_assoc, arith}
use Rattle.cert_codec.specs.Spelling.{spell_number}
use Rattle.cert_codec.proofs.Numbers.{next_digit}
use Rattle.cert_codec.proofs.writing.+put_number.Goals as goal

pub returns : goal.returns
returns t c =
    let n = c.args.n in
    let before = c.args.bytes.now in
    let large : 128 ≤ n = omega (arith, c.if-n-from.false, c.from.ensures) in
    let whole = ap (λ w. w ++ spell_number (n / 128)) c.in_ok-push.ensures.ok ∙ append_assoc before ((128 + n % 128) ∷ []) (spell_number (n / 128)) ∙ ap (λ w. before ++ w) (sym (next_digit n c.ranges.n.fits large)) in
    subst (λ w. OnOk c.put_number.result (c.put_number.new.bytes ≡ w)) whole c.put_number.ensures
