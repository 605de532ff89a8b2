use Rattle.std.proofs.Common.{sym, ap, ◌∙◌}
use Rattle.std.specs.Str.{bytes_eq}
use Rattle.ck_text.proofs.Numbers.{found, passed}
use Rattle.ck_text.proofs.names.declared.Goals as goal

pub returns-then-eq : goal.returns-then-eq
returns-then-eq c =
    found c.args.name.now c.args.names.now c.loop-number.number c.loop-number.invariant.0 c.in-Some.decl.now c.in-Some.ensures
    (ap (bytes_eq c.args.name.now) (sym c.as_bytes.ensures) ∙ sym c.eq.ensures ∙ c.if-eq.true)

pub loop-number-preserved : goal.loop-number-preserved
loop-number-preserved c =
    passed c.args.name.now c.args.names.now c.loop-number.number c.loop-number.invariant.0 c.in-Some.decl.now c.in-Some.ensures
    (ap (bytes_eq c.args.name.now) (sym c.as_bytes.ensures) ∙ sym c.eq.ensures ∙ c.if-eq.false)
