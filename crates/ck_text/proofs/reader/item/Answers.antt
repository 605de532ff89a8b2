use Rattle.std.proofs.Common.{length, map, sym, subst, ap, arith}
use Rattle.ck_text.specs.Views as views
use Rattle.ck_text.proofs.Smalls.{smalls, scan_length, placed_length}
use Rattle.ck_text.proofs.reader.item.Goals as goal

pub run-requires-clause-indices : goal.run-requires-clause-indices
run-requires-clause-indices c =
    omega (arith, c.requires.few, c.requires.variables, ap length c.as_slice.ensures, placed_length c.in_ok-placed.placed, ap length c.in_ok-placed.ensures, scan_length 0 c.args.bytes.now)

pub run-requires-clause-small : goal.run-requires-clause-small
run-requires-clause-small c =
    subst (λ x. views.AreSmall (map views.placed x)) (sym c.as_slice.ensures) (subst views.AreSmall (sym c.in_ok-placed.ensures) (smalls c.args.bytes.now))
