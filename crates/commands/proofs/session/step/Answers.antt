use Rattle.std.proofs.Common.{◌≡◌, ◌++◌, codes, refl}
use Rattle.derivation.specs.Derivation.{derivation_tree}
use Rattle.derivation.specs.Printing.{open_text}
use Rattle.commands.specs.Session.{accepted}
use Rattle.commands.proofs.session.step.Goals as goal

pub returns-in_ok-add_accepted-in-Ok : goal.returns-in_ok-add_accepted-in-Ok
returns-in_ok-add_accepted-in-Ok c = (
  c.in-Ok.ensures.kept,
  codes "ok\n" ++ open_text (derivation_tree c.taken.new.derivation),
  c.in_ok-add_accepted-in-Ok.ensures,
  accepted (derivation_tree c.taken.new.derivation) c.in-Ok.ensures.taken refl refl,
)
