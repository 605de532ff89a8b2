use Rattle.std.proofs.Common.{◌≡◌, ◌++◌, None, codes, refl, sym, subst}
use Rattle.script_reader.specs.declared.lines.Line.{Line}
use Rattle.script_reader.specs.Lines.{line_tree}
use Rattle.derivation.specs.Derivation.{derivation_tree}
use Rattle.derivation.specs.Printing.{open_text}
use Rattle.commands.specs.Session.{Accepts, accepted}
use Rattle.commands.proofs.session.begin.Goals as goal

pub returns-in-Spec : goal.returns-in-Spec
returns-in-Spec c = (
  c.begin-derivation.ensures.kept,
  codes "ok\n" ++ open_text (derivation_tree c.begin-derivation.result),
  c.in_ok-add_accepted-in-Spec.ensures,
  accepted (derivation_tree c.begin-derivation.result) (subst (λ (l : Line). Accepts None (line_tree l) (derivation_tree c.begin-derivation.result)) (sym c.in-Spec.is) c.begin-derivation.ensures.begun) refl refl,
)
