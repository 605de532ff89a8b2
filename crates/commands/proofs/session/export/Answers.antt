use Rattle.std.proofs.Common.{◌≡◌, Some, refl, sym, ap, subst, ◌∙◌}
use Rattle.cert_codec.specs.Tree.{checked_tree}
use Rattle.derivation.specs.declared.derivation.Derivation.{Derivation}
use Rattle.derivation.specs.Derivation.{derivation_tree, progress_tree, open_hole}
use Rattle.derivation.specs.Derived.{IsKept}
use Rattle.derivation.proofs.Derived.{exports_are_valid}
use Rattle.commands.specs.Session.{unfinished, unfinished_line}
use Rattle.commands.proofs.session.export.Goals as goal

pub returns-in-Ok : goal.returns-in-Ok
returns-in-Ok c = (
  refl,
  refl,
  exports_are_valid (derivation_tree c.args.derivation) (checked_tree c.in-Ok.certificate) c.requires.derived c.in-Ok.ensures.exported,
  derivation_tree c.args.derivation,
  refl,
  c.in-Ok.ensures.exported,
)

pub returns-in_ok-add_unfinished-in-Err : goal.returns-in_ok-add_unfinished-in-Err
returns-in_ok-add_unfinished-in-Err c =
    let same : c.in-Err.derivation ≡ c.args.derivation = c.in-Err.ensures.open_still.0 in
    let opened : open_hole (progress_tree c.args.derivation.progress) ≡ Some c.in-Some.hole =
    ap (λ (d : Derivation). open_hole (progress_tree d.progress)) (sym same) ∙ sym c.in-Some.ensures in (
      subst IsKept (sym same) c.requires,
      unfinished_line c.in-Some.hole.number,
      c.in_ok-add_unfinished-in-Err.ensures,
      unfinished (derivation_tree c.args.derivation) c.in-Some.hole refl refl opened refl (ap (λ (d : Derivation). Some (derivation_tree d)) same),
    )
