use Rattle.std.proofs.Common.{◌≡◌, Some, None, map, sym, ap, subst, ◌∙◌, inl, ⊎_elim, ◌⊎◌}
use Rattle.std.specs.declared.option.Option.{Option}
use Rattle.commands.specs.declared.words.Command.{Command}
use Rattle.commands.specs.Commands.{CommandTree, checking, deriving_to, command_tree, asked}
use Rattle.commands.specs.Ends.{IsTooLong, HasExported, Decides}
use Rattle.commands.proofs.Sessions.{export_is_exact, refusals_change_nothing}
use Rattle.commands.proofs.Decided.{check_decides, derive_decides}
use Rattle.commands.proofs.top.cocktail.Goals as goal

pub returns-in-Some-Check-clause-too_long : goal.returns-in-Some-Check-clause-too_long
returns-in-Some-Check-clause-too_long g c = λ e.
    let named : Some (checking c.in-Some-Check.name.now) ≡ asked c.args.words.now =
    ap (λ (x : Command). Some (command_tree x)) (sym c.in-Some-Check.field-0-is) ∙ c.in-Some-Check.ensures in
    subst (λ (k : Option CommandTree). IsTooLong k (g.I.Origin.files c.args.input.now) (g.I.Origin.left c.check.new.input) (g.O.Sink.gained c.args.out.now) (g.O.Sink.gained c.check.new.out) (g.O.Sink.faults c.args.out.now) (g.O.Sink.faults c.check.new.out)) named (c.check.ensures.too_long e)

pub returns-in-Some-Check-clause-decided : goal.returns-in-Some-Check-clause-decided
returns-in-Some-Check-clause-decided g c =
    let named : Some (checking c.in-Some-Check.name.now) ≡ asked c.args.words.now =
    ap (λ (x : Command). Some (command_tree x)) (sym c.in-Some-Check.field-0-is) ∙ c.in-Some-Check.ensures in
    subst (λ (k : Option CommandTree). Decides k (g.I.Origin.files c.args.input.now) c.check.result) named
    (check_decides c.in-Some-Check.name.now (g.I.Origin.files c.args.input.now) (g.I.Origin.left c.check.new.input) (g.O.Sink.gained c.args.out.now) (g.O.Sink.gained c.check.new.out) (g.O.Sink.faults c.args.out.now) (g.O.Sink.faults c.check.new.out) c.check.result
    c.check.ensures.done c.check.ensures.refused c.check.ensures.out_fault c.check.ensures.too_long c.check.ensures.words c.check.ensures.no_target_fault)

pub returns-in-Some-Derive-clause-too_long : goal.returns-in-Some-Derive-clause-too_long
returns-in-Some-Derive-clause-too_long g c = λ e.
    let named : Some (deriving_to c.in-Some-Derive.script.now c.in-Some-Derive.certificate.now) ≡ asked c.args.words.now =
    ap (λ (x : Command). Some (command_tree x)) (sym c.in-Some-Derive.field-0-is) ∙ c.in-Some-Derive.ensures in
    subst (λ (k : Option CommandTree). IsTooLong k (g.I.Origin.files c.args.input.now) (g.I.Origin.left c.derive.new.input) (g.O.Sink.gained c.args.out.now) (g.O.Sink.gained c.derive.new.out) (g.O.Sink.faults c.args.out.now) (g.O.Sink.faults c.derive.new.out)) named (c.derive.ensures.too_long e)

pub returns-in-Some-Derive-clause-decided : goal.returns-in-Some-Derive-clause-decided
returns-in-Some-Derive-clause-decided g c =
    let named : Some (deriving_to c.in-Some-Derive.script.now c.in-Some-Derive.certificate.now) ≡ asked c.args.words.now =
    ap (λ (x : Command). Some (command_tree x)) (sym c.in-Some-Derive.field-0-is) ∙ c.in-Some-Derive.ensures in
    subst (λ (k : Option CommandTree). Decides k (g.I.Origin.files c.args.input.now) c.derive.result) named
    (derive_decides c.in-Some-Derive.script.now c.in-Some-Derive.certificate.now (g.I.Origin.files c.args.input.now) (g.I.Origin.left c.derive.new.input) _ (g.T.Target.written c.args.target.now) (g.T.Target.written c.derive.new.target) (g.O.Sink.gained c.args.out.now) (g.O.Sink.gained c.derive.new.out) (g.O.Sink.faults c.args.out.now) (g.O.Sink.faults c.derive.new.out) _ c.derive.result
    c.derive.ensures.done c.derive.ensures.refused c.derive.ensures.out_fault c.derive.ensures.target_fault c.derive.ensures.too_long c.derive.ensures.words)

pub returns-in-Some-Check-clause-export_is_exact : goal.returns-in-Some-Check-clause-export_is_exact
returns-in-Some-Check-clause-export_is_exact g c = export_is_exact

pub returns-in-Some-Check-clause-refusals_change_nothing : goal.returns-in-Some-Check-clause-refusals_change_nothing
returns-in-Some-Check-clause-refusals_change_nothing g c = refusals_change_nothing

pub returns-in-Some-Derive-clause-export_is_exact : goal.returns-in-Some-Derive-clause-export_is_exact
returns-in-Some-Derive-clause-export_is_exact g c = export_is_exact

pub returns-in-Some-Derive-clause-refusals_change_nothing : goal.returns-in-Some-Derive-clause-refusals_change_nothing
returns-in-Some-Derive-clause-refusals_change_nothing g c = refusals_change_nothing

pub returns-in-None-clause-export_is_exact : goal.returns-in-None-clause-export_is_exact
returns-in-None-clause-export_is_exact g c = export_is_exact

pub returns-in-None-clause-refusals_change_nothing : goal.returns-in-None-clause-refusals_change_nothing
returns-in-None-clause-refusals_change_nothing g c = refusals_change_nothing
