use Rattle.std.proofs.Common.{◌≡◌, refl, sym, subst, ◌∙◌, rules}
use Rattle.std.specs.declared.option.Option.{Option}
use Rattle.script_reader.specs.declared.lines.OpenHole.{OpenHole}
use Rattle.script_reader.specs.Lines.{LineTree, line_tree, Means}
use Rattle.commands.specs.Session.{open_of, state_of, unread, refused_line}
use Rattle.commands.proofs.Lines.{may_be}
use Rattle.commands.proofs.Sessions.{answers_meant, there}
use Rattle.commands.proofs.session.answer_line.Goals as goal

pub answer_to-requires-clause-meant : goal.answer_to-requires-clause-meant
answer_to-requires-clause-meant c = may_be c.opened.result c.args.line.now (line_tree c.in-Ok.meant) (there _ c.opened.result c.opened.ensures.few) c.in-Ok.ensures.read

pub returns-in_ok-answer_to-in-Ok : goal.returns-in_ok-answer_to-in-Ok
returns-in_ok-answer_to-in-Ok c =
    let means : Means (open_of (state_of c.args.session)) c.args.line.now (line_tree c.in-Ok.meant) = subst (λ (o : Option OpenHole). Means o c.args.line.now (line_tree c.in-Ok.meant)) c.opened.ensures.hole c.in-Ok.ensures.read in
    answers_meant (state_of c.args.session) c.args.line.now (line_tree c.in-Ok.meant) c.args.out.now c.answer_to.new.out c.in_ok-answer_to-in-Ok.field-0 means c.in_ok-answer_to-in-Ok.ensures

pub returns-in_ok-append-in-Err-Unread : goal.returns-in_ok-append-in-Err-Unread
returns-in_ok-append-in-Err-Unread c =
    let none = (rw c.in-Err-Unread.field-0-is at c.in-Err-Unread.ensures.unread) (search rules) in (
      c.requires,
      refused_line,
      c.in_ok-append-in-Err-Unread.ensures.ok,
      unread (sym c.is_blank_line.ensures ∙ c.if-is_blank_line.false) (λ tree m. none tree (subst (λ (o : Option OpenHole). Means o c.args.line.now tree) (sym c.opened.ensures.hole) m)) refl refl,
    )
