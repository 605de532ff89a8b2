use Rattle.std.proofs.Common.{◌≡◌, sym, ◌∙◌}
use Rattle.std.proofs.lemmas.Result.{err_from_is_err_and}
use Rattle.script_reader.specs.declared.lines.LineFault.{LineFault}
use Rattle.script_reader.specs.declared.lines.LineFault.TheVariants as faults
use Rattle.script_reader.specs.Tokens.{scan}
use Rattle.script_reader.specs.Lines.{line_tree}
use Rattle.script_reader.proofs.Readers.{line_takes, unread_means}
use Rattle.script_reader.proofs.lines.read_line.Goals as goal

pub returns-in_err-scanned-clause-unread : goal.returns-in_err-scanned-clause-unread
returns-in_err-scanned-clause-unread c = λ unread.
    let p = err_from_is_err_and c.from_residual.result c.from_residual.ensures.1 in
    let same : p.0 ≡ faults.Unread = cc (p.1, unread) in
    unread_means c.args.opened c.in_err-scanned.field-0.0 p.0 c.args.line.now p.2 same c.in_err-scanned.ensures

pub returns-clause-read : goal.returns-clause-read
returns-clause-read c =
    let w = line_takes c.args.opened (scan 0 c.args.line.now) (line_tree c.in_ok-scanned.field-0) c.in_ok-scanned.ensures in
    record { plain = sym c.is_plain.ensures ∙ c.if-not-is_plain.false; text = w.text; written = w.written; tokens = w.tokens; means = w.means }
