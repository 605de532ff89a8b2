use Rattle.std.proofs.Common.{◌≡◌, ℕ, ◌+◌, ◌∷◌, ◌<◌, List, length, suc, take, drop, sym, ap, subst, ◌∙◌, arith}
use Rattle.std.proofs.lemmas.Bool.Decides.{nat_tests}
use Rattle.script_reader.specs.Tokens.{count_while}
use Rattle.script_reader.specs.Lines.{is_inside, lines_of, without_return}
use Rattle.script_reader.proofs.Scans.{first_of_lines, last_alone}
use Rattle.script_reader.proofs.lines.next_line.Goals as goal

pub returns-then-end-script-clause-lines : goal.returns-then-end-script-clause-lines
returns-then-end-script-clause-lines c =
    let at : c.line_end-end.result ≡ count_while is_inside c.args.script.now = c.line_end-end.ensures.count in
    let line : without_return (take (count_while is_inside c.args.script.now) c.args.script.now) ≡ c.without_return.result.now =
    ap (λ (n : ℕ). without_return (take n c.args.script.now)) (sym at) ∙ ap without_return (sym c.front.ensures) ∙ sym c.without_return.ensures in
    let next : suc (count_while is_inside c.args.script.now) ≡ c.line_end-end.result + 1 = omega (arith, at) in
    let more : drop (suc (count_while is_inside c.args.script.now)) c.args.script.now ≡ c.behind.result.now =
    ap (λ (n : ℕ). drop n c.args.script.now) next ∙ sym c.behind.ensures in
    first_of_lines _ c.args.script.now (omega (arith, at, c.if-end-script.true))
    ∙ ap (λ (l : List ℕ). l ∷ lines_of (drop (suc (count_while is_inside c.args.script.now)) c.args.script.now)) line
    ∙ ap (λ (l : List ℕ). c.without_return.result.now ∷ lines_of l) more

pub returns-else-end-script-clause-lines : goal.returns-else-end-script-clause-lines
returns-else-end-script-clause-lines c =
    let some : 0 < length c.args.script.now = grind (arith, nat_tests) in
    last_alone c.args.script.now some (omega (arith, c.line_end-end.ensures.count, c.line_end-end.ensures.within, c.if-end-script.false))
