use Rattle.std.proofs.Common.{◌≡◌, List, [], ◌∷◌, ◌++◌, false, sym, ap, ◌∙◌, append_assoc}
use Rattle.script_reader.specs.declared.token.Token.{Token}
use Rattle.script_reader.specs.Tokens.{scan}
use Rattle.script_reader.proofs.Scans.{scan_from}
use Rattle.script_reader.proofs.token.tokens.Goals as goal

pub loop-rest-preserved : goal.loop-rest-preserved
loop-rest-preserved c =
    let from = scan_from c.loop-rest.rest.now c.first_token-token.result c.tail-rest.result.now c.in-len1-up.len_at_least (sym c.is_blank.ensures ∙ c.if-is_blank.false) c.first_token-token.ensures.token c.tail-rest.ensures in
    ap (λ (ts : List Token). ts ++ scan 0 c.tail-rest.result.now) c.in_ok-push.ensures.ok
    ∙ append_assoc c.loop-rest.tokens (c.first_token-token.result.0 ∷ []) (scan 0 c.tail-rest.result.now)
    ∙ ap (λ (ts : List Token). c.loop-rest.tokens ++ ts) (sym from)
    ∙ c.loop-rest.invariant
