use Rattle.std.proofs.Common.{◌++◌, length, sym, ap, map, ◌∙◌}
use Rattle.ck_text.specs.Tokens.{scan}
use Rattle.ck_text.specs.Views as views
use Rattle.ck_text.proofs.Scans.{scan_from, one_more}
use Rattle.ck_text.proofs.scan.tokens.Goals as goal

pub loop-rest-preserved : goal.loop-rest-preserved
loop-rest-preserved c =
    let from = scan_from c.loop-rest.rest.now (views.token c.first_token-taken.result.0, c.first_token-taken.result.1) c.tail-rest.result.now c.in-len1-up.len_at_least (sym c.is_blank.ensures ∙ c.if-is_blank.false) c.first_token-taken.ensures.token c.tail-rest.ensures in
    ap (λ placed. map views.placed placed ++ scan 0 c.tail-rest.result.now) c.in_ok-push.ensures.ok
    ∙ one_more c.loop-rest.placed (record { left = length c.loop-rest.rest.now; token = c.first_token-taken.result.0 }) c.loop-rest.rest.now c.tail-rest.result.now c.args.bytes.now c.loop-rest.invariant from
