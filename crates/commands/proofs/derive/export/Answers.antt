use Rattle.std.proofs.Common.{◌≡◌, ◌++◌, ℕ, List, length, codes, decimal, refl, sym, ap, subst, ◌∙◌, arith, inl, inr}
use Rattle.ck_base.specs.Outside.{file, Becomes}
use Rattle.cert_codec.specs.Tree.{checked_tree}
use Rattle.cert_codec.specs.Spelling.{spell}
use Rattle.commands.specs.Commands.{exported_line}
use Rattle.commands.proofs.Transfers.{prints_after, prints_front}
use Rattle.commands.proofs.derive.export.Goals as goal

pub returns-in-Err-clause-out_fault : goal.returns-in-Err-clause-out_fault
returns-in-Err-clause-out_fault g c = λ _.
    let printed = rw c.as_bytes.ensures at c.in-Err.ensures.printed in
    (c.in-Err.ensures.cause, inl refl, prints_front _ _ _ _ c.args.transcript.now (exported_line (checked_tree c.args.certificate.now)) printed c.in-Err.ensures.cause)

pub returns-clause-out_fault : goal.returns-clause-out_fault
returns-clause-out_fault g c = λ _.
    let before = rw c.as_bytes.ensures at c.in-Ok-print.ensures.whole in
    let spelled : c.as_slice.result.now ≡ spell (checked_tree c.args.certificate.now) = c.as_slice.ensures ∙ c.in-Ok.ensures in
    let count : c.len.result ≡ length (spell (checked_tree c.args.certificate.now)) = c.len.ensures ∙ ap length c.in-Ok.ensures in
    let reply : c.as_bytes-2.result.now ≡ exported_line (checked_tree c.args.certificate.now) =
    c.as_bytes-2.ensures ∙ c.in-Ok-exported_reply.ensures ∙ ap (λ (n : ℕ). codes "exported " ++ (decimal n ++ codes " bytes\n")) count in
    let more = rw reply at c.in-Err-print.ensures.printed in (
      omega (arith, c.in-Err-print.ensures.cause, c.in-Ok-print.ensures.later),
      inr (subst (λ (bytes : List ℕ). Becomes (g.T.Target.written c.args.target.now) (g.T.Target.written c.write_whole.new.target) (file c.args.name.now bytes)) spelled c.in-Ok-write_whole.ensures.whole),
      prints_after _ _ _ _ _ _ c.args.transcript.now (exported_line (checked_tree c.args.certificate.now)) before more c.in-Ok-print.ensures.later,
    )
