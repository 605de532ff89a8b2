use Rattle.std.proofs.Common.{sym, ap, ◌∙◌, arith}
use Rattle.ck_text.specs.Texts.{first_of}
use Rattle.ck_text.specs.ProofViews as views
use Rattle.ck_text.proofs.ProofRuns.{run_goes}
use Rattle.ck_text.proofs.proof_reader.run.Goals as goal

pub loop-rest-preserved : goal.loop-rest-preserved
loop-rest-preserved c =
    let r = run_goes c.args.holes (views.scope c.args.outer) c.loop-rest.rest.now _ (views.state c.loop-rest.stage c.loop-rest.calls) (views.state c.in-Some.next.stage c.step.new.calls)
    c.loop-rest.deep c.loop-rest.unknown c.first-deep.result c.first-unknown.result c.in-len1-up.len_at_least c.loop-rest.invariant.2 c.loop-rest.invariant.3
    (sym c.in_ok-next.ensures.state ∙ ap (λ n. views.maybe_next n c.step.new.calls) c.in-Some.is)
    (c.first-deep.ensures ∙ ap (first_of c.loop-rest.deep) (rw c.in-Some.is at c.in_ok-next.ensures.deep))
    (c.first-unknown.ensures ∙ ap (first_of c.loop-rest.unknown) (rw c.as_slice.ensures at c.unknown_here.ensures)) in (
      c.loop-rest.invariant.0 ∙ r.0,
      omega (arith, c.loop-rest.invariant.1, rw c.in-Some.is at c.in_ok-next.ensures.few, r.2),
      r.1,
      r.3,
    )
