use Rattle.std.proofs.Common.{◌-◌, length, map, take, drop, sym, ap, ◌∙◌, arith}
use Rattle.ck_base.specs.declared.limits.TheConstants.{FORMULA_DEPTH, NESTING}
use Rattle.ck_text.specs.Items as spec
use Rattle.ck_text.specs.Texts as grammar
use Rattle.ck_text.specs.Views as views
use Rattle.ck_text.proofs.Runs.{run_goes}
use Rattle.ck_text.proofs.reader.run.Goals as goal

pub loop-rest-preserved : goal.loop-rest-preserved
loop-rest-preserved c =
    let r = run_goes c.args.asked (grammar.whole_scope c.args.names.now c.args.variables) c.loop-rest.rest.now _ (views.state c.loop-rest.mode c.loop-rest.stack) (views.state c.in-Some.next c.step.new.stack) c.loop-rest.unknown
    c.in-len1-up.len_at_least c.loop-rest.invariant.2 c.loop-rest.invariant.3 (sym c.in_ok-next.ensures.state ∙ ap (λ m. views.maybe_state m c.step.new.stack) c.in-Some.is) in (
      c.loop-rest.invariant.0 ∙ r.0 ∙ ap (λ u. spec.run NESTING FORMULA_DEPTH c.args.asked (grammar.whole_scope c.args.names.now c.args.variables) (map views.placed (take (length c.loop-rest.rest.now - 1) (drop 1 c.loop-rest.rest.now)))
          (views.state c.in-Some.next c.step.new.stack) u) (sym (rw c.as_slice.ensures at c.first_unknown-unknown.ensures)),
      omega (arith, c.loop-rest.invariant.1, c.in_ok-next.ensures.few, r.3),
      r.1,
      r.2,
    )
