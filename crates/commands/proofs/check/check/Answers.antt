use Rattle.std.proofs.Common.{◌≡◌, ℕ, List, refl, sym, subst, ◌∙◌, rules}
use Rattle.cert_codec.specs.Tree.{checked_tree}
use Rattle.cert_check.specs.Valid.{IsFileOf}
use Rattle.cert_check.proofs.Sound.{keeps_promise}
use Rattle.commands.proofs.check.check.Goals as goal

pub returns-in-Err-TooLong-clause-too_long : goal.returns-in-Err-TooLong-clause-too_long
returns-in-Err-TooLong-clause-too_long g c = λ _.
    let long = (rw c.in-Err-TooLong.field-0-is at c.in-Err-TooLong.ensures.long) (search rules) in
    record { name = c.args.name.now; named = refl; bytes = long.0; reads = record { holds = long.1; leaves = long.3 }; long = long.2; printed = c.reported.ensures.printed }

pub returns-in-Ok-print-clause-done : goal.returns-in-Ok-print-clause-done
returns-in-Ok-print-clause-done g c = λ _.
    let valid : IsFileOf (checked_tree c.in-Ok-check.certificate) c.in-Ok.bytes.items = subst (λ (bytes : List ℕ). IsFileOf (checked_tree c.in-Ok-check.certificate) bytes) c.as_slice.ensures.value c.in-Ok-check.ensures.valid in
    record {
      name = c.args.name.now;
      named = refl;
      bytes = c.in-Ok.bytes.items;
      reads = record { holds = c.in-Ok.ensures.whole; leaves = c.in-Ok.ensures.end };
      certificate = checked_tree c.in-Ok-check.certificate;
      valid = valid;
      promise = keeps_promise c.in-Ok.bytes.items (checked_tree c.in-Ok-check.certificate) valid;
      printed = rw (sym (c.as_bytes.ensures ∙ c.in-Ok-triple.ensures)) c.in-Ok-print.ensures.whole;
    }
