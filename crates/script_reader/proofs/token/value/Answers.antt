use Rattle.std.proofs.Common.{◌≡◌, ℕ, ◌+◌, ◌-◌, ◌*◌, ◌^◌, ◌<◌, ◌≤◌, Some, sym, ap, subst, ◌∙◌, arith, get_or}
use Rattle.script_reader.specs.Tokens.{value_from}
use Rattle.script_reader.proofs.Scans.{too_large, small_enough, step_large, value_ends}
use Rattle.script_reader.proofs.token.value.Goals as goal

pub returns-in_err-checked_mul : goal.returns-in_err-checked_mul
returns-in_err-checked_mul c =
    let large : 2 ^ 32 ≤ 10 * c.loop-rest.value + (get_or c.loop-rest.rest.now 0 0 - 48) = omega (arith, c.in_err-checked_mul.ensures) in
    c.from_residual.ensures ∙ sym (too_large _ (subst (λ (n : ℕ). 2 ^ 32 ≤ n) c.loop-rest.invariant.0 (step_large c.loop-rest.value c.loop-rest.rest.now c.in-len1-up.len_at_least large)))

pub returns-in_err-value : goal.returns-in_err-value
returns-in_err-value c =
    let large : 2 ^ 32 ≤ 10 * c.loop-rest.value + (get_or c.loop-rest.rest.now 0 0 - 48) = omega (arith, c.in_err-value.ensures, c.in_ok-checked_mul.ensures.1, c.from.ensures) in
    c.from_residual-in_err-value.ensures ∙ sym (too_large _ (subst (λ (n : ℕ). 2 ^ 32 ≤ n) c.loop-rest.invariant.0 (step_large c.loop-rest.value c.loop-rest.rest.now c.in-len1-up.len_at_least large)))

pub returns : goal.returns
returns c =
    let value : value_from 0 c.args.digits.now ≡ c.loop-rest.value = sym c.loop-rest.invariant.0 ∙ value_ends c.loop-rest.value c.loop-rest.rest.now c.in_default.len_below in
    ap (λ (n : ℕ). Some n) (sym value) ∙ sym (small_enough _ (omega (arith, value, c.loop-rest.invariant.2)))
