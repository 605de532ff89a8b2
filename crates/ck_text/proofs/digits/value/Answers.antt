use Rattle.std.proofs.Common.{ℕ, ◌+◌, ◌-◌, ◌*◌, ◌^◌, ◌≤◌, sym, subst, ◌∙◌, arith, get_or}
use Rattle.ck_text.proofs.Values.{too_large, step_large}
use Rattle.ck_text.proofs.digits.value.Goals as goal

pub returns-in_err-checked_mul : goal.returns-in_err-checked_mul
returns-in_err-checked_mul c =
    let large : 2 ^ 128 ≤ 10 * c.loop-rest.value + (get_or c.loop-rest.rest.now 0 0 - 48) = omega (arith, c.in_err-checked_mul.ensures) in
    c.from_residual.ensures ∙ sym (too_large _ (2 ^ 128) (subst (λ (n : ℕ). 2 ^ 128 ≤ n) c.loop-rest.invariant.0 (step_large (2 ^ 128) c.loop-rest.value c.loop-rest.rest.now c.in-len1-up.len_at_least large)))

pub returns-in_err-value : goal.returns-in_err-value
returns-in_err-value c =
    let large : 2 ^ 128 ≤ 10 * c.loop-rest.value + (get_or c.loop-rest.rest.now 0 0 - 48) = omega (arith, c.in_err-value.ensures, c.in_ok-checked_mul.ensures.1, c.from.ensures) in
    c.from_residual-in_err-value.ensures ∙ sym (too_large _ (2 ^ 128) (subst (λ (n : ℕ). 2 ^ 128 ≤ n) c.loop-rest.invariant.0 (step_large (2 ^ 128) c.loop-rest.value c.loop-rest.rest.now c.in-len1-up.len_at_least large)))
