use Rattle.std.proofs.Common.{◌≡◌, ◌+◌, ◌^◌, ◌<◌, ◌++◌, map, sym, ap, subst, ◌∙◌}
use Rattle.arith_axioms.specs.Polynomials.{absolute_sum}
use Rattle.arith_axioms.specs.Gathering.{shown}
use Rattle.arith_axioms.proofs.Expansions.{appended_sum}
use Rattle.arith_axioms.proofs.comparing.difference.Goals as goal

pub least_nonzero-requires-clause-room : goal.least_nonzero-requires-clause-room
least_nonzero-requires-clause-room c =
    let one : map shown c.lend.new.entries.items ≡ c.args.left.now = c.in_ok-lend.ensures ∙ ap (λ xs. map shown xs ++ c.args.left.now) c.new-entries.ensures.items in
    let two : map shown c.lend-2.new.entries.items ≡ c.args.left.now ++ c.args.right.now = c.in_ok-lend-2.ensures ∙ ap (λ xs. xs ++ c.args.right.now) one in
    let sum : absolute_sum (map shown c.as_slice.result.now) ≡ absolute_sum c.args.left.now + absolute_sum c.args.right.now =
    ap (λ xs. absolute_sum (map shown xs)) c.as_slice.ensures.value ∙ c.sort.ensures.sum ∙ ap absolute_sum two ∙ appended_sum c.args.left.now c.args.right.now in
    subst (λ n. n < 2 ^ 127) (sym sum) c.requires
