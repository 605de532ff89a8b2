use Rattle.std.proofs.Common.{◌≡◌, ℕ, List, true, sym, subst, ◌∙◌}
use Rattle.std.specs.List.{list_all}
use Rattle.ck_base.specs.Names.{is_digit}
use Rattle.ck_text.proofs.Scans.{digits_front}
use Rattle.ck_text.proofs.scan.first_token.Goals as goal

pub number-requires : goal.number-requires
number-requires c =
    subst (λ (ds : List ℕ). list_all is_digit ds ≡ true) (sym c.front-then-is_digit.ensures) (digits_front c.args.bytes.now c.args.first c.args.more.now c.digits-taken.result c.requires (sym c.is_digit.ensures ∙ c.if-is_digit.true) c.digits-taken.ensures.count)
