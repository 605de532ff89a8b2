-- No name is the first that means nothing exactly where each name of a text means something.
use Rattle.std.proofs.Common.{◌≡◌, ℕ, suc, ◌+◌, Bool, true, false, ◌&&◌, length, refl, sym, ap₂, ◌∙◌, Option, Some, None, if◌then◌else◌}
use Rattle.std.specs.Prelude.{is_none}
use Rattle.std.specs.Option.{is_some}
use Rattle.std.proofs.lemmas.List.Folds.{list_all-append}
use Rattle.ck_text.specs.Texts.{prefix, binder, truth, falsity, name, number, led, joined, closed, tokens, lead_tokens, under, first_of, meaning_of, names_in, is_known}
use Rattle.ck_text.specs.Reading.{unknown_at}
use Rattle.ck_text.specs.ReadingLaws.{UnknownNames}

none_test : (known : Bool) (first : ℕ) → is_none (if known then None else Some first) ≡ (known && true)
none_test true first = refl
none_test false first = refl

none_first : {A : Type 0} (o p : Option A) → is_none (first_of o p) ≡ (is_none o && is_none p)
none_first (Some a) p = refl
none_first None p = refl

pub unknown_names : UnknownNames
unknown_names first scope (truth b) = refl
unknown_names first scope falsity = refl
unknown_names first scope (name bytes) = none_test (is_some (meaning_of scope bytes)) first
unknown_names first scope (number n) = refl
unknown_names first scope (led (prefix p) a) = unknown_names (first + length (lead_tokens (prefix p))) scope a
unknown_names first scope (led (binder q bytes s) a) = unknown_names (first + length (lead_tokens (binder q bytes s))) (under bytes scope) a
unknown_names first scope (joined o a b) =
    none_first (unknown_at first scope a) (unknown_at (suc (first + length (tokens a))) scope b)
    ∙ ap₂ (λ x y. x && y) (unknown_names first scope a) (unknown_names (suc (first + length (tokens a))) scope b)
    ∙ sym (list_all-append is_known (names_in scope a) (names_in scope b))
unknown_names first scope (closed a) = unknown_names (suc first) scope a
