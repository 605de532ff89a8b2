-- The tokens of bytes are such that the reader takes them.
use Rattle.std.proofs.Common.{◌≡◌, ℕ, zero, suc, ◌≤◌, List, [], ◌∷◌, length, map, refl, ap, arith}
use Rattle.std.proofs.lemmas.Bool.{cond_both}
use Rattle.ck_text.specs.Tokens.{Token, Placed, number, none, IsToken, is_blank, first_token, scan}
use Rattle.ck_text.specs.Laws.{AreWritten}
use Rattle.ck_text.specs.Views.{IsSmall, AreSmall}
use Rattle.ck_text.specs.Views as views
use Rattle.ck_text.specs.declared.scan.Placed as code_placed
use Rattle.ck_text.proofs.Scanning.{tokens_are_written}

small : (t : Token) → ((t ≡ none → ⊥) → IsToken t) → IsSmall t
small (number n) h = h (λ e. cc)
small t h = tt

are_small : (placed : List Placed) → AreWritten placed → AreSmall placed
are_small [] h = tt
are_small (p ∷ placed) h = (small p.token h.0, are_small placed h.1)

pub smalls : (bytes : List ℕ) → AreSmall (scan 0 bytes)
smalls bytes = are_small (scan 0 bytes) (tokens_are_written bytes)

-- there are no more tokens than bytes
pub scan_length : (skipped : ℕ) (bytes : List ℕ) → length (scan skipped bytes) ≤ length bytes
scan_length skipped [] = omega arith
scan_length (suc skipped) (b ∷ bytes) = omega (arith, scan_length skipped bytes)
scan_length zero (b ∷ bytes) =
    cond_both (is_blank b) (scan zero bytes) (record { left = suc (length bytes); token = (first_token b bytes).0 } ∷ scan (first_token b bytes).1 bytes) (λ x. length x ≤ suc (length bytes))
    (λ e. omega (arith, scan_length zero bytes)) (λ e. omega (arith, scan_length (first_token b bytes).1 bytes))

pub placed_length : (placed : List code_placed.Placed) → length (map views.placed placed) ≡ length placed
placed_length [] = refl
placed_length (p ∷ placed) = ap suc (placed_length placed)
