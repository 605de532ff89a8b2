-- What holds of the reader's stack at each token: it was read by the grammar, and it stands for the tokens that were read.
use Rattle.std.proofs.Common.{◌≡◌, ℕ, suc, ◌+◌, ◌≤◌, ◌<◌, Bool, true, List, [], ◌∷◌, ◌++◌, refl, ap, ◌∙◌, arith, append_assoc, Some, None, nat_le}
use Rattle.std.proofs.lemmas.Bool.{cond_both, leb-false}
use Rattle.ck_text.specs.declared.token.Mark.TheVariants as marks
use Rattle.ck_text.specs.Tokens.{Token}
use Rattle.ck_text.specs.Tokens as token
use Rattle.ck_text.specs.Texts.{binder, Text, led, joined, lead_tokens, tokens, level, left_want, right_want, lead_level, rank, on_terms, lead_on_terms, is_term, suits, opens, Fits}
use Rattle.ck_text.specs.Machine.{Frame, leading, operand, parenthesis, State, wanting, having, naming, named, sorting, sorted, want, asks, opened, reduced}

-- each frame may stand on those under it, and has a left operand by the grammar
abbrev pub Sits : ℕ → Bool → List Frame → Type 0
Sits limit asked [] = Unit {0}
Sits limit asked (leading l ∷ stack) = (want stack ≤ lead_level l) × (suits (asks asked stack) (lead_on_terms l) ≡ true) × (opened stack < limit) × Sits limit asked stack
Sits limit asked (operand o a ∷ stack) =
    (want stack ≤ level o) × (left_want o ≤ rank a) × (suits (on_terms o) (is_term a) ≡ true) × (suits (asks asked stack) (on_terms o) ≡ true)
    × (opens o + opened stack ≤ limit) × Fits limit (opened stack) a × Sits limit asked stack
Sits limit asked (parenthesis ∷ stack) = (opened stack < limit) × Sits limit asked stack

-- and the operand that is there may stand on them
abbrev pub Stands : ℕ → Bool → List Frame → Text → Type 0
Stands limit asked stack a = Sits limit asked stack × (want stack ≤ rank a) × (suits (asks asked stack) (is_term a) ≡ true) × Fits limit (opened stack) a

abbrev pub Lasts : ℕ → Bool → State → Type 0
Lasts limit asked (wanting stack) = Sits limit asked stack
Lasts limit asked (having stack a) = Stands limit asked stack a
Lasts limit asked (naming q stack) = Sits limit asked (leading (binder q [] None) ∷ stack)
Lasts limit asked (named q bytes stack) = Sits limit asked (leading (binder q bytes None) ∷ stack)
Lasts limit asked (sorting q bytes stack) = Sits limit asked (leading (binder q bytes None) ∷ stack)
Lasts limit asked (sorted q bytes s stack) = Sits limit asked (leading (binder q bytes (Some s)) ∷ stack)

-- the tokens that the stack was read from, before further ones
abbrev pub front : List Frame → List Token → List Token
front [] rest = rest
front (leading l ∷ stack) rest = front stack (lead_tokens l ++ rest)
front (operand o a ∷ stack) rest = front stack (tokens a ++ (token.joining o ∷ rest))
front (parenthesis ∷ stack) rest = front stack (token.mark marks.Open ∷ rest)

abbrev pub before : State → List Token → List Token
before (wanting stack) rest = front stack rest
before (having stack a) rest = front stack (tokens a ++ rest)
before (naming q stack) rest = front stack (token.quantifier q ∷ rest)
before (named q bytes stack) rest = front stack (token.quantifier q ∷ token.word bytes ∷ rest)
before (sorting q bytes stack) rest = front stack (token.quantifier q ∷ token.word bytes ∷ token.mark marks.Colon ∷ rest)
before (sorted q bytes s stack) rest = front stack (token.quantifier q ∷ token.word bytes ∷ token.mark marks.Colon ∷ token.sort s ∷ rest)

-- what is reduced keeps the grammar, and stands for the same tokens
pub reduced_stands : (limit : ℕ) (asked : Bool) (least : ℕ) (stack : List Frame) (a : Text)
    → Stands limit asked stack a → Stands limit asked (reduced least stack a).0 (reduced least stack a).1
reduced_stands limit asked least [] a h = h
reduced_stands limit asked least (leading l ∷ stack) a h =
    cond_both (nat_le least (lead_level l)) (reduced least stack (led l a)) (leading l ∷ stack, a) (λ (x : List Frame × Text). Stands limit asked x.0 x.1)
    (λ t. reduced_stands limit asked least stack (led l a) (h.0.3, h.0.0, h.0.1, (h.1, h.2, h.0.2, h.3))) (λ t. h)
reduced_stands limit asked least (operand o b ∷ stack) a h =
    cond_both (nat_le least (right_want o)) (reduced least stack (joined o b a)) (operand o b ∷ stack, a) (λ (x : List Frame × Text). Stands limit asked x.0 x.1)
    (λ t. reduced_stands limit asked least stack (joined o b a) (h.0.6, h.0.0, h.0.3, (h.0.1, h.1, h.0.2, h.2, h.0.4, h.0.5, h.3))) (λ t. h)
reduced_stands limit asked least (parenthesis ∷ stack) a h = h

pub reduced_front : (least : ℕ) (stack : List Frame) (a : Text) (rest : List Token)
    → front (reduced least stack a).0 (tokens (reduced least stack a).1 ++ rest) ≡ front stack (tokens a ++ rest)
reduced_front least [] a rest = refl
reduced_front least (leading l ∷ stack) a rest =
    cond_both (nat_le least (lead_level l)) (reduced least stack (led l a)) (leading l ∷ stack, a)
    (λ (x : List Frame × Text). front x.0 (tokens x.1 ++ rest) ≡ front stack (lead_tokens l ++ (tokens a ++ rest)))
    (λ t. reduced_front least stack (led l a) rest ∙ ap (front stack) (append_assoc (lead_tokens l) (tokens a) rest)) (λ t. refl)
reduced_front least (operand o b ∷ stack) a rest =
    cond_both (nat_le least (right_want o)) (reduced least stack (joined o b a)) (operand o b ∷ stack, a)
    (λ (x : List Frame × Text). front x.0 (tokens x.1 ++ rest) ≡ front stack (tokens b ++ (token.joining o ∷ (tokens a ++ rest))))
    (λ t. reduced_front least stack (joined o b a) rest ∙ ap (front stack) (append_assoc (tokens b) (token.joining o ∷ tokens a) rest)) (λ t. refl)
reduced_front least (parenthesis ∷ stack) a rest = refl

-- only frames that want less are left on top
pub reduced_want : (most : ℕ) (stack : List Frame) (a : Text) → want (reduced (suc most) stack a).0 ≤ most
reduced_want most [] a = omega arith
reduced_want most (leading l ∷ stack) a =
    cond_both (nat_le (suc most) (lead_level l)) (reduced (suc most) stack (led l a)) (leading l ∷ stack, a) (λ (x : List Frame × Text). want x.0 ≤ most)
    (λ t. reduced_want most stack (led l a)) (λ t. omega (arith, leb-false (suc most) (lead_level l) t))
reduced_want most (operand o b ∷ stack) a =
    cond_both (nat_le (suc most) (right_want o)) (reduced (suc most) stack (joined o b a)) (operand o b ∷ stack, a) (λ (x : List Frame × Text). want x.0 ≤ most)
    (λ t. reduced_want most stack (joined o b a)) (λ t. omega (arith, leb-false (suc most) (right_want o) t))
reduced_want most (parenthesis ∷ stack) a = omega arith
