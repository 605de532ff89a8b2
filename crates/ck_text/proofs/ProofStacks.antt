-- What holds of the stack of the reader of proofs at each token: it was read by the grammar, and it stands for the tokens that were read.
use Rattle.std.proofs.Common.{◌≡◌, ℕ, suc, ◌≤◌, ◌<◌, Bool, true, false, List, [], ◌∷◌, ◌++◌, length, refl, sym, ap, subst, ◌∙◌, arith, append_assoc}
use Rattle.ck_text.specs.declared.head.Head.{Head}
use Rattle.ck_text.specs.declared.token.Mark.TheVariants as marks
use Rattle.ck_text.specs.Tokens.{Token}
use Rattle.ck_text.specs.Tokens as token
use Rattle.ck_text.specs.Texts.{tokens, lead_tokens}
use Rattle.ck_text.specs.Machine as expression
use Rattle.ck_text.specs.ProofTexts.{Kind, kinds, head_word, headed, Arguments, more, Argument, proof_tokens, arguments_tokens, argument_tokens, AreArguments, IsArgument}
use Rattle.ck_text.specs.ProofMachine.{Frame, calling, State, expecting, marked, opening, within, complete, asked, asks_term, gathered}
use Rattle.ck_text.proofs.Stacks as inner
use Rattle.ck_text.proofs.ProofTables.{IsProofKind, IsExpressionKind}

-- the arguments that are read, the newest first, are of the first kinds, and so many are still wanted
abbrev pub AreDone : (limit deep : ℕ) (holes : Bool) (around : ℕ) → List Kind → List Argument → List Kind → Type 0
AreDone limit deep holes around ks [] wanted = ks ≡ wanted
AreDone limit deep holes around ks (a ∷ done) wanted = (k : Kind) × IsArgument limit deep holes around k a × AreDone limit deep holes around ks done (k ∷ wanted)

pub gathered_are : (limit deep : ℕ) (holes : Bool) (around : ℕ) (ks : List Kind) (done : List Argument) (wanted : List Kind) (others : Arguments)
    → AreDone limit deep holes around ks done wanted → AreArguments limit deep holes around wanted others → AreArguments limit deep holes around ks (gathered done others)
gathered_are limit deep holes around ks [] wanted others d h = subst (λ x. AreArguments limit deep holes around x others) (sym d) h
gathered_are limit deep holes around ks (a ∷ done) wanted others d h = gathered_are limit deep holes around ks done (d.0 ∷ wanted) (more a others) d.2 (d.1, h)

-- Each frame stands where a proof is wanted, within `most` proofs, and its arguments are of its kinds. They may
-- themselves hold `deep` proofs.
abbrev pub Sits : (limit most deep : ℕ) (holes : Bool) → List Frame → Type 0
Sits limit most deep holes [] = Unit {0}
Sits limit most deep holes (calling h done k after ∷ stack) =
    IsProofKind (asked stack) × (length stack < most) × AreDone limit deep holes (suc (length stack)) (kinds h) done (k ∷ after) × Sits limit most deep holes stack

abbrev pub Lasts : (limit most deep : ℕ) (holes : Bool) → State → Type 0
Lasts limit most deep holes (expecting stack) = Sits limit most deep holes stack
Lasts limit most deep holes (marked hole stack) = Sits limit most deep holes stack × IsProofKind (asked stack) × (length stack < most) × (hole ≡ true → holes ≡ true)
Lasts limit most deep holes (opening h stack) = Sits limit most deep holes stack × IsProofKind (asked stack) × (length stack < most)
Lasts limit most deep holes (within st stack) = Sits limit most deep holes stack × IsExpressionKind (asked stack) × inner.Lasts limit (asks_term (asked stack)) st
Lasts limit most deep holes (complete stack a) = Sits limit most deep holes stack × IsArgument limit deep holes (length stack) (asked stack) a

pub sits_low : (limit most deep : ℕ) (holes : Bool) (stack : List Frame) → Sits limit most deep holes stack → length stack ≤ most
sits_low limit most deep holes [] h = omega arith
sits_low limit most deep holes (calling g done k after ∷ stack) h = h.1

-- # Tokens

-- the tokens of the arguments, before further ones
abbrev pub done_front : List Argument → List Token → List Token
done_front [] rest = rest
done_front (a ∷ done) rest = done_front done (argument_tokens a ++ (token.mark marks.Comma ∷ rest))

abbrev pub front : List Frame → List Token → List Token
front [] rest = rest
front (calling h done k after ∷ stack) rest = front stack (token.word (head_word h) ∷ token.mark marks.Open ∷ done_front done rest)

abbrev pub mark_token : Bool → Token
mark_token false = token.mark marks.Hash
mark_token true = token.mark marks.Question

abbrev pub before : State → List Token → List Token
before (expecting stack) rest = front stack rest
before (marked hole stack) rest = front stack (mark_token hole ∷ rest)
before (opening h stack) rest = front stack (token.word (head_word h) ∷ rest)
before (within st stack) rest = front stack (inner.before st rest)
before (complete stack a) rest = front stack (argument_tokens a ++ rest)

pub gathered_front : (done : List Argument) (others : Arguments) (rest : List Token) → done_front done (arguments_tokens others ++ rest) ≡ arguments_tokens (gathered done others) ++ rest
gathered_front [] others rest = refl
gathered_front (a ∷ done) others rest =
    ap (done_front done) (sym (append_assoc (argument_tokens a) (token.mark marks.Comma ∷ arguments_tokens others) rest)) ∙ gathered_front done (more a others) rest

-- a rule whose last arguments these are
pub closed_front : (h : Head) (done : List Argument) (others : Arguments) (rest : List Token)
    → token.word (head_word h) ∷ token.mark marks.Open ∷ done_front done (arguments_tokens others ++ (token.mark marks.Close ∷ rest)) ≡ proof_tokens (headed h (gathered done others)) ++ rest
closed_front h done others rest =
    ap (λ ts. token.word (head_word h) ∷ token.mark marks.Open ∷ ts)
    (gathered_front done others (token.mark marks.Close ∷ rest) ∙ sym (append_assoc (arguments_tokens (gathered done others)) (token.mark marks.Close ∷ []) rest))

-- # Inside a term or formula

inner_front : (stack : List expression.Frame) (ts rest : List Token) → inner.front stack (ts ++ rest) ≡ inner.front stack ts ++ rest
inner_front [] ts rest = refl
inner_front (expression.leading l ∷ stack) ts rest =
    ap (inner.front stack) (sym (append_assoc (lead_tokens l) ts rest)) ∙ inner_front stack (lead_tokens l ++ ts) rest
inner_front (expression.operand o a ∷ stack) ts rest =
    ap (inner.front stack) (sym (append_assoc (tokens a) (token.joining o ∷ ts) rest)) ∙ inner_front stack (tokens a ++ (token.joining o ∷ ts)) rest
inner_front (expression.parenthesis ∷ stack) ts rest = inner_front stack (token.mark marks.Open ∷ ts) rest

-- what is read of a term or formula stands before all that follows
pub inner_before : (st : expression.State) (ts rest : List Token) → inner.before st (ts ++ rest) ≡ inner.before st ts ++ rest
inner_before (expression.wanting stack) ts rest = inner_front stack ts rest
inner_before (expression.having stack a) ts rest =
    ap (inner.front stack) (sym (append_assoc (tokens a) ts rest)) ∙ inner_front stack (tokens a ++ ts) rest
inner_before (expression.naming q stack) ts rest = inner_front stack (token.quantifier q ∷ ts) rest
inner_before (expression.named q bytes stack) ts rest = inner_front stack (token.quantifier q ∷ token.word bytes ∷ ts) rest
inner_before (expression.sorting q bytes stack) ts rest = inner_front stack (token.quantifier q ∷ token.word bytes ∷ token.mark marks.Colon ∷ ts) rest
inner_before (expression.sorted q bytes s stack) ts rest = inner_front stack (token.quantifier q ∷ token.word bytes ∷ token.mark marks.Colon ∷ token.sort s ∷ ts) rest
