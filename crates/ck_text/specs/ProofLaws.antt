-- What holds of the reader of proofs.
use Rattle.std.specs.Prelude.{◌≡◌, ℕ, ◌≤◌, Bool, List, [], ◌∷◌, ◌++◌, length, is_none, Ok, Err}
use Rattle.std.specs.Option.{is_some}
use Rattle.ck_text.specs.Tokens.{Token, AreTokens}
use Rattle.ck_text.specs.ProofTexts.{ProofText, proof_tokens, IsProofText, reached, ProofScope, proof_of, unknown_in_proof}
use Rattle.ck_text.specs.ProofMachine.{read}

-- Some proof begins with these tokens, and goes on with tokens that can be written. Those of its proofs that begin
-- among these tokens are within the limit; those after them may be deeper.
abbrev pub BeginsProof : (limit most : ℕ) (holes : Bool) → List Token → Type 0
BeginsProof limit most holes front =
    (p : ProofText) × (more : List Token) × (deep : ℕ)
    × IsProofText limit deep holes 0 p × (proof_tokens p ≡ front ++ more) × (reached (length front) p ≤ most) × AreTokens more

-- no proof begins with these tokens in such a way, however deep it may be after them
abbrev pub BeginsNoProof : (limit most : ℕ) (holes : Bool) → List Token → Type 0
BeginsNoProof limit most holes front =
    (p : ProofText) (more : List Token) (deep : ℕ)
    → IsProofText limit deep holes 0 p → proof_tokens p ≡ front ++ more → reached (length front) p ≤ most → ⊥

-- The tokens at the front begin a proof, and with the next token they begin none; at the end of the tokens, those
-- at the front are no whole proof.
abbrev pub ProofStopsAt : (limit most : ℕ) (holes : Bool) (front rest : List Token) → Type 0
ProofStopsAt limit most holes front [] =
    BeginsProof limit most holes front × ((p : ProofText) → IsProofText limit most holes 0 p → proof_tokens p ≡ front → ⊥)
ProofStopsAt limit most holes front (t ∷ rest) = BeginsProof limit most holes front × BeginsNoProof limit most holes (front ++ t ∷ [])

-- What is read is a proof with just these tokens; every proof is read from its tokens; and where the reader stops,
-- the tokens before begin a proof, and with the next one they begin none.
abbrev pub ReadsProofsExactly : Type 0
ReadsProofsExactly =
    (limit most : ℕ) (holes : Bool)
    → ((ts : List Token) (p : ProofText) → read limit most holes ts ≡ Ok p → IsProofText limit most holes 0 p × (proof_tokens p ≡ ts))
    × ((p : ProofText) → IsProofText limit most holes 0 p → read limit most holes (proof_tokens p) ≡ Ok p)
    × ((ts rest : List Token) → read limit most holes ts ≡ Err rest
    → (front : List Token) × (ts ≡ front ++ rest) × ProofStopsAt limit most holes front rest)

-- two proofs with the same tokens are the same
abbrev pub OneProof : Type 0
OneProof =
    (limit most : ℕ) (holes : Bool) (p q : ProofText)
    → IsProofText limit most holes 0 p → IsProofText limit most holes 0 q → proof_tokens p ≡ proof_tokens q → p ≡ q

-- A proof means a proof term exactly where no name and no `#k` in it is the first that means nothing.
abbrev pub ProofMeansKnown : Type 0
ProofMeansKnown =
    (limit most : ℕ) (holes : Bool) (first : ℕ) (scope : ProofScope) (p : ProofText)
    → IsProofText limit most holes 0 p → is_some (proof_of scope p) ≡ is_none (unknown_in_proof first scope p)
