-- What reading a text as a proof comes to: the proof term that it means, or a fault and its column.
use Rattle.std.specs.Prelude.{◌≡◌, ℕ, Bool, List, take, drop, Some, None, Ok, Err}
use Rattle.std.specs.declared.result.Result.{Result}
use Rattle.proof_terms.specs.Tree.{ProofTree}
use Rattle.ck_text.specs.Reading.{column_at, tokens_of, Fault, by_syntax, by_depth, by_name}
use Rattle.ck_text.specs.ProofTexts.{ProofText, proof_tokens, IsProofText, ProofScope, proof_of, deep_at, unknown_in_proof}
use Rattle.ck_text.specs.ProofLaws.{ProofStopsAt}

-- In each of these, `limit` says how many levels a term or formula may open, `proofs` how many proofs may be open at
-- once, and `most` how many levels the tree of a term or formula may have.

-- the bytes are those of the proof
abbrev pub IsProofWritten : (limit proofs : ℕ) (holes : Bool) (bytes : List ℕ) → ProofText → Type 0
IsProofWritten limit proofs holes bytes p = IsProofText limit proofs holes 0 p × (proof_tokens p ≡ tokens_of bytes)

-- they are those of a proof that means the proof term, and no term or formula in it is too deep
abbrev pub ProofMeans : (limit proofs most : ℕ) (holes : Bool) → ProofScope → (bytes : List ℕ) → ProofTree → Type 0
ProofMeans limit proofs most holes scope bytes tree =
    (p : ProofText) × IsProofWritten limit proofs holes bytes p × (deep_at 0 most p ≡ None) × (proof_of scope p ≡ Some tree)

-- The tokens before the one at the column begin a proof, and with it they begin none; at the end, the tokens are
-- no whole proof.
abbrev pub IsProofSyntaxFault : (limit proofs : ℕ) (holes : Bool) (bytes : List ℕ) (column : ℕ) → Type 0
IsProofSyntaxFault limit proofs holes bytes column =
    (k : ℕ) × ProofStopsAt limit proofs holes (take k (tokens_of bytes)) (drop k (tokens_of bytes)) × (column ≡ column_at bytes k)

-- the first term or formula of more than `most` levels begins at the column
abbrev pub IsProofDepthFault : (limit proofs most : ℕ) (holes : Bool) (bytes : List ℕ) (column : ℕ) → Type 0
IsProofDepthFault limit proofs most holes bytes column =
    (p : ProofText) × IsProofWritten limit proofs holes bytes p × (k : ℕ) × (deep_at 0 most p ≡ Some k) × (column ≡ column_at bytes k)

-- no term or formula is too deep, and the first name or `#k` that means nothing stands at the column
abbrev pub IsProofNameFault : (limit proofs most : ℕ) (holes : Bool) → ProofScope → (bytes : List ℕ) (column : ℕ) → Type 0
IsProofNameFault limit proofs most holes scope bytes column =
    (p : ProofText) × IsProofWritten limit proofs holes bytes p × (deep_at 0 most p ≡ None)
    × (k : ℕ) × (unknown_in_proof 0 scope p ≡ Some k) × (column ≡ column_at bytes k)

-- what reading the bytes as a proof comes to
abbrev pub IsProofOutcome : (limit proofs most : ℕ) (holes : Bool) → ProofScope → (bytes : List ℕ) → Result ProofTree Fault → Type 0
IsProofOutcome limit proofs most holes scope bytes (Ok tree) = ProofMeans limit proofs most holes scope bytes tree
IsProofOutcome limit proofs most holes scope bytes (Err (by_syntax column)) = IsProofSyntaxFault limit proofs holes bytes column
IsProofOutcome limit proofs most holes scope bytes (Err (by_depth column)) = IsProofDepthFault limit proofs most holes bytes column
IsProofOutcome limit proofs most holes scope bytes (Err (by_name column)) = IsProofNameFault limit proofs most holes scope bytes column
