-- What holds of reading a text as a proof.
use Rattle.std.specs.Prelude.{◌≡◌, ◌↔◌, ℕ, ◌*◌, ◌≤◌, length, Bool, List, Some}
use Rattle.std.specs.declared.result.Result.{Result}
use Rattle.proof_terms.specs.Tree.{ProofTree}
use Rattle.proof_terms.specs.Size.{proof_depth, proof_size}
use Rattle.ck_text.specs.Reading.{Fault}
use Rattle.ck_text.specs.ProofTexts.{ProofText, proof_tokens, IsProofText, ProofScope, proof_of}
use Rattle.ck_text.specs.ProofReading.{IsProofOutcome}
use Rattle.ck_text.specs.ProofItems.{read_proof_bytes}

-- reading the bytes as a proof comes to one thing, and to no other
abbrev pub OneProofOutcome : Type 0
OneProofOutcome =
    (limit proofs most : ℕ) (holes : Bool) (scope : ProofScope) (bytes : List ℕ)
    → (outcome : Result ProofTree Fault) × IsProofOutcome limit proofs most holes scope bytes outcome
    × ((other : Result ProofTree Fault) → IsProofOutcome limit proofs most holes scope bytes other → other ≡ outcome)

-- what the reader over what it keeps answers is what reading comes to, and nothing else is
abbrev pub ReadsProofOutcomes : Type 0
ReadsProofOutcomes =
    (limit proofs most : ℕ) (holes : Bool) (scope : ProofScope) (bytes : List ℕ) (outcome : Result ProofTree Fault)
    → (read_proof_bytes limit proofs most holes scope bytes ≡ outcome) ↔ IsProofOutcome limit proofs most holes scope bytes outcome

-- a proof of at most `proofs` levels means a proof term of at most as many
abbrev pub ProofLevels : Type 0
ProofLevels =
    (limit proofs : ℕ) (holes : Bool) (scope : ProofScope) (p : ProofText) (tree : ProofTree)
    → IsProofText limit proofs holes 0 p → proof_of scope p ≡ Some tree → proof_depth tree ≤ proofs

-- a proof term has at most twice as many nodes as its text has tokens
abbrev pub ProofNodes : Type 0
ProofNodes = (scope : ProofScope) (p : ProofText) (tree : ProofTree) → proof_of scope p ≡ Some tree → proof_size tree ≤ 2 * length (proof_tokens p)
