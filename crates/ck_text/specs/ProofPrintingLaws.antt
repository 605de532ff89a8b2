-- What holds of the printed proofs.
use Rattle.std.specs.Prelude.{◌≡◌, ℕ, ◌≤◌, ◌<◌, ◌^◌, true, List, length, Some, None}
use Rattle.ck_base.specs.declared.decl.Decl.{Decl}
use Rattle.ck_base.specs.Names.{AreNames}
use Rattle.proof_terms.specs.Tree.{ProofTree}
use Rattle.proof_terms.specs.Size.{proof_depth}
use Rattle.ck_text.specs.Tokens.{AreTokens}
use Rattle.ck_text.specs.Reading.{tokens_of}
use Rattle.ck_text.specs.ProofTexts.{ProofText, proof_tokens, IsProofText, whole_proof_scope, proof_of, deep_at}
use Rattle.ck_text.specs.ProofReading.{ProofMeans}
use Rattle.ck_text.specs.ProofPrinting.{proof_text, proof_printed, proof_bytes, ProofHasText, HasLowExpressions}

-- the bytes of a written proof have its tokens, where these can be written
abbrev pub ProofPrintedScans : Type 0
ProofPrintedScans = (p : ProofText) → AreTokens (proof_tokens p) → tokens_of (proof_printed p) ≡ proof_tokens p

-- the text of a proof term of at most 2,048 levels, with terms and formulas of at most 256, is one of the grammar
abbrev pub ProofTextIs : Type 0
ProofTextIs =
    (names : List Decl) (variables hypotheses : ℕ) (p : ProofTree)
    → hypotheses < 2 ^ 31 → proof_depth p ≤ 2048 → HasLowExpressions 256 p → ProofHasText (length names) variables hypotheses p
    → IsProofText 512 2048 true 0 (proof_text names variables hypotheses p)

-- it means the proof term, and no term or formula in it is too deep
abbrev pub ProofTextMeans : Type 0
ProofTextMeans =
    (names : List Decl) (variables hypotheses : ℕ) (p : ProofTree)
    → AreNames names → variables < 2 ^ 31 → proof_depth p ≤ 2048 → HasLowExpressions 256 p → ProofHasText (length names) variables hypotheses p
    → (proof_of (whole_proof_scope names variables hypotheses) (proof_text names variables hypotheses p) ≡ Some p)
    × (deep_at 0 256 (proof_text names variables hypotheses p) ≡ None)

-- the printed bytes of a proof term mean it
abbrev pub ProofReadsBack : Type 0
ProofReadsBack =
    (names : List Decl) (variables hypotheses : ℕ) (p : ProofTree)
    → AreNames names → variables < 2 ^ 31 → hypotheses < 2 ^ 31
    → proof_depth p ≤ 2048 → HasLowExpressions 256 p → ProofHasText (length names) variables hypotheses p
    → ProofMeans 512 2048 256 true (whole_proof_scope names variables hypotheses) (proof_bytes names variables hypotheses p) p
