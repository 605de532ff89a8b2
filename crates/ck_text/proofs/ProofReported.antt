-- What the reader of proofs answers, in the words of what reading a text as a proof comes to.
use Rattle.std.proofs.Common.{◌≡◌, ℕ, ◌*◌, ◌≤◌, Bool, List, length, Ok, Err, Result, IfOk, refl, subst, ap, arith}
use Rattle.ck_base.specs.declared.limits.TheConstants.{NESTING, FORMULA_DEPTH, PROOF_DEPTH}
use Rattle.proof_terms.specs.declared.proof.Proof.{Proof}
use Rattle.proof_terms.specs.Tree.{ProofTree, proof_tree}
use Rattle.proof_terms.specs.Size.{proof_depth, proof_size}
use Rattle.ck_text.specs.declared.text_fault.TextFault.{TextFault}
use Rattle.ck_text.specs.declared.text_fault.TextFault.TheVariants as faults
use Rattle.ck_text.specs.Tokens.{scan}
use Rattle.ck_text.specs.Reading.{by_syntax, by_depth, by_name}
use Rattle.ck_text.specs.ProofTexts.{ProofScope}
use Rattle.ck_text.specs.ProofReading.{ProofMeans, IsProofSyntaxFault, IsProofDepthFault, IsProofNameFault}
use Rattle.ck_text.specs.ProofItems.{read_proof_bytes}
use Rattle.ck_text.specs.ProofViews.{ReadsProof}
use Rattle.ck_text.proofs.Smalls.{scan_length}
use Rattle.ck_text.proofs.ProofLevels.{proof_levels}
use Rattle.ck_text.proofs.ProofNodes.{proof_nodes}
use Rattle.ck_text.proofs.ProofAnswers.{reads_proof_outcomes}
use Rattle.ck_text.proofs.Outcomes.{bare_length}

-- what holds of each answer that is given
if_ok : {A E : Type 0} (r : Result A E) (P : A → Type 0) → ((x : A) → r ≡ Ok x → P x) → IfOk r P
if_ok (Ok x) P f = f x refl
if_ok (Err e) P f = tt

module _ (holes : Bool) (scope : ProofScope) (bytes : List ℕ) where
  -- a proof term of a text has few levels, and few nodes
  extent : (tree : ProofTree) → ProofMeans NESTING PROOF_DEPTH FORMULA_DEPTH holes scope bytes tree → (proof_depth tree ≤ PROOF_DEPTH) × (proof_size tree ≤ 2 * length bytes)
  extent tree m = (
    proof_levels NESTING PROOF_DEPTH holes scope m.0 tree m.1.0 m.3,
    omega (arith, proof_nodes scope m.0 tree m.3, ap length m.1.1, bare_length (scan 0 bytes), scan_length 0 bytes),
  )

  module _ (r : Result Proof TextFault) (h : ReadsProof r (read_proof_bytes NESTING PROOF_DEPTH FORMULA_DEPTH holes scope bytes)) where
    tree_means : (p : Proof) → r ≡ Ok p → ProofMeans NESTING PROOF_DEPTH FORMULA_DEPTH holes scope bytes (proof_tree p)
    tree_means p e =
        (reads_proof_outcomes NESTING PROOF_DEPTH FORMULA_DEPTH holes scope bytes (Ok (proof_tree p))).0
        (subst (λ x. ReadsProof x (read_proof_bytes NESTING PROOF_DEPTH FORMULA_DEPTH holes scope bytes)) e h)

    pub proof_means : IfOk r (λ p. ProofMeans NESTING PROOF_DEPTH FORMULA_DEPTH holes scope bytes (proof_tree p))
    proof_means = if_ok r (λ p. ProofMeans NESTING PROOF_DEPTH FORMULA_DEPTH holes scope bytes (proof_tree p)) tree_means

    pub proof_is_low : IfOk r (λ p. proof_depth (proof_tree p) ≤ PROOF_DEPTH)
    proof_is_low = if_ok r (λ p. proof_depth (proof_tree p) ≤ PROOF_DEPTH) (λ p e. (extent (proof_tree p) (tree_means p e)).0)

    pub proof_is_small : IfOk r (λ p. proof_size (proof_tree p) ≤ 2 * length bytes)
    proof_is_small = if_ok r (λ p. proof_size (proof_tree p) ≤ 2 * length bytes) (λ p e. (extent (proof_tree p) (tree_means p e)).1)

    pub proof_syntax_fault : (column : ℕ) → r ≡ Err (faults.Syntax column) → IsProofSyntaxFault NESTING PROOF_DEPTH holes bytes column
    proof_syntax_fault column e =
        (reads_proof_outcomes NESTING PROOF_DEPTH FORMULA_DEPTH holes scope bytes (Err (by_syntax column))).0
        (subst (λ x. ReadsProof x (read_proof_bytes NESTING PROOF_DEPTH FORMULA_DEPTH holes scope bytes)) e h)

    pub proof_depth_fault : (column : ℕ) → r ≡ Err (faults.Deep column) → IsProofDepthFault NESTING PROOF_DEPTH FORMULA_DEPTH holes bytes column
    proof_depth_fault column e =
        (reads_proof_outcomes NESTING PROOF_DEPTH FORMULA_DEPTH holes scope bytes (Err (by_depth column))).0
        (subst (λ x. ReadsProof x (read_proof_bytes NESTING PROOF_DEPTH FORMULA_DEPTH holes scope bytes)) e h)

    pub proof_name_fault : (column : ℕ) → r ≡ Err (faults.Unknown column) → IsProofNameFault NESTING PROOF_DEPTH FORMULA_DEPTH holes scope bytes column
    proof_name_fault column e =
        (reads_proof_outcomes NESTING PROOF_DEPTH FORMULA_DEPTH holes scope bytes (Err (by_name column))).0
        (subst (λ x. ReadsProof x (read_proof_bytes NESTING PROOF_DEPTH FORMULA_DEPTH holes scope bytes)) e h)
