-- What the reader of proofs over what it keeps answers is what reading a text as a proof comes to.
use Rattle.std.proofs.Common.{◌≡◌, ℕ, ◌≤◌, Bool, List, [], length, take, drop, refl, sym, subst, ap, ◌∙◌, arith, Option, Some, None, Ok, Err}
use Rattle.std.specs.Prelude.{is_none}
use Rattle.std.specs.declared.result.Result.{Result}
use Rattle.std.specs.Option.{option_map, is_some}
use Rattle.proof_terms.specs.Tree.{ProofTree}
use Rattle.ck_text.specs.Tokens.{Token, Placed, scan}
use Rattle.ck_text.specs.Reading.{column_at, tokens_of, Fault, by_syntax}
use Rattle.ck_text.specs.ProofTexts.{ProofText, ProofScope, proof_of, deep_at, unknown_in_proof}
use Rattle.ck_text.specs.ProofMachine as texts
use Rattle.ck_text.specs.ProofLaws.{ProofStopsAt}
use Rattle.ck_text.specs.ProofReading.{IsProofWritten, IsProofOutcome}
use Rattle.ck_text.specs.ProofReadingLaws.{ReadsProofOutcomes}
use Rattle.ck_text.specs.ProofItems.{or_deep, answered, read_proof_bytes}
use Rattle.ck_text.proofs.Outcomes.{bare_length, front_is}
use Rattle.ck_text.proofs.ProofExactness.{exactly}
use Rattle.ck_text.proofs.ProofMeanings.{means_known}
use Rattle.ck_text.proofs.ProofOutcomes.{fault_or, found, found_is, one_outcome}
use Rattle.ck_text.proofs.ProofKept.{tree_kept, proof_kept}
use Rattle.ck_text.proofs.ProofFollowing.{place, whole_of, run_kept, run_stops}

module _ (limit proofs most : ℕ) (holes : Bool) (scope : ProofScope) (bytes : List ℕ) where
  abbrev all : List Placed
  all = scan 0 bytes

  abbrev answer : Result ProofTree Fault
  answer = read_proof_bytes limit proofs most holes scope bytes

  abbrev IsAnswer : Result ProofTree Fault → Type 0
  IsAnswer outcome = IsProofOutcome limit proofs most holes scope bytes outcome

  -- the answer by what is kept of a proof
  of_proof_text : (p : ProofText) → texts.read limit proofs holes (tokens_of bytes) ≡ Ok p → answer ≡ answered bytes (Ok (whole_of most scope limit proofs proofs holes (omega arith) all p))
  of_proof_text p e = ap (answered bytes) (run_kept most scope limit proofs proofs holes (omega arith) all all (texts.expecting []) None None p tt refl refl refl e)

  answer_found : (p : ProofText) → IsProofWritten limit proofs holes bytes p → texts.read limit proofs holes (tokens_of bytes) ≡ Ok p → answer ≡ found limit proofs most holes scope bytes p
  answer_found p w e = of_proof_text p e ∙ by (deep_at 0 most p) (unknown_in_proof 0 scope p) (proof_of scope p) refl refl refl (means_known limit proofs holes 0 scope p w.0) where
    by : (d u : Option ℕ) (t : Option ProofTree) → deep_at 0 most p ≡ d → unknown_in_proof 0 scope p ≡ u → proof_of scope p ≡ t → is_some t ≡ is_none u
        → or_deep bytes (tree_kept most scope p) (option_map (place most scope limit proofs proofs holes (omega arith) all) d) (option_map (place most scope limit proofs proofs holes (omega arith) all) u)
        ≡ fault_or limit proofs most holes scope bytes d u t
    by (Some k) u t f g h known = refl
    by None (Some k) t f g h known = refl
    by None None (Some tree) f g h known = ap Ok (proof_kept limit proofs most holes p 0 0 scope tree w.0 f h)
    by None None None f g h known = absurd (cc)

  answers : (r : Result ProofText (List Token)) → texts.read limit proofs holes (tokens_of bytes) ≡ r → IsAnswer answer
  answers (Ok p) e =
      let w : IsProofWritten limit proofs holes bytes p = (exactly limit proofs holes).0 (tokens_of bytes) p e in
      subst IsAnswer (sym (answer_found p w e)) (found_is limit proofs most holes scope bytes p w)
  answers (Err rest) e =
      let s = (exactly limit proofs holes).2 (tokens_of bytes) rest e in
      let r = run_stops most scope limit proofs proofs holes (omega arith) all all (texts.expecting []) None None rest tt refl e in
      let most_k : r.0 ≤ length (tokens_of bytes) = omega (arith, r.1, bare_length all) in
      let stands : ProofStopsAt limit proofs holes (take r.0 (tokens_of bytes)) (drop r.0 (tokens_of bytes)) =
      subst (λ x. ProofStopsAt limit proofs holes (take r.0 (tokens_of bytes)) x) r.2
      (subst (λ x. ProofStopsAt limit proofs holes x rest) (front_is r.0 (tokens_of bytes) s.0 rest most_k s.1 r.2) s.2) in
      let is : answer ≡ Err (by_syntax (column_at bytes r.0)) = ap (answered bytes) r.3 in
      subst IsAnswer (sym is) (r.0, stands, refl)

  is_answer : IsAnswer answer
  is_answer = answers (texts.read limit proofs holes (tokens_of bytes)) refl

pub reads_proof_outcomes : ReadsProofOutcomes
reads_proof_outcomes limit proofs most holes scope bytes outcome = (
  (λ e. subst (λ x. IsProofOutcome limit proofs most holes scope bytes x) e (is_answer limit proofs most holes scope bytes)),
  (λ o. let one = one_outcome limit proofs most holes scope bytes in
      one.2 (read_proof_bytes limit proofs most holes scope bytes) (is_answer limit proofs most holes scope bytes) ∙ sym (one.2 outcome o)),
)
