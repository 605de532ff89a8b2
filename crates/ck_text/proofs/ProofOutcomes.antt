-- Reading a text as a proof comes to one thing, and to no other.
use Rattle.std.proofs.Common.{◌≡◌, ◌⊎◌, inl, inr, ⊎_elim, ℕ, zero, suc, ◌+◌, ◌-◌, ◌≤◌, ◌<◌, Bool, true, List, [], ◌∷◌, ◌++◌, length, take, drop, refl, sym, subst, ap, ◌∙◌, arith, append_assoc, append-nil, Option, Some, None, Ok, Err}
use Rattle.std.specs.Prelude.{is_none}
use Rattle.std.specs.declared.result.Result.{Result}
use Rattle.std.specs.Option.{is_some}
use Rattle.std.proofs.lemmas.Bool.{cases_lt}
use Rattle.std.proofs.lemmas.List.{length-append, take-append-drop}
use Rattle.std.proofs.Math.Seq.{take-append_seam, drop-append_seam}
use Rattle.proof_terms.specs.Tree.{ProofTree}
use Rattle.ck_text.specs.Tokens.{Token, Placed, scan, bare}
use Rattle.ck_text.specs.Reading.{left_of, column_of, column_at, tokens_of, Fault, by_syntax, by_depth, by_name}
use Rattle.ck_text.specs.ProofTexts.{ProofText, numbered, open_hole, headed, Arguments, last, more, Argument, of_sort, of_number, of_expression, of_proof, argument_tokens, reached, reached_in_all, reached_in, ProofScope, proof_of, deep_at, unknown_in_proof}
use Rattle.ck_text.specs.ProofMachine.{read}
use Rattle.ck_text.specs.ProofLaws.{BeginsProof, ProofStopsAt}
use Rattle.ck_text.specs.ProofReading.{IsProofWritten, IsProofOutcome}
use Rattle.ck_text.specs.ProofReadingLaws.{OneProofOutcome}
use Rattle.ck_text.proofs.ProofRereading.{proof_level}
use Rattle.ck_text.proofs.ProofExactness.{exactly, one}
use Rattle.ck_text.proofs.ProofMeanings.{means_known}

-- # Lists

no_token_left : (k : ℕ) (placed : List Placed) → drop k (bare placed) ≡ [] → drop k placed ≡ []
no_token_left zero [] e = refl
no_token_left zero (p ∷ placed) e = absurd (cc)
no_token_left (suc k) [] e = refl
no_token_left (suc k) (p ∷ placed) e = no_token_left k placed e

nothing_later : (k l : ℕ) (ts : List Token) → k < l → drop k ts ≡ [] → drop l ts ≡ []
nothing_later k zero ts h e = absurd (omega (arith, h))
nothing_later zero (suc l) [] h e = refl
nothing_later zero (suc l) (t ∷ ts) h e = absurd (cc)
nothing_later (suc k) (suc l) [] h e = refl
nothing_later (suc k) (suc l) (t ∷ ts) h e = nothing_later k l ts (omega (arith, h)) e

-- more tokens from the front begin with fewer, and the next
goes_further : (k l : ℕ) (ts : List Token) (t : Token) (rest : List Token) → k < l → drop k ts ≡ t ∷ rest → (more : List Token) × (take l ts ≡ take k ts ++ (t ∷ more))
goes_further k zero ts t rest h e = absurd (omega (arith, h))
goes_further zero (suc l) [] t rest h e = absurd (cc)
goes_further zero (suc l) (u ∷ ts) t rest h e = let same : u ≡ t = cc in (take l ts, ap (λ x. x ∷ take l ts) same)
goes_further (suc k) (suc l) [] t rest h e = absurd (cc)
goes_further (suc k) (suc l) (u ∷ ts) t rest h e = let m = goes_further k l ts t rest (omega (arith, h)) e in (m.0, ap (λ ts. u ∷ ts) m.1)

is_there : {A : Type 0} (o : Option A) → is_some o ≡ true → (a : A) × (o ≡ Some a)
is_there (Some a) e = (a, refl)
is_there None e = absurd (cc)

not_there : {A : Type 0} (o : Option A) → is_none o ≡ true → o ≡ None
not_there None e = refl
not_there (Some a) e = absurd (cc)

-- # More tokens have no fewer proofs

mutual
  reached_less : (p : ProofText) (m n : ℕ) → m ≤ n → reached m p ≤ reached n p
  reached_less p zero n h = omega arith
  reached_less p (suc m) zero h = absurd (omega (arith, h))
  reached_less (numbered k) (suc m) (suc n) h = omega arith
  reached_less (open_hole k) (suc m) (suc n) h = omega arith
  reached_less (headed g arguments) (suc m) (suc n) h =
      let k = arguments_less arguments (m - 1) (n - 1) (omega (arith, h)) in omega (arith, k)

  arguments_less : (others : Arguments) (m n : ℕ) → m ≤ n → reached_in_all m others ≤ reached_in_all n others
  arguments_less (last a) m n h = argument_less a m n h
  arguments_less (more a others) m n h =
      let one = argument_less a m n h in
      let rest = arguments_less others (m - suc (length (argument_tokens a))) (n - suc (length (argument_tokens a))) (omega (arith, h)) in
      omega (arith, one, rest)

  argument_less : (a : Argument) (m n : ℕ) → m ≤ n → reached_in m a ≤ reached_in n a
  argument_less (of_proof p) m n h = reached_less p m n h
  argument_less (of_sort s) m n h = omega arith
  argument_less (of_number k) m n h = omega arith
  argument_less (of_expression a) m n h = omega arith

module _ (limit proofs most : ℕ) (holes : Bool) (scope : ProofScope) (bytes : List ℕ) where
  abbrev ts : List Token
  ts = tokens_of bytes

  abbrev pub IsOutcome : Result ProofTree Fault → Type 0
  IsOutcome o = IsProofOutcome limit proofs most holes scope bytes o

  abbrev pub IsWritten : ProofText → Type 0
  IsWritten p = IsProofWritten limit proofs holes bytes p

  abbrev Stops : ℕ → Type 0
  Stops k = ProofStopsAt limit proofs holes (take k ts) (drop k ts)

  -- # A proof

  abbrev pub fault_or : Option ℕ → Option ℕ → Option ProofTree → Result ProofTree Fault
  fault_or (Some k) unknown tree = Err (by_depth (column_at bytes k))
  fault_or None (Some k) tree = Err (by_name (column_at bytes k))
  fault_or None None (Some tree) = Ok tree
  fault_or None None None = Err (by_syntax 0)

  -- what reading a proof comes to
  abbrev pub found : ProofText → Result ProofTree Fault
  found p = fault_or (deep_at 0 most p) (unknown_in_proof 0 scope p) (proof_of scope p)

  pub found_is : (p : ProofText) → IsWritten p → IsOutcome (found p)
  found_is p w = by (deep_at 0 most p) (unknown_in_proof 0 scope p) (proof_of scope p) refl refl refl (means_known limit proofs holes 0 scope p w.0) where
    by : (d u : Option ℕ) (t : Option ProofTree) → deep_at 0 most p ≡ d → unknown_in_proof 0 scope p ≡ u → proof_of scope p ≡ t → is_some t ≡ is_none u → IsOutcome (fault_or d u t)
    by (Some k) u t e f g known = (p, w, k, e, refl)
    by None (Some k) t e f g known = (p, w, e, k, f, refl)
    by None None (Some tree) e f g known = (p, w, e, g)
    by None None None e f g known = absurd (cc)

  -- # Where no proof goes on

  begins_of : (front rest : List Token) → ProofStopsAt limit proofs holes front rest → BeginsProof limit proofs holes front
  begins_of front [] s = s.0
  begins_of front (t ∷ rest) s = s.0

  no_proof : (p : ProofText) (k : ℕ) → IsWritten p → Stops k → ⊥
  no_proof p k w s = by (drop k ts) refl s where
    by : (rest : List Token) → drop k ts ≡ rest → ProofStopsAt limit proofs holes (take k ts) rest → ⊥
    by [] e s = s.1 p w.0 (w.1 ∙ sym (take-append-drop k ts) ∙ ap (λ x. take k ts ++ x) e ∙ append-nil (take k ts))
    by (t ∷ rest) e s =
        s.1 p rest proofs w.0 (w.1 ∙ sym (take-append-drop k ts) ∙ ap (λ x. take k ts ++ x) e ∙ sym (append_assoc (take k ts) (t ∷ []) rest))
        (let h : 0 + reached (length (take k ts ++ (t ∷ []))) p ≤ proofs = proof_level limit proofs holes p 0 w.0 (length (take k ts ++ (t ∷ []))) in omega (arith, h))

  no_more : (k l : ℕ) → k < l → Stops k → BeginsProof limit proofs holes (take l ts) → drop k ts ≡ []
  no_more k l h s b = by (drop k ts) refl s where
    by : (rest : List Token) → drop k ts ≡ rest → ProofStopsAt limit proofs holes (take k ts) rest → rest ≡ []
    by [] e s = refl
    by (t ∷ rest) e s =
        let m = goes_further k l ts t rest h e in
        let less : length (take k ts ++ (t ∷ [])) ≤ length (take l ts) =
        omega (arith, length-append (take k ts) (t ∷ []), length-append (take k ts) (t ∷ m.0), ap length m.1) in
        let low = reached_less b.0 (length (take k ts ++ (t ∷ []))) (length (take l ts)) less in
        absurd (s.1 b.0 (m.0 ++ b.1) b.2 b.3 (b.4 ∙ ap (λ x. x ++ b.1) m.1 ∙ append_assoc (take k ts) (t ∷ m.0) b.1
        ∙ sym (append_assoc (take k ts) (t ∷ []) (m.0 ++ b.1))) (omega (arith, low, b.5)))

  end_column : (k : ℕ) → drop k ts ≡ [] → column_at bytes k ≡ column_of bytes 0
  end_column k e = ap (λ x. column_of bytes (left_of x)) (no_token_left k (scan 0 bytes) e)

  same_end : (k l : ℕ) → k < l → drop k ts ≡ [] → column_at bytes k ≡ column_at bytes l
  same_end k l h e = end_column k e ∙ sym (end_column l (nothing_later k l ts h e))

  same_column : (k l : ℕ) → Stops k → Stops l → column_at bytes k ≡ column_at bytes l
  same_column k l s t =
      ⊎_elim (λ (h : k < l). same_end k l h (no_more k l h s (begins_of (take l ts) (drop l ts) t)))
      (λ (h : l ≤ k). ⊎_elim (λ (i : l < k). sym (same_end l k i (no_more l k i t (begins_of (take k ts) (drop k ts) s))))
      (λ (i : k ≤ l). let same : k ≡ l = omega (arith, h, i) in ap (column_at bytes) same) (cases_lt l k)) (cases_lt k l)

  -- # Each outcome

  -- it is that of a proof, or the fault of a place where no proof goes on
  abbrev OfProof : Result ProofTree Fault → Type 0
  OfProof o = (p : ProofText) × IsWritten p × (o ≡ found p)

  abbrev OfSyntax : Result ProofTree Fault → Type 0
  OfSyntax o = (k : ℕ) × Stops k × (o ≡ Err (by_syntax (column_at bytes k)))

  sorted_out : (o : Result ProofTree Fault) → IsOutcome o → OfProof o ⊎ OfSyntax o
  sorted_out (Ok tree) h =
      let none : unknown_in_proof 0 scope h.0 ≡ None = not_there (unknown_in_proof 0 scope h.0) (sym (means_known limit proofs holes 0 scope h.0 h.1.0) ∙ ap is_some h.3) in
      inl (h.0, h.1, sym (ap (λ d. fault_or d (unknown_in_proof 0 scope h.0) (proof_of scope h.0)) h.2 ∙ ap (λ u. fault_or None u (proof_of scope h.0)) none ∙ ap (λ t. fault_or None None t) h.3))
  sorted_out (Err (by_syntax column)) h = inr (h.0, h.1, ap (λ c. Err (by_syntax c)) h.2)
  sorted_out (Err (by_depth column)) h =
      inl (h.0, h.1, ap (λ c. Err (by_depth c)) h.4 ∙ sym (ap (λ d. fault_or d (unknown_in_proof 0 scope h.0) (proof_of scope h.0)) h.3))
  sorted_out (Err (by_name column)) h =
      inl (h.0, h.1, ap (λ c. Err (by_name c)) h.5 ∙ sym (ap (λ d. fault_or d (unknown_in_proof 0 scope h.0) (proof_of scope h.0)) h.2 ∙ ap (λ u. fault_or None u (proof_of scope h.0)) h.4))

  same_proof : (o other : Result ProofTree Fault) → OfProof o → OfProof other → other ≡ o
  same_proof o other x y =
      let same : y.0 ≡ x.0 = one limit proofs holes y.0 x.0 y.1.0 x.1.0 (y.1.1 ∙ sym x.1.1) in
      y.2 ∙ ap found same ∙ sym x.2

  same_fault : (o other : Result ProofTree Fault) → OfSyntax o → OfSyntax other → other ≡ o
  same_fault o other x y = y.2 ∙ ap (λ c. Err (by_syntax c)) (same_column y.0 x.0 y.1 x.1) ∙ sym x.2

  same_outcome : (o other : Result ProofTree Fault) → IsOutcome o → IsOutcome other → other ≡ o
  same_outcome o other h k =
      ⊎_elim (λ (x : OfProof o). ⊎_elim (λ (y : OfProof other). same_proof o other x y) (λ (y : OfSyntax other). absurd (no_proof x.0 y.0 x.1 y.1)) (sorted_out other k))
      (λ (x : OfSyntax o). ⊎_elim (λ (y : OfProof other). absurd (no_proof y.0 x.0 y.1 x.1)) (λ (y : OfSyntax other). same_fault o other x y) (sorted_out other k))
      (sorted_out o h)

  some_outcome : (r : Result ProofText (List Token)) → read limit proofs holes ts ≡ r → (o : Result ProofTree Fault) × IsOutcome o
  some_outcome (Ok p) e = let w = (exactly limit proofs holes).0 ts p e in (found p, found_is p w)
  some_outcome (Err rest) e =
      let s = (exactly limit proofs holes).2 ts rest e in
      let taken : take (length s.0) ts ≡ s.0 = ap (take (length s.0)) s.1 ∙ take-append_seam s.0 rest in
      let left : drop (length s.0) ts ≡ rest = ap (drop (length s.0)) s.1 ∙ drop-append_seam s.0 rest in
      let stops : Stops (length s.0) =
      subst (λ x. ProofStopsAt limit proofs holes x (drop (length s.0) ts)) (sym taken) (subst (λ x. ProofStopsAt limit proofs holes s.0 x) (sym left) s.2) in
      (Err (by_syntax (column_at bytes (length s.0))), (length s.0, stops, refl))

pub one_outcome : OneProofOutcome
one_outcome limit proofs most holes scope bytes =
    let o = some_outcome limit proofs most holes scope bytes (read limit proofs holes (tokens_of bytes)) refl in
    (o.0, o.1, (λ other h. same_outcome limit proofs most holes scope bytes o.0 other o.1 h))
