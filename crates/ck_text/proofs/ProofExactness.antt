-- The reader of proofs is exact: what it reads, and where it stops.
use Rattle.std.proofs.Common.{◌≡◌, ℕ, suc, ◌+◌, ◌≤◌, ◌<◌, ◌⊎◌, inl, inr, ⊎_elim, Bool, List, [], ◌∷◌, ◌++◌, length, refl, sym, ap, subst, ◌∙◌, arith, append_assoc, append-nil, Option, Some, None, Ok, Err}
use Rattle.std.specs.declared.result.Result.{Result}
use Rattle.std.proofs.lemmas.List.{length-append}
use Rattle.ck_text.specs.Tokens.{Token}
use Rattle.ck_text.specs.ProofTexts.{ProofText, of_proof, proof_tokens, IsProofText, reached}
use Rattle.ck_text.specs.ProofMachine.{State, expecting, complete, step, finished, or_fault, after, run, read}
use Rattle.ck_text.specs.ProofLaws.{BeginsProof, ProofStopsAt, ReadsProofsExactly, OneProof}
use Rattle.ck_text.proofs.ProofStacks.{Lasts, before}
use Rattle.ck_text.proofs.ProofKeeping.{step_keeps}
use Rattle.ck_text.proofs.ProofCompleting.{completed}
use Rattle.ck_text.proofs.ProofRereading.{Passes, Stops, proof_reads, proof_level}

apart : (p : ProofText) (rest : List Token) → ◌≡◌ {A = Result ProofText (List Token)} (Ok p) (Err rest) → ⊥
apart p rest e = cc

-- the state does not go on with these tokens
abbrev Refuses : (limit most : ℕ) (holes : Bool) → State → List Token → Type 0
Refuses limit most holes st [] = finished st ≡ None
Refuses limit most holes st (t ∷ rest) = step limit most holes st t ≡ None

-- a run that stops took tokens to a state that refuses those that are left
record Stopped (limit most deep : ℕ) (holes : Bool) (st : State) (ts rest : List Token) : Type 0 where
  taken : List Token
  last : State
  whole : ts ≡ taken ++ rest
  lasts : Lasts limit most deep holes last
  next : (more : List Token) → before st (taken ++ more) ≡ before last more
  goes : (more : List Token) → run limit most holes (taken ++ more) st ≡ run limit most holes more last
  refuses : Refuses limit most holes last rest

module _ (limit most : ℕ) (holes : Bool) where
  -- # What is read

  finished_is : (st : State) (p : ProofText) → Lasts limit most most holes st → or_fault (finished st) ≡ Ok p → IsProofText limit most holes 0 p × (before st [] ≡ proof_tokens p)
  finished_is (complete [] (of_proof q)) p h e =
      let same : q ≡ p = cc in
      subst (λ x. IsProofText limit most holes 0 x × (before (complete [] (of_proof q)) [] ≡ proof_tokens x)) same (h.1, append-nil (proof_tokens q))
  finished_is st p h e = absurd (cc)

  run_is : (ts : List Token) (st : State) (p : ProofText) → Lasts limit most most holes st → run limit most holes ts st ≡ Ok p → IsProofText limit most holes 0 p × (before st ts ≡ proof_tokens p)
  run_is [] st p h e = finished_is st p h e
  run_is (t ∷ ts) st p h e = by (λ next. run_is ts next p) (step limit most holes st t) refl e where
    by : ((next : State) → Lasts limit most most holes next → run limit most holes ts next ≡ Ok p → IsProofText limit most holes 0 p × (before next ts ≡ proof_tokens p))
        → (o : Option State) → step limit most holes st t ≡ o → after o (t ∷ ts) (λ next. run limit most holes ts next) ≡ Ok p → IsProofText limit most holes 0 p × (before st (t ∷ ts) ≡ proof_tokens p)
    by ih (Some next) taken e =
        let k = step_keeps limit most most holes (omega arith) st t next h taken in
        let r = ih next k.0 e in
        (r.0, (k.1 ts ∙ r.1))
    by ih None taken e = absurd (cc)

  -- # Where it stops

  abbrev deep : ℕ
  deep = suc most

  stops_here : (st : State) (ts rest : List Token) → Lasts limit most deep holes st → ts ≡ rest → Refuses limit most holes st rest → Stopped limit most deep holes st ts rest
  stops_here st ts rest h e r = record { taken = []; last = st; whole = e; lasts = h; next = (λ more. refl); goes = (λ more. refl); refuses = r }

  stopped : (ts : List Token) (st : State) (rest : List Token) → Lasts limit most deep holes st → run limit most holes ts st ≡ Err rest → Stopped limit most deep holes st ts rest
  stopped [] st rest h e = by (finished st) refl e where
    by : (o : Option ProofText) → finished st ≡ o → or_fault o ≡ Err rest → Stopped limit most deep holes st [] rest
    by (Some p) f e = absurd (apart p rest e)
    by None f e = let none : [] ≡ rest = cc in subst (λ x. Stopped limit most deep holes st [] x) none (stops_here st [] [] h refl f)
  stopped (t ∷ ts) st rest h e = by (λ next. stopped ts next rest) (step limit most holes st t) refl e where
    by : ((next : State) → Lasts limit most deep holes next → run limit most holes ts next ≡ Err rest → Stopped limit most deep holes next ts rest)
        → (o : Option State) → step limit most holes st t ≡ o → after o (t ∷ ts) (λ next. run limit most holes ts next) ≡ Err rest → Stopped limit most deep holes st (t ∷ ts) rest
    by ih (Some next) taken e =
        let k = step_keeps limit most deep holes (omega arith) st t next h taken in
        let s = ih next k.0 e in
        record {
          taken = t ∷ s.taken;
          last = s.last;
          whole = ap (λ x. t ∷ x) s.whole;
          lasts = s.lasts;
          next = (λ more. k.1 (s.taken ++ more) ∙ s.next more);
          goes = (λ more. ap (λ o. after o (t ∷ (s.taken ++ more)) (λ next. run limit most holes (s.taken ++ more) next)) taken ∙ s.goes more);
          refuses = s.refuses;
        }
    by ih None taken e =
        let left : t ∷ ts ≡ rest = cc in
        subst (λ x. Stopped limit most deep holes st (t ∷ ts) x) left (stops_here st (t ∷ ts) (t ∷ ts) h refl taken)

  refused : (st : State) (rest : List Token) → Refuses limit most holes st rest → run limit most holes rest st ≡ Err rest
  refused st [] r = ap or_fault r
  refused st (t ∷ rest) r = ap (λ o. after o (t ∷ rest) (λ next. run limit most holes rest next)) r

  -- # Any proof, however deep

  -- The reader reads a proof, or stops before the first of its proofs that is too deep.
  record TooDeep (p : ProofText) : Type 0 where
    front : List Token
    back : List Token
    whole : proof_tokens p ≡ front ++ back
    stops : read limit most holes (proof_tokens p) ≡ Err back
    low : (n : ℕ) → n ≤ length front → reached n p ≤ most
    high : (n : ℕ) → length front < n → most < reached n p

  abbrev IsWhole : ProofText → Type 0
  IsWhole p = (read limit most holes (proof_tokens p) ≡ Ok p) × ((n : ℕ) → reached n p ≤ most)

  any_read : (around : ℕ) (p : ProofText) → IsProofText limit around holes 0 p → IsWhole p ⊎ TooDeep p
  any_read around p h =
      ⊎_elim (λ (r : Passes limit most holes (proof_tokens p) (expecting []) (complete [] (of_proof p)) (λ n. 0 + reached n p)).
      inl ((ap (read limit most holes) (sym (append-nil (proof_tokens p))) ∙ r.goes []), (λ n. let k : 0 + reached n p ≤ most = r.low n in omega (arith, k))))
      (λ (s : Stops limit most holes (proof_tokens p) (expecting []) (λ n. 0 + reached n p)).
      inr (record {
        front = s.front;
        back = s.back;
        whole = s.whole;
        stops = ap (read limit most holes) (sym (append-nil (proof_tokens p))) ∙ s.stops [] ∙ ap Err (append-nil s.back);
        low = (λ n l. let k : 0 + reached n p ≤ most = s.low n l in omega (arith, k));
        high = (λ n l. let k : most < 0 + reached n p = s.high n l in omega (arith, k));
      })) (proof_reads limit most holes p around [] tt h (omega arith))

  -- the whole of a proof within the limit is read
  pub whole_read : (p : ProofText) → IsProofText limit most holes 0 p → read limit most holes (proof_tokens p) ≡ Ok p
  whole_read p h =
      ⊎_elim (λ (w : IsWhole p). w.0) (λ (d : TooDeep p).
      let m : most < reached (suc (length d.front)) p = d.high (suc (length d.front)) (omega arith) in
      absurd (omega (arith, m, proof_level limit most holes p 0 h (suc (length d.front))))) (any_read most p h)

  -- # Together

  same_rest : (a b : List Token) → ◌≡◌ {A = Result ProofText (List Token)} (Err a) (Err b) → a ≡ b
  same_rest a b e = cc

  begins : (st : State) (front : List Token) → Lasts limit most deep holes st → ((more : List Token) → front ++ more ≡ before st more)
      → ((more : List Token) → run limit most holes (front ++ more) (expecting []) ≡ run limit most holes more st) → BeginsProof limit most holes front
  begins st front h e goes =
      let c = completed limit most holes st h in
      let same : proof_tokens c.0 ≡ front ++ c.1 = sym c.3 ∙ sym (e c.1) in
      (c.0, c.1, deep, c.2, same, low c.0 c.1 same (any_read deep c.0 c.2), c.4) where
        low : (p : ProofText) (more : List Token) → proof_tokens p ≡ front ++ more → IsWhole p ⊎ TooDeep p → reached (length front) p ≤ most
        low p more same r =
            ⊎_elim (λ (w : IsWhole p). w.1 (length front)) (λ (d : TooDeep p).
            let s = stopped more st d.back h (sym (goes more) ∙ ap (read limit most holes) (sym same) ∙ d.stops) in
            d.low (length front) (omega (arith, ap length s.whole ∙ length-append s.taken d.back, ap length (sym d.whole ∙ same), length-append d.front d.back, length-append front more))) r

  -- a proof whose tokens lead to a state that refuses the next of them is none
  no_proof : (p : ProofText) (around : ℕ) (st : State) (front rest : List Token) → IsProofText limit around holes 0 p → ((more : List Token) → run limit most holes (front ++ more) (expecting []) ≡ run limit most holes more st)
      → proof_tokens p ≡ front ++ rest → run limit most holes rest st ≡ Err rest → (n : ℕ) → length front < n → reached n p ≤ most → ⊥
  no_proof p around st front rest h goes e r n beyond low =
      let stop : read limit most holes (proof_tokens p) ≡ Err rest = ap (read limit most holes) e ∙ goes rest ∙ r in
      ⊎_elim (λ (w : IsWhole p). apart p rest (sym w.0 ∙ stop)) (λ (d : TooDeep p).
      let same : d.back ≡ rest = same_rest d.back rest (sym d.stops ∙ stop) in
      let m : most < reached n p = d.high n (omega (arith, beyond, ap length same, ap length (sym d.whole ∙ e), length-append d.front d.back, length-append front rest)) in
      absurd (omega (arith, m, low))) (any_read around p h)

  stops_at : (st : State) (front rest : List Token) → BeginsProof limit most holes front → ((more : List Token) → run limit most holes (front ++ more) (expecting []) ≡ run limit most holes more st)
      → Refuses limit most holes st rest → ProofStopsAt limit most holes front rest
  stops_at st front [] b goes r =
      (b, (λ p h e. apart p [] (sym (whole_read p h) ∙ ap (read limit most holes) (e ∙ sym (append-nil front)) ∙ goes [] ∙ refused st [] r)))
  stops_at st front (t ∷ rest) b goes r = (
    b,
    (λ p more around h e low. no_proof p around st front (t ∷ more) h goes (e ∙ append_assoc front (t ∷ []) more) (refused st (t ∷ more) r)
        (length (front ++ (t ∷ []))) (omega (arith, length-append front (t ∷ []))) low),
  )

pub exactly : ReadsProofsExactly
exactly limit most holes = (
  (λ ts p e. let r = run_is limit most holes ts (expecting []) p tt e in (r.0, sym r.1)),
  (λ p h. whole_read limit most holes p h),
  (λ ts rest e. let s = stopped limit most holes ts (expecting []) rest tt e in
      (s.taken, s.whole, stops_at limit most holes s.last s.taken rest (begins limit most holes s.last s.taken s.lasts s.next s.goes) s.goes s.refuses)),
)

pub one : OneProof
one limit most holes p q h k e =
    let same : ◌≡◌ {A = Result ProofText (List Token)} (Ok p) (Ok q) = sym (whole_read limit most holes p h) ∙ ap (read limit most holes) e ∙ whole_read limit most holes q k in
    cc
