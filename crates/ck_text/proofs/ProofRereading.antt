-- The reader of proofs reads every proof from its tokens, or stops before the first of its proofs that is too deep.
use Rattle.std.proofs.Common.{◌≡◌, ℕ, zero, suc, ◌+◌, ◌-◌, ◌≤◌, ◌<◌, ◌^◌, ◌⊎◌, inl, inr, ⊎_elim, Bool, true, false, List, [], ◌∷◌, ◌++◌, length, refl, sym, ap, subst, ◌∙◌, arith, append_assoc, Option, Some, None, Ok, Err}
use Rattle.std.specs.declared.result.Result.{Result}
use Rattle.std.specs.Option.{option_map}
use Rattle.std.proofs.lemmas.Bool.{lt-ltb, le-ltb, cases_lt}
use Rattle.std.proofs.lemmas.List.{length-append}
use Rattle.ck_base.specs.declared.decl.Sort.{Sort}
use Rattle.ck_text.specs.declared.head.Head.{Head}
use Rattle.ck_text.specs.declared.token.Mark.TheVariants as marks
use Rattle.ck_text.specs.Tokens.{Token}
use Rattle.ck_text.specs.Tokens as token
use Rattle.ck_text.specs.Texts.{Text, tokens, IsText}
use Rattle.ck_text.specs.Machine as expression
use Rattle.ck_text.specs.ProofTexts.{Kind, a_sort, a_number, a_term, a_formula, a_proof, kinds, head_word, ProofText, numbered, open_hole, headed, Arguments, last, more, Argument, of_sort, of_number, of_expression, of_proof, proof_tokens, arguments_tokens, argument_tokens, IsProofText, AreArguments, IsArgument, reached, reached_in_all, reached_in}
use Rattle.ck_text.specs.ProofMachine.{Frame, calling, State, expecting, marked, opening, within, complete, asked, asks_term, guarded, begins_proof, marked_proof, enters, gathered, separated, inside, step, after, run}
use Rattle.ck_text.proofs.Rereading as inner_rereading
use Rattle.ck_text.proofs.ProofTables.{head_found, has_argument, IsProofKind, IsExpressionKind}

apart : (a : Text) (rest : List Token) → ◌≡◌ {A = Result Text (List Token)} (Err rest) (Ok a) → ⊥
apart a rest e = cc

-- # No term or formula goes on with `,`, and none that may end goes on with `)`

no_comma : (limit : ℕ) (asked : Bool) (st : expression.State) → expression.step limit asked st (token.mark marks.Comma) ≡ None
no_comma limit asked (expression.wanting stack) = refl
no_comma limit asked (expression.having stack a) = refl
no_comma limit asked (expression.naming q stack) = refl
no_comma limit asked (expression.named q bytes stack) = refl
no_comma limit asked (expression.sorting q bytes stack) = refl
no_comma limit asked (expression.sorted q bytes s stack) = refl

not_closed : (stack : List expression.Frame) (a b : Text) → expression.alone stack a ≡ Some b → expression.closes stack a ≡ None
not_closed [] a b e = refl
not_closed (expression.leading l ∷ stack) a b e = absurd (cc)
not_closed (expression.operand o c ∷ stack) a b e = absurd (cc)
not_closed (expression.parenthesis ∷ stack) a b e = absurd (cc)

no_close : (limit : ℕ) (asked : Bool) (st : expression.State) (a : Text) → expression.finished st ≡ Some a → expression.step limit asked st (token.mark marks.Close) ≡ None
no_close limit asked (expression.having stack b) a e = not_closed (expression.reduced 0 stack b).0 (expression.reduced 0 stack b).1 a e
no_close limit asked st a e = absurd (cc)

module _ (limit most : ℕ) (holes : Bool) where
  goes_on : (st next : State) (t : Token) (ts : List Token) → step limit most holes st t ≡ Some next → run limit most holes (t ∷ ts) st ≡ run limit most holes ts next
  goes_on st next t ts e = ap (λ o. after o (t ∷ ts) (λ next. run limit most holes ts next)) e

  stops_at : (st : State) (t : Token) (ts : List Token) → step limit most holes st t ≡ None → run limit most holes (t ∷ ts) st ≡ Err (t ∷ ts)
  stops_at st t ts e = ap (λ o. after o (t ∷ ts) (λ next. run limit most holes ts next)) e

  -- # Passing tokens, or stopping at one

  -- The tokens lead from a state to another, and of any number of them none opens a proof that is too deep; `level`
  -- says how many proofs are open in the first n.
  pub record Passes (ts : List Token) (st to : State) (level : ℕ → ℕ) : Type 0 where
    pub goes : (rest : List Token) → run limit most holes (ts ++ rest) st ≡ run limit most holes rest to
    pub low : (n : ℕ) → level n ≤ most

  -- the reader stops among the tokens, at the first that opens a proof that is too deep
  pub record Stops (ts : List Token) (st : State) (level : ℕ → ℕ) : Type 0 where
    pub front : List Token
    pub back : List Token
    pub whole : ts ≡ front ++ back
    pub stops : (rest : List Token) → run limit most holes (ts ++ rest) st ≡ Err (back ++ rest)
    pub low : (n : ℕ) → n ≤ length front → level n ≤ most
    pub high : (n : ℕ) → length front < n → most < level n

  abbrev pub Reads : (ts : List Token) (st to : State) (level : ℕ → ℕ) → Type 0
  Reads ts st to level = Passes ts st to level ⊎ Stops ts st level

  -- one token, which opens nothing
  one_passes : (t : Token) (st to : State) (level : ℕ) → step limit most holes st t ≡ Some to → level ≤ most → Passes (t ∷ []) st to (λ n. level)
  one_passes t st to level e low = record { goes = (λ rest. goes_on st to t rest e); low = (λ n. low) }

  -- # One after the other

  record Joins (ts us : List Token) (first second level : ℕ → ℕ) : Type 0 where
    start : second 0 ≤ most
    low : (n : ℕ) → first n ≤ most → second (n - length ts) ≤ most → level n ≤ most
    high_first : (n : ℕ) → most < first n → most < level n
    high_second : (n : ℕ) → length ts < n → most < second (n - length ts) → most < level n

  passes_then : (ts us : List Token) (st mid to : State) (first second level : ℕ → ℕ) → Joins ts us first second level → Passes ts st mid first → Reads us mid to second → Reads (ts ++ us) st to level
  passes_then ts us st mid to first second level j p r =
      ⊎_elim (λ (q : Passes us mid to second). inl (both q)) (λ (s : Stops us mid second). inr (later s)) r where
        split : (rest : List Token) → run limit most holes ((ts ++ us) ++ rest) st ≡ run limit most holes (us ++ rest) mid
        split rest = ap (λ x. run limit most holes x st) (append_assoc ts us rest) ∙ p.goes (us ++ rest)

        both : Passes us mid to second → Passes (ts ++ us) st to level
        both q = record { goes = (λ rest. split rest ∙ q.goes rest); low = (λ n. j.low n (p.low n) (q.low (n - length ts))) }

        later : Stops us mid second → Stops (ts ++ us) st level
        later s = record {
          front = ts ++ s.front;
          back = s.back;
          whole = ap (λ x. ts ++ x) s.whole ∙ sym (append_assoc ts s.front s.back);
          stops = (λ rest. split rest ∙ s.stops rest);
          low = (λ n l. j.low n (p.low n) (s.low (n - length ts) (omega (arith, l, length-append ts s.front))));
          high = (λ n l. j.high_second n (omega (arith, l, length-append ts s.front)) (s.high (n - length ts) (omega (arith, l, length-append ts s.front))));
        }

  stops_then : (ts us : List Token) (st : State) (first second level : ℕ → ℕ) → Joins ts us first second level → Stops ts st first → Stops (ts ++ us) st level
  stops_then ts us st first second level j s = record {
    front = s.front;
    back = s.back ++ us;
    whole = ap (λ x. x ++ us) s.whole ∙ append_assoc s.front s.back us;
    stops = (λ rest. ap (λ x. run limit most holes x st) (append_assoc ts us rest) ∙ s.stops (us ++ rest) ∙ ap Err (sym (append_assoc s.back us rest)));
    low = (λ n l. j.low n (s.low n l) (subst (λ m. second m ≤ most) (none n l) j.start));
    high = (λ n l. j.high_first n (s.high n l));
  } where
    none : (n : ℕ) → n ≤ length s.front → 0 ≡ n - length ts
    none n l = omega (arith, l, ap length s.whole ∙ length-append s.front s.back)

  reads_then : (ts us : List Token) (st mid to : State) (first second level : ℕ → ℕ) → Joins ts us first second level → Reads ts st mid first → Reads us mid to second → Reads (ts ++ us) st to level
  reads_then ts us st mid to first second level j r q =
      ⊎_elim (λ (p : Passes ts st mid first). passes_then ts us st mid to first second level j p q)
      (λ (s : Stops ts st first). inr (stops_then ts us st first second level j s)) r

  -- # Terms and formulas

  -- what stands before a `,` or `)`
  abbrev pub EndsAs : State → List Frame → Argument → Type 0
  EndsAs to stack a =
      (step limit most holes to (token.mark marks.Comma) ≡ separated stack a (token.mark marks.Comma))
      × (step limit most holes to (token.mark marks.Close) ≡ separated stack a (token.mark marks.Close))

  record Ends (ts : List Token) (st : State) (stack : List Frame) (a : Argument) : Type 0 where
    to : State
    goes : (rest : List Token) → run limit most holes (ts ++ rest) st ≡ run limit most holes rest to
    ends : EndsAs to stack a

  ended : (st : expression.State) (stack : List Frame) (a : Text) → expression.finished st ≡ Some a → EndsAs (within st stack) stack (of_expression a)
  ended st stack a e = (rw (no_comma limit (asks_term (asked stack)) st, e) refl, rw (no_close limit (asks_term (asked stack)) st a e, e) refl)

  or_finished : (o : Option Text) (a : Text) → expression.or_fault o ≡ Ok a → o ≡ Some a
  or_finished (Some b) a e = let same : b ≡ a = cc in ap Some same
  or_finished None a e = absurd (apart a [] e)

  inside_run : (stack : List Frame) (ts : List Token) (st : expression.State) (a : Text) → expression.run limit (asks_term (asked stack)) ts st ≡ Ok a → Ends ts (within st stack) stack (of_expression a)
  inside_run stack [] st a e = record { to = within st stack; goes = (λ rest. refl); ends = ended st stack a (or_finished (expression.finished st) a e) }
  inside_run stack (t ∷ ts) st a e = by (λ next. inside_run stack ts next a) (expression.step limit (asks_term (asked stack)) st t) refl e where
    by : ((next : expression.State) → expression.run limit (asks_term (asked stack)) ts next ≡ Ok a → Ends ts (within next stack) stack (of_expression a))
        → (o : Option expression.State) → expression.step limit (asks_term (asked stack)) st t ≡ o → expression.after o (t ∷ ts) (λ next. expression.run limit (asks_term (asked stack)) ts next) ≡ Ok a
        → Ends (t ∷ ts) (within st stack) stack (of_expression a)
    by ih (Some next) taken e =
        let r = ih next e in
        record { to = r.to; goes = (λ rest. goes_on (within st stack) (within next stack) t (ts ++ rest) (ap (λ o. inside o st stack t) taken) ∙ r.goes rest); ends = r.ends }
    by ih None taken e = absurd (apart a (t ∷ ts) e)

  -- the first token of a term or formula
  first_step : (stack : List Frame) (k : Kind) (t : Token) (next : expression.State) → asked stack ≡ k → IsExpressionKind k → expression.step limit (asks_term (asked stack)) (expression.wanting []) t ≡ Some next
      → step limit most holes (expecting stack) t ≡ Some (within next stack)
  first_step stack a_term t next same is e = rw (same) (ap (option_map (λ st. within st stack)) (subst (λ k. expression.step limit (asks_term k) (expression.wanting []) t ≡ Some next) same e))
  first_step stack (a_formula v) t next same is e = rw (same) (ap (option_map (λ st. within st stack)) (subst (λ k. expression.step limit (asks_term k) (expression.wanting []) t ≡ Some next) same e))
  first_step stack a_sort t next same is e = absurd is
  first_step stack a_number t next same is e = absurd is
  first_step stack (a_proof v h) t next same is e = absurd is

  from_start : (stack : List Frame) (ts : List Token) (a : Text) → IsExpressionKind (asked stack) → expression.read limit (asks_term (asked stack)) ts ≡ Ok a → Ends ts (expecting stack) stack (of_expression a)
  from_start stack [] a is e = absurd (apart a [] e)
  from_start stack (t ∷ ts) a is e = by (expression.step limit (asks_term (asked stack)) (expression.wanting []) t) refl e where
    by : (o : Option expression.State) → expression.step limit (asks_term (asked stack)) (expression.wanting []) t ≡ o
        → expression.after o (t ∷ ts) (λ next. expression.run limit (asks_term (asked stack)) ts next) ≡ Ok a → Ends (t ∷ ts) (expecting stack) stack (of_expression a)
    by (Some next) taken e =
        let r = inside_run stack ts next a e in
        record { to = r.to; goes = (λ rest. goes_on (expecting stack) (within next stack) t (ts ++ rest) (first_step stack (asked stack) t next refl is taken) ∙ r.goes rest); ends = r.ends }
    by None taken e = absurd (apart a (t ∷ ts) e)

  expression_reads : (stack : List Frame) (a : Text) → IsExpressionKind (asked stack) → IsText limit (asks_term (asked stack)) a → Ends (tokens a) (expecting stack) stack (of_expression a)
  expression_reads stack a is h = from_start stack (tokens a) a is (inner_rereading.whole_read limit (asks_term (asked stack)) a h)

  -- # Levels

  none_in : (a : Argument) → reached_in 0 a ≡ 0
  none_in (of_proof p) = refl
  none_in (of_sort s) = refl
  none_in (of_number n) = refl
  none_in (of_expression a) = refl

  none_in_all : (others : Arguments) → reached_in_all 0 others ≡ 0
  none_in_all (last a) = none_in a
  none_in_all (more a others) =
      let none : 0 ≡ 0 - suc (length (argument_tokens a)) = omega arith in
      let rest : reached_in_all (0 - suc (length (argument_tokens a))) others ≡ 0 = subst (λ n. reached_in_all n others ≡ 0) none (none_in_all others) in
      omega (arith, none_in a, rest)

  some_reached : (p : ProofText) (n : ℕ) → 1 ≤ reached (suc n) p
  some_reached (numbered k) n = omega arith
  some_reached (open_hole k) n = omega arith
  some_reached (headed h arguments) n = omega arith

  one_level : (p : ProofText) → ((n : ℕ) → reached (suc n) p ≡ 1) → (around : ℕ) → around < most → (n : ℕ) → around + reached n p ≤ most
  one_level p one around low zero = omega (arith, low)
  one_level p one around low (suc n) = omega (arith, low, one n)

  -- # The first token of a proof

  proof_step : (stack : List Frame) (k : Kind) (t : Token) → asked stack ≡ k → IsProofKind k → length stack < most → step limit most holes (expecting stack) t ≡ begins_proof holes stack t
  proof_step stack (a_proof v h) t same is low = rw (same, lt-ltb (length stack) most low) refl
  proof_step stack a_sort t same is low = absurd is
  proof_step stack a_number t same is low = absurd is
  proof_step stack a_term t same is low = absurd is
  proof_step stack (a_formula v) t same is low = absurd is

  no_step : (stack : List Frame) (k : Kind) (t : Token) → asked stack ≡ k → IsProofKind k → most ≤ length stack → step limit most holes (expecting stack) t ≡ None
  no_step stack (a_proof v h) t same is high = rw (same, le-ltb (length stack) most high) refl
  no_step stack a_sort t same is high = absurd is
  no_step stack a_number t same is high = absurd is
  no_step stack a_term t same is high = absurd is
  no_step stack (a_formula v) t same is high = absurd is

  -- a proof that is too deep by its first token
  too_deep : (p : ProofText) (stack : List Frame) (t : Token) (ts : List Token) → proof_tokens p ≡ t ∷ ts → IsProofKind (asked stack) → length stack ≡ most → Stops (proof_tokens p) (expecting stack) (λ n. length stack + reached n p)
  too_deep p stack t ts same is full = record {
    front = [];
    back = proof_tokens p;
    whole = refl;
    stops = (λ rest. subst (λ x. run limit most holes (x ++ rest) (expecting stack) ≡ Err (x ++ rest)) (sym same)
        (stops_at (expecting stack) t (ts ++ rest) (no_step stack (asked stack) t refl is (omega (arith, full)))));
    low = low;
    high = high;
  } where
    low : (n : ℕ) → n ≤ 0 → length stack + reached n p ≤ most
    low zero l = omega (arith, full)
    low (suc n) l = absurd (omega (arith, l))

    high : (n : ℕ) → 0 < n → most < length stack + reached n p
    high zero l = absurd (omega (arith, l))
    high (suc n) l = omega (arith, full, some_reached p n)

  -- a proof may be too deep, or its first token is a step
  deep_or_not : (p : ProofText) (stack : List Frame) (t : Token) (ts : List Token) (to : State) → proof_tokens p ≡ t ∷ ts → IsProofKind (asked stack) → length stack ≤ most
      → (length stack < most → Reads (proof_tokens p) (expecting stack) to (λ n. length stack + reached n p)) → Reads (proof_tokens p) (expecting stack) to (λ n. length stack + reached n p)
  deep_or_not p stack t ts to same is low f =
      ⊎_elim (λ (h : length stack < most). f h) (λ (h : most ≤ length stack). inr (too_deep p stack t ts same is (omega (arith, low, h)))) (cases_lt (length stack) most)

  number_step : (hole : Bool) (k : ℕ) (stack : List Frame) → k < 2 ^ 32 → step limit most holes (marked hole stack) (token.number k) ≡ Some (complete stack (of_proof (marked_proof hole k)))
  number_step hole k stack small = rw (lt-ltb k (2 ^ 32) small) refl

  numbered_passes : (k : ℕ) (stack : List Frame) → IsProofKind (asked stack) → k < 2 ^ 32 → length stack < most
      → Passes (proof_tokens (numbered k)) (expecting stack) (complete stack (of_proof (numbered k))) (λ n. length stack + reached n (numbered k))
  numbered_passes k stack is small low = record {
    goes = (λ rest. goes_on (expecting stack) (marked false stack) (token.mark marks.Hash) (token.number k ∷ rest) (proof_step stack (asked stack) (token.mark marks.Hash) refl is low)
        ∙ goes_on (marked false stack) (complete stack (of_proof (numbered k))) (token.number k) rest (number_step false k stack small));
    low = one_level (numbered k) (λ n. refl) (length stack) low;
  }

  hole_passes : (k : ℕ) (stack : List Frame) → IsProofKind (asked stack) → holes ≡ true → k < 2 ^ 32 → length stack < most
      → Passes (proof_tokens (open_hole k)) (expecting stack) (complete stack (of_proof (open_hole k))) (λ n. length stack + reached n (open_hole k))
  hole_passes k stack is may small low = record {
    goes = (λ rest. goes_on (expecting stack) (marked true stack) (token.mark marks.Question) (token.number k ∷ rest)
        (proof_step stack (asked stack) (token.mark marks.Question) refl is low ∙ ap (λ b. guarded b (marked true stack)) may)
        ∙ goes_on (marked true stack) (complete stack (of_proof (open_hole k))) (token.number k) rest (number_step true k stack small));
    low = one_level (open_hole k) (λ n. refl) (length stack) low;
  }

  -- # Rules

  head_passes : (h : Head) (k : Kind) (after : List Kind) (stack : List Frame) → kinds h ≡ k ∷ after → IsProofKind (asked stack) → length stack < most
      → Passes (token.word (head_word h) ∷ token.mark marks.Open ∷ []) (expecting stack) (expecting (calling h [] k after ∷ stack)) (λ n. suc (length stack))
  head_passes h k after stack same is low = record {
    goes = (λ rest. goes_on (expecting stack) (opening h stack) (token.word (head_word h)) (token.mark marks.Open ∷ rest)
        (proof_step stack (asked stack) (token.word (head_word h)) refl is low ∙ ap (option_map (λ g. opening g stack)) (head_found h))
        ∙ goes_on (opening h stack) (expecting (calling h [] k after ∷ stack)) (token.mark marks.Open) rest (ap (λ ks. enters h ks stack) same));
    low = (λ n. omega (arith, low));
  }

  head_joins : (h : Head) (arguments : Arguments) (around : ℕ) → around < most
      → Joins (token.word (head_word h) ∷ token.mark marks.Open ∷ []) (arguments_tokens arguments ++ (token.mark marks.Close ∷ []))
      (λ n. suc around) (λ n. suc around + reached_in_all n arguments) (λ n. around + reached n (headed h arguments))
  head_joins h arguments around below = record {
    start = omega (arith, below, none_in_all arguments);
    low = low;
    high_first = (λ n l. absurd (omega (arith, below, l)));
    high_second = high;
  } where
    one_less : (n : ℕ) → suc n - 2 ≡ n - 1
    one_less n = omega arith

    low : (n : ℕ) → suc around ≤ most → suc around + reached_in_all (n - 2) arguments ≤ most → around + reached n (headed h arguments) ≤ most
    low zero l m = omega (arith, l)
    low (suc n) l m = let k = subst (λ x. suc around + reached_in_all x arguments ≤ most) (one_less n) m in omega (arith, k)

    high : (n : ℕ) → 2 < n → most < suc around + reached_in_all (n - 2) arguments → most < around + reached n (headed h arguments)
    high zero l m = absurd (omega (arith, l))
    high (suc n) l m = let k = subst (λ x. most < suc around + reached_in_all x arguments) (one_less n) m in omega (arith, k)

  -- an argument is read up to a `,` or `)`
  pub record ArgumentReads (stack : List Frame) (a : Argument) : Type 0 where
    pub to : State
    pub ends : EndsAs to stack a
    pub reads : Reads (argument_tokens a) (expecting stack) to (λ n. length stack + reached_in n a)

  sort_reads : (s : Sort) (stack : List Frame) → asked stack ≡ a_sort → length stack ≤ most → ArgumentReads stack (of_sort s)
  sort_reads s stack same low = record {
    to = complete stack (of_sort s);
    ends = (refl, refl);
    reads = inl (record { goes = (λ rest. goes_on (expecting stack) (complete stack (of_sort s)) (token.sort s) rest (rw same refl)); low = (λ n. omega (arith, low)) });
  }

  number_reads : (k : ℕ) (stack : List Frame) → asked stack ≡ a_number → k < 2 ^ 32 → length stack ≤ most → ArgumentReads stack (of_number k)
  number_reads k stack same small low = record {
    to = complete stack (of_number k);
    ends = (refl, refl);
    reads = inl (record { goes = (λ rest. goes_on (expecting stack) (complete stack (of_number k)) (token.number k) rest (rw (same, lt-ltb k (2 ^ 32) small) refl)); low = (λ n. omega (arith, low)) });
  }

  text_reads : (a : Text) (stack : List Frame) (k : Kind) → asked stack ≡ k → IsExpressionKind k → IsText limit (asks_term k) a → length stack ≤ most → ArgumentReads stack (of_expression a)
  text_reads a stack k same is h low =
      let e = expression_reads stack a (subst IsExpressionKind (sym same) is) (subst (λ x. IsText limit (asks_term x) a) (sym same) h) in
      record { to = e.to; ends = e.ends; reads = inl (record { goes = e.goes; low = (λ n. omega (arith, low)) }) }

  -- the last argument
  last_reads : (a : Argument) (h : Head) (done : List Argument) (k : Kind) (stack : List Frame) → suc (length stack) ≤ most → ArgumentReads (calling h done k [] ∷ stack) a
      → Reads (argument_tokens a ++ (token.mark marks.Close ∷ [])) (expecting (calling h done k [] ∷ stack)) (complete stack (of_proof (headed h (gathered done (last a))))) (λ n. suc (length stack) + reached_in_all n (last a))
  last_reads a h done k stack low r =
      reads_then (argument_tokens a) (token.mark marks.Close ∷ []) (expecting (calling h done k [] ∷ stack)) r.to (complete stack (of_proof (headed h (gathered done (last a)))))
      (λ n. suc (length stack) + reached_in n a) (λ n. suc (length stack)) (λ n. suc (length stack) + reached_in_all n (last a))
      (record { start = low; low = (λ n l m. l); high_first = (λ n l. l); high_second = (λ n l m. absurd (omega (arith, low, m))) })
      r.reads
      (inl (one_passes (token.mark marks.Close) r.to (complete stack (of_proof (headed h (gathered done (last a))))) (suc (length stack)) r.ends.1 low))

  -- an argument with others after it
  more_reads : (a : Argument) (others : Arguments) (h : Head) (done : List Argument) (k l : Kind) (after : List Kind) (stack : List Frame) → suc (length stack) ≤ most → ArgumentReads (calling h done k (l ∷ after) ∷ stack) a
      → Reads (arguments_tokens others ++ (token.mark marks.Close ∷ [])) (expecting (calling h (a ∷ done) l after ∷ stack)) (complete stack (of_proof (headed h (gathered done (more a others))))) (λ n. suc (length stack) + reached_in_all n others)
      → Reads (arguments_tokens (more a others) ++ (token.mark marks.Close ∷ [])) (expecting (calling h done k (l ∷ after) ∷ stack)) (complete stack (of_proof (headed h (gathered done (more a others))))) (λ n. suc (length stack) + reached_in_all n (more a others))
  more_reads a others h done k l after stack low r q =
      subst (λ ts. Reads ts (expecting (calling h done k (l ∷ after) ∷ stack)) to (λ n. suc (length stack) + reached_in_all n (more a others)))
      (sym (append_assoc (argument_tokens a) (token.mark marks.Comma ∷ arguments_tokens others) (token.mark marks.Close ∷ [])))
      (reads_then (argument_tokens a) (token.mark marks.Comma ∷ us) (expecting (calling h done k (l ∷ after) ∷ stack)) r.to to
      (λ n. suc (length stack) + reached_in n a) (λ n. suc (length stack) + reached_in_all (n - 1) others) (λ n. suc (length stack) + reached_in_all n (more a others))
      (record { start = omega (arith, low, none_in_all others); low = low_both; high_first = (λ n m. omega (arith, m)); high_second = high_both })
      r.reads later) where
        us : List Token
        us = arguments_tokens others ++ (token.mark marks.Close ∷ [])

        to : State
        to = complete stack (of_proof (headed h (gathered done (more a others))))

        one_less : (n : ℕ) → n - length (argument_tokens a) - 1 ≡ n - suc (length (argument_tokens a))
        one_less n = omega arith

        low_both : (n : ℕ) → suc (length stack) + reached_in n a ≤ most → suc (length stack) + reached_in_all (n - length (argument_tokens a) - 1) others ≤ most → suc (length stack) + reached_in_all n (more a others) ≤ most
        low_both n x y = let z = subst (λ m. suc (length stack) + reached_in_all m others ≤ most) (one_less n) y in omega (arith, x, z)

        high_both : (n : ℕ) → length (argument_tokens a) < n → most < suc (length stack) + reached_in_all (n - length (argument_tokens a) - 1) others → most < suc (length stack) + reached_in_all n (more a others)
        high_both n x y = let z = subst (λ m. most < suc (length stack) + reached_in_all m others) (one_less n) y in omega (arith, z)

        later : Reads (token.mark marks.Comma ∷ us) r.to to (λ n. suc (length stack) + reached_in_all (n - 1) others)
        later =
            passes_then (token.mark marks.Comma ∷ []) us r.to (expecting (calling h (a ∷ done) l after ∷ stack)) to
            (λ n. suc (length stack)) (λ n. suc (length stack) + reached_in_all n others) (λ n. suc (length stack) + reached_in_all (n - 1) others)
            (record { start = omega (arith, low, none_in_all others); low = (λ n x y. y); high_first = (λ n x. absurd (omega (arith, low, x))); high_second = (λ n x y. y) })
            (one_passes (token.mark marks.Comma) r.to (expecting (calling h (a ∷ done) l after ∷ stack)) (suc (length stack)) r.ends.0 low) q

  mutual
    pub proof_reads : (p : ProofText) (deep : ℕ) (stack : List Frame) → IsProofKind (asked stack) → IsProofText limit deep holes (length stack) p → length stack ≤ most
        → Reads (proof_tokens p) (expecting stack) (complete stack (of_proof p)) (λ n. length stack + reached n p)
    proof_reads (numbered k) deep stack is h low =
        deep_or_not (numbered k) stack (token.mark marks.Hash) (token.number k ∷ []) (complete stack (of_proof (numbered k))) refl is low (λ l. inl (numbered_passes k stack is h.1 l))
    proof_reads (open_hole k) deep stack is h low =
        deep_or_not (open_hole k) stack (token.mark marks.Question) (token.number k ∷ []) (complete stack (of_proof (open_hole k))) refl is low (λ l. inl (hole_passes k stack is h.1 h.2 l))
    proof_reads (headed g arguments) deep stack is h low =
        let k = has_argument g in
        deep_or_not (headed g arguments) stack (token.word (head_word g)) (token.mark marks.Open ∷ (arguments_tokens arguments ++ (token.mark marks.Close ∷ []))) (complete stack (of_proof (headed g arguments))) refl is low
        (λ l. passes_then (token.word (head_word g) ∷ token.mark marks.Open ∷ []) (arguments_tokens arguments ++ (token.mark marks.Close ∷ []))
        (expecting stack) (expecting (calling g [] k.0 k.1 ∷ stack)) (complete stack (of_proof (headed g arguments)))
        (λ n. suc (length stack)) (λ n. suc (length stack) + reached_in_all n arguments) (λ n. length stack + reached n (headed g arguments))
        (head_joins g arguments (length stack) l) (head_passes g k.0 k.1 stack k.2 is l)
        (arguments_read arguments deep g [] k.0 k.1 stack (subst (λ ks. AreArguments limit deep holes (suc (length stack)) ks arguments) k.2 h.1) l))

    arguments_read : (others : Arguments) (deep : ℕ) (g : Head) (done : List Argument) (k : Kind) (after : List Kind) (stack : List Frame)
        → AreArguments limit deep holes (suc (length stack)) (k ∷ after) others → suc (length stack) ≤ most
        → Reads (arguments_tokens others ++ (token.mark marks.Close ∷ [])) (expecting (calling g done k after ∷ stack)) (complete stack (of_proof (headed g (gathered done others)))) (λ n. suc (length stack) + reached_in_all n others)
    arguments_read (last a) deep g done k [] stack h low =
        last_reads a g done k stack low (argument_reads a deep (calling g done k [] ∷ stack) k refl h.1 low)
    arguments_read (last a) deep g done k (l ∷ after) stack h low = absurd (cc)
    arguments_read (more a others) deep g done k [] stack h low = absurd h.1
    arguments_read (more a others) deep g done k (l ∷ after) stack h low =
        more_reads a others g done k l after stack low (argument_reads a deep (calling g done k (l ∷ after) ∷ stack) k refl h.0 low)
        (arguments_read others deep g (a ∷ done) l after stack h.1 low)

    argument_reads : (a : Argument) (deep : ℕ) (stack : List Frame) (k : Kind) → asked stack ≡ k → IsArgument limit deep holes (length stack) k a → length stack ≤ most → ArgumentReads stack a
    argument_reads (of_sort s) deep stack a_sort same h low = sort_reads s stack same low
    argument_reads (of_number n) deep stack a_number same h low = number_reads n stack same h low
    argument_reads (of_expression a) deep stack a_term same h low = text_reads a stack a_term same tt h low
    argument_reads (of_expression a) deep stack (a_formula v) same h low = text_reads a stack (a_formula v) same tt h low
    argument_reads (of_proof p) deep stack (a_proof v g) same h low =
        record { to = complete stack (of_proof p); ends = (refl, refl); reads = proof_reads p deep stack (subst IsProofKind (sym same) tt) h low }
    argument_reads a deep stack k same h low = absurd h

  -- # A proof within the limit

  headed_level : (h : Head) (arguments : Arguments) (around : ℕ) → around < most → ((n : ℕ) → suc around + reached_in_all n arguments ≤ most) → (n : ℕ) → around + reached n (headed h arguments) ≤ most
  headed_level h arguments around low f zero = omega (arith, low)
  headed_level h arguments around low f (suc n) = let k = f (n - 1) in omega (arith, k)

  mutual
    pub proof_level : (p : ProofText) (around : ℕ) → IsProofText limit most holes around p → (n : ℕ) → around + reached n p ≤ most
    proof_level (numbered k) around h n = one_level (numbered k) (λ m. refl) around h.0 n
    proof_level (open_hole k) around h n = one_level (open_hole k) (λ m. refl) around h.0 n
    proof_level (headed g arguments) around h n = headed_level g arguments around h.0 (λ m. arguments_level arguments (kinds g) (suc around) h.1 h.0 m) n

    arguments_level : (others : Arguments) (ks : List Kind) (around : ℕ) → AreArguments limit most holes around ks others → around ≤ most → (n : ℕ) → around + reached_in_all n others ≤ most
    arguments_level (last a) [] around h low n = absurd h
    arguments_level (last a) (k ∷ ks) around h low n = argument_level a k around h.1 low n
    arguments_level (more a others) [] around h low n = absurd h
    arguments_level (more a others) (k ∷ ks) around h low n =
        let one : around + reached_in n a ≤ most = argument_level a k around h.0 low n in
        let rest : around + reached_in_all (n - suc (length (argument_tokens a))) others ≤ most = arguments_level others ks around h.1 low (n - suc (length (argument_tokens a))) in
        omega (arith, one, rest)

    argument_level : (a : Argument) (k : Kind) (around : ℕ) → IsArgument limit most holes around k a → around ≤ most → (n : ℕ) → around + reached_in n a ≤ most
    argument_level (of_proof p) (a_proof v g) around h low n = proof_level p around h n
    argument_level (of_proof p) k around h low n = absurd h
    argument_level (of_sort s) k around h low n = omega (arith, low)
    argument_level (of_number m) k around h low n = omega (arith, low)
    argument_level (of_expression a) k around h low n = omega (arith, low)
