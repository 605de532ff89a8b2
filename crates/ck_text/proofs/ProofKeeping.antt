-- Each step of the reader of proofs keeps what holds of its stack, and puts the token behind those that were read.
use Rattle.std.proofs.Common.{◌≡◌, ℕ, suc, ◌≤◌, ◌<◌, ◌^◌, Bool, true, false, List, [], ◌∷◌, ◌++◌, length, refl, sym, ap, subst, ◌∙◌, arith, Option, Some, None, nat_lt, if◌then◌else◌}
use Rattle.std.specs.Option.{option_map}
use Rattle.std.proofs.lemmas.Bool.{ltb-true}
use Rattle.ck_text.specs.declared.head.Head.{Head}
use Rattle.ck_text.specs.declared.token.Mark.TheVariants as marks
use Rattle.ck_text.specs.Tokens.{Token}
use Rattle.ck_text.specs.Tokens as token
use Rattle.ck_text.specs.Texts.{Text, tokens, IsText}
use Rattle.ck_text.specs.Machine as expression
use Rattle.ck_text.specs.ProofTexts.{Kind, a_sort, a_number, a_term, a_formula, a_proof, kinds, head_word, headed, last, Argument, of_sort, of_number, of_expression, of_proof, proof_tokens, IsProofText, IsArgument}
use Rattle.ck_text.specs.ProofMachine.{Frame, calling, State, expecting, marked, opening, within, complete, asked, asks_term, head_of, guarded, begins_proof, begins, marked_proof, enters, gathered, separated, ends, inside, step, after}
use Rattle.ck_text.proofs.Stacks as inner
use Rattle.ck_text.proofs.Keeping as inner_keeping
use Rattle.ck_text.proofs.ProofTables.{head_named, IsProofKind, IsExpressionKind, proof_argument, expression_argument}
use Rattle.ck_text.proofs.ProofStacks.{gathered_are, Sits, Lasts, front, mark_token, before, closed_front, inner_before}

pub guard_passed : (test : Bool) (st next : State) → guarded test st ≡ Some next → (test ≡ true) × (st ≡ next)
guard_passed true st next e = (refl, cc)
guard_passed false st next e = absurd (cc)

pub some_map : {A B : Type 0} (f : A → B) (o : Option A) (b : B) → option_map f o ≡ Some b → (a : A) × (o ≡ Some a) × (f a ≡ b)
some_map f (Some a) b e = (a, refl, cc)
some_map f None b e = absurd (cc)

-- a term or formula that may end has just the tokens that were read
pub ended_is : (limit : ℕ) (asked : Bool) (st : expression.State) (a : Text) → inner.Lasts limit asked st → expression.finished st ≡ Some a
    → IsText limit asked a × ((rest : List Token) → inner.before st rest ≡ tokens a ++ rest)
ended_is limit asked st a h e =
    let r = inner_keeping.run_is limit asked [] st a h (ap expression.or_fault e) in
    (r.0, (λ rest. inner_before st [] rest ∙ ap (λ ts. ts ++ rest) r.1))

module _ (limit most deep : ℕ) (holes : Bool) (few : most ≤ deep) where
  abbrev pub Keeps : State → Token → State → Type 0
  Keeps st t next = Lasts limit most deep holes next × ((rest : List Token) → before st (t ∷ rest) ≡ before next rest)

  goes : (st : State) (t : Token) (to next : State) → Some to ≡ Some next → Keeps st t to → Keeps st t next
  goes st t to next e k = let same : to ≡ next = cc in subst (λ x. Keeps st t x) same k

  begins_proof_keeps : (stack : List Frame) (t : Token) (next : State) → IsProofKind (asked stack) → length stack < most → Sits limit most deep holes stack
      → begins_proof holes stack t ≡ Some next → Keeps (expecting stack) t next
  begins_proof_keeps stack (token.mark marks.Hash) next is low h e =
      goes (expecting stack) (token.mark marks.Hash) (marked false stack) next e ((h, is, low, (λ f. absurd (cc))), (λ rest. refl))
  begins_proof_keeps stack (token.mark marks.Question) next is low h e =
      let passed = guard_passed holes (marked true stack) next e in
      subst (λ x. Keeps (expecting stack) (token.mark marks.Question) x) passed.1 ((h, is, low, (λ f. passed.0)), (λ rest. refl))
  begins_proof_keeps stack (token.word bytes) next is low h e =
      let found = some_map (λ g. opening g stack) (head_of bytes) next e in
      let same : bytes ≡ head_word found.0 = head_named bytes found.0 found.1 in
      subst (λ x. Keeps (expecting stack) (token.word bytes) x) found.2 ((h, is, low), (λ rest. ap (λ x. front stack (token.word x ∷ rest)) same))
  begins_proof_keeps stack t next is low h e = absurd (cc)

  begins_expression : (term : Bool) (stack : List Frame) (t : Token) (next : State) → asks_term (asked stack) ≡ term → IsExpressionKind (asked stack) → Sits limit most deep holes stack
      → option_map (λ st. within st stack) (expression.step limit term (expression.wanting []) t) ≡ Some next → Keeps (expecting stack) t next
  begins_expression term stack t next same is h e =
      let found = some_map (λ st. within st stack) (expression.step limit term (expression.wanting []) t) next e in
      let k = inner_keeping.step_keeps limit term (expression.wanting []) t found.0 tt found.1 in
      subst (λ x. Keeps (expecting stack) t x) found.2
      ((h, is, subst (λ b. inner.Lasts limit b found.0) (sym same) k.0), (λ rest. ap (front stack) (k.1 rest)))

  begins_keeps : (k : Kind) (stack : List Frame) (t : Token) (next : State) → asked stack ≡ k → Sits limit most deep holes stack
      → begins limit most holes k stack t ≡ Some next → Keeps (expecting stack) t next
  begins_keeps a_sort stack (token.sort s) next same h e =
      goes (expecting stack) (token.sort s) (complete stack (of_sort s)) next e ((h, subst (λ k. IsArgument limit deep holes (length stack) k (of_sort s)) (sym same) tt), (λ rest. refl))
  begins_keeps a_number stack (token.number n) next same h e =
      let passed = guard_passed (nat_lt n (2 ^ 32)) (complete stack (of_number n)) next e in
      subst (λ x. Keeps (expecting stack) (token.number n) x) passed.1
      ((h, subst (λ k. IsArgument limit deep holes (length stack) k (of_number n)) (sym same) (ltb-true n (2 ^ 32) passed.0)), (λ rest. refl))
  begins_keeps a_term stack t next same h e = begins_expression true stack t next (ap asks_term same) (subst IsExpressionKind (sym same) tt) h e
  begins_keeps (a_formula v) stack t next same h e = begins_expression false stack t next (ap asks_term same) (subst IsExpressionKind (sym same) tt) h e
  begins_keeps (a_proof v g) stack t next same h e = by (nat_lt (length stack) most) refl e where
    by : (b : Bool) → nat_lt (length stack) most ≡ b → (if b then begins_proof holes stack t else None) ≡ Some next → Keeps (expecting stack) t next
    by true low e = begins_proof_keeps stack t next (subst IsProofKind (sym same) tt) (ltb-true (length stack) most low) h e
    by false low e = absurd (cc)
  begins_keeps k stack t next same h e = absurd (cc)

  marked_is : (hole : Bool) (k around : ℕ) → around < most → (hole ≡ true → holes ≡ true) → k < 2 ^ 32 → IsProofText limit deep holes around (marked_proof hole k)
  marked_is false k around low may small = (omega (arith, low, few), small)
  marked_is true k around low may small = (omega (arith, low, few), may refl, small)

  marked_front : (hole : Bool) (k : ℕ) (rest : List Token) → mark_token hole ∷ token.number k ∷ rest ≡ proof_tokens (marked_proof hole k) ++ rest
  marked_front false k rest = refl
  marked_front true k rest = refl

  enters_keeps : (h : Head) (ks : List Kind) (stack : List Frame) (next : State) → kinds h ≡ ks → Lasts limit most deep holes (opening h stack) → enters h ks stack ≡ Some next
      → Keeps (opening h stack) (token.mark marks.Open) next
  enters_keeps h [] stack next same l e = absurd (cc)
  enters_keeps h (k ∷ after) stack next same l e =
      goes (opening h stack) (token.mark marks.Open) (expecting (calling h [] k after ∷ stack)) next e ((l.1, l.2, same, l.0), (λ rest. refl))

  separated_keeps : (stack : List Frame) (a : Argument) (t : Token) (next : State) → Lasts limit most deep holes (complete stack a) → separated stack a t ≡ Some next → Keeps (complete stack a) t next
  separated_keeps (calling h done k (l ∷ after) ∷ stack) a (token.mark marks.Comma) next c e =
      goes (complete (calling h done k (l ∷ after) ∷ stack) a) (token.mark marks.Comma) (expecting (calling h (a ∷ done) l after ∷ stack)) next e
      ((c.0.0, c.0.1, (k, c.1, c.0.2), c.0.3), (λ rest. refl))
  separated_keeps (calling h done k [] ∷ stack) a (token.mark marks.Close) next c e =
      goes (complete (calling h done k [] ∷ stack) a) (token.mark marks.Close) (complete stack (of_proof (headed h (gathered done (last a))))) next e (
        (
          c.0.3,
          proof_argument limit deep holes (length stack) (asked stack) (headed h (gathered done (last a))) c.0.0
              (omega (arith, c.0.1, few), gathered_are limit deep holes (suc (length stack)) (kinds h) done (k ∷ []) (last a) c.0.2 (refl, c.1)),
        ),
        (λ rest. ap (front stack) (closed_front h done (last a) rest)),
      )
  separated_keeps stack a t next c e = absurd (cc)

  ends_keeps : (o : Option Text) (st : expression.State) (stack : List Frame) (t : Token) (next : State) → expression.finished st ≡ o → Lasts limit most deep holes (within st stack)
      → ends o stack t ≡ Some next → Keeps (within st stack) t next
  ends_keeps None st stack t next f l e = absurd (cc)
  ends_keeps (Some a) st stack t next f l e =
      let is = ended_is limit (asks_term (asked stack)) st a l.2 f in
      let k = separated_keeps stack (of_expression a) t next (l.0, expression_argument limit deep holes (length stack) (asked stack) a l.1 is.0) e in
      (k.0, (λ rest. ap (front stack) (is.1 (t ∷ rest)) ∙ k.1 rest))

  inside_keeps : (o : Option expression.State) (st : expression.State) (stack : List Frame) (t : Token) (next : State) → expression.step limit (asks_term (asked stack)) st t ≡ o
      → Lasts limit most deep holes (within st stack) → inside o st stack t ≡ Some next → Keeps (within st stack) t next
  inside_keeps (Some on) st stack t next f l e =
      let k = inner_keeping.step_keeps limit (asks_term (asked stack)) st t on l.2 f in
      goes (within st stack) t (within on stack) next e ((l.0, l.1, k.0), (λ rest. ap (front stack) (k.1 rest)))
  inside_keeps None st stack t next f l e = ends_keeps (expression.finished st) st stack t next refl l e

  pub step_keeps : (st : State) (t : Token) (next : State) → Lasts limit most deep holes st → step limit most holes st t ≡ Some next → Keeps st t next
  step_keeps (expecting stack) t next h e = begins_keeps (asked stack) stack t next refl h e
  step_keeps (marked hole stack) (token.number k) next h e =
      let passed = guard_passed (nat_lt k (2 ^ 32)) (complete stack (of_proof (marked_proof hole k))) next e in
      subst (λ x. Keeps (marked hole stack) (token.number k) x) passed.1 (
        (h.0, proof_argument limit deep holes (length stack) (asked stack) (marked_proof hole k) h.1 (marked_is hole k (length stack) h.2 h.3 (ltb-true k (2 ^ 32) passed.0))),
        (λ rest. ap (front stack) (marked_front hole k rest)),
      )
  step_keeps (opening g stack) (token.mark marks.Open) next h e = enters_keeps g (kinds g) stack next refl h e
  step_keeps (within st stack) t next h e = inside_keeps (expression.step limit (asks_term (asked stack)) st t) st stack t next refl h e
  step_keeps (complete stack a) t next h e = separated_keeps stack a t next h e
  step_keeps st t next h e = absurd (cc)
