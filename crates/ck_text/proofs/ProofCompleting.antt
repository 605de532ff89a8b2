-- Each state that is reached goes on to a proof: the least argument where one is wanted, and a `)` for each rule.
use Rattle.std.proofs.Common.{◌≡◌, ℕ, suc, ◌<◌, Bool, true, false, List, [], ◌∷◌, ◌++◌, length, refl, sym, ap, subst, ◌∙◌, arith, append_assoc, append-nil}
use Rattle.ck_text.specs.declared.head.Head.{Head}
use Rattle.ck_text.specs.declared.token.Mark.TheVariants as marks
use Rattle.ck_text.specs.Tokens.{Token, AreTokens}
use Rattle.ck_text.specs.Tokens as token
use Rattle.ck_text.specs.Machine as expression
use Rattle.ck_text.specs.ProofTexts.{Kind, a_sort, a_number, a_term, a_formula, a_proof, kinds, head_word, ProofText, numbered, open_hole, headed, Arguments, last, more, Argument, of_expression, of_proof, proof_tokens, arguments_tokens, argument_tokens, IsProofText, AreArguments, IsArgument}
use Rattle.ck_text.specs.ProofMachine.{Frame, calling, State, expecting, marked, opening, within, complete, asked, asks_term, gathered}
use Rattle.ck_text.proofs.Completing as inner_completing
use Rattle.ck_text.proofs.ProofTables.{has_argument, proof_argument, expression_argument, least, least_is}
use Rattle.ck_text.proofs.ProofStacks.{gathered_are, Sits, Lasts, sits_low, done_front, front, before, closed_front, inner_before}

-- # The least arguments

-- an argument, and the least ones of further kinds
abbrev pub followed : Argument → List Kind → Arguments
followed a [] = last a
followed a (k ∷ ks) = more a (followed (least k) ks)

-- the tokens after an argument, up to the `)`
abbrev pub owed_here : List Kind → List Token → List Token
owed_here [] rest = token.mark marks.Close ∷ rest
owed_here (k ∷ ks) rest = token.mark marks.Comma ∷ (argument_tokens (least k) ++ owed_here ks rest)

followed_are : (limit deep : ℕ) (holes : Bool) (around : ℕ) (k : Kind) (ks : List Kind) (a : Argument) → around < deep → IsArgument limit deep holes around k a
    → AreArguments limit deep holes around (k ∷ ks) (followed a ks)
followed_are limit deep holes around k [] a low h = (refl, h)
followed_are limit deep holes around k (l ∷ ks) a low h = (h, followed_are limit deep holes around l ks (least l) low (least_is limit deep holes around l low))

followed_front : (a : Argument) (ks : List Kind) (rest : List Token) → argument_tokens a ++ owed_here ks rest ≡ arguments_tokens (followed a ks) ++ (token.mark marks.Close ∷ rest)
followed_front a [] rest = refl
followed_front a (k ∷ ks) rest =
    ap (λ ts. argument_tokens a ++ (token.mark marks.Comma ∷ ts)) (followed_front (least k) ks rest)
    ∙ sym (append_assoc (argument_tokens a) (token.mark marks.Comma ∷ arguments_tokens (followed (least k) ks)) (token.mark marks.Close ∷ rest))

joined_are : (ts us : List Token) → AreTokens ts → AreTokens us → AreTokens (ts ++ us)
joined_are [] us h k = k
joined_are (t ∷ ts) us h k = (h.0, joined_are ts us h.1 k)

least_are : (k : Kind) → AreTokens (argument_tokens (least k))
least_are a_sort = (tt, tt)
least_are a_number = (omega arith, tt)
least_are a_term = (tt, tt)
least_are (a_formula v) = (tt, tt)
least_are (a_proof v h) = (tt, (omega arith, tt))

owed_here_are : (ks : List Kind) (rest : List Token) → AreTokens rest → AreTokens (owed_here ks rest)
owed_here_are [] rest h = (tt, h)
owed_here_are (k ∷ ks) rest h = (tt, joined_are (argument_tokens (least k)) (owed_here ks rest) (least_are k) (owed_here_are ks rest h))

-- # The whole proof

-- the whole proof, where the argument is read and the least ones follow in each rule
abbrev pub plugged : List Frame → Argument → ProofText
plugged [] (of_proof p) = p
plugged [] a = numbered 0
plugged (calling h done k after ∷ stack) a = plugged stack (of_proof (headed h (gathered done (followed a after))))

abbrev pub owed : List Frame → List Token
owed [] = []
owed (calling h done k after ∷ stack) = owed_here after (owed stack)

owed_are : (stack : List Frame) → AreTokens (owed stack)
owed_are [] = tt
owed_are (calling h done k after ∷ stack) = owed_here_are after (owed stack) (owed_are stack)

module _ (limit most : ℕ) (holes : Bool) where
  abbrev deep : ℕ
  deep = suc most

  plugged_is : (stack : List Frame) (a : Argument) → Sits limit most deep holes stack → IsArgument limit deep holes (length stack) (asked stack) a → IsProofText limit deep holes 0 (plugged stack a)
  plugged_is [] (of_proof p) h i = i
  plugged_is [] a h i = absurd i
  plugged_is (calling g done k after ∷ stack) a h i =
      plugged_is stack (of_proof (headed g (gathered done (followed a after)))) h.3
      (proof_argument limit deep holes (length stack) (asked stack) (headed g (gathered done (followed a after))) h.0 (
        omega (arith, h.1),
        gathered_are limit deep holes (suc (length stack)) (kinds g) done (k ∷ after) (followed a after) h.2
            (followed_are limit deep holes (suc (length stack)) k after a (omega (arith, h.1)) i),
      ))

  plugged_tokens : (stack : List Frame) (a : Argument) → Sits limit most deep holes stack → IsArgument limit deep holes (length stack) (asked stack) a
      → proof_tokens (plugged stack a) ≡ front stack (argument_tokens a ++ owed stack)
  plugged_tokens [] (of_proof p) h i = sym (append-nil (proof_tokens p))
  plugged_tokens [] a h i = absurd i
  plugged_tokens (calling g done k after ∷ stack) a h i =
      plugged_tokens stack (of_proof (headed g (gathered done (followed a after)))) h.3
      (proof_argument limit deep holes (length stack) (asked stack) (headed g (gathered done (followed a after))) h.0 (
        omega (arith, h.1),
        gathered_are limit deep holes (suc (length stack)) (kinds g) done (k ∷ after) (followed a after) h.2
            (followed_are limit deep holes (suc (length stack)) k after a (omega (arith, h.1)) i),
      ))
      ∙ ap (front stack) (sym (ap (λ ts. token.word (head_word g) ∷ token.mark marks.Open ∷ done_front done ts) (followed_front a after (owed stack))
      ∙ closed_front g done (followed a after) (owed stack)))

  -- tokens that can be written lead from a state to an argument of the kind that is wanted
  record Filled (st : State) (stack : List Frame) : Type 0 where
    argument : Argument
    further : List Token
    is : IsArgument limit deep holes (length stack) (asked stack) argument
    same : (rest : List Token) → before st (further ++ rest) ≡ front stack (argument_tokens argument ++ rest)
    are : AreTokens further

  abbrev stack_of : State → List Frame
  stack_of (expecting stack) = stack
  stack_of (marked hole stack) = stack
  stack_of (opening h stack) = stack
  stack_of (within st stack) = stack
  stack_of (complete stack a) = stack

  stack_sits : (st : State) → Lasts limit most deep holes st → Sits limit most deep holes (stack_of st)
  stack_sits (expecting stack) h = h
  stack_sits (marked hole stack) h = h.0
  stack_sits (opening g stack) h = h.0
  stack_sits (within st stack) h = h.0
  stack_sits (complete stack a) h = h.0

  marked_filled : (hole : Bool) (stack : List Frame) → Lasts limit most deep holes (marked hole stack) → Filled (marked hole stack) stack
  marked_filled false stack h = record {
    argument = of_proof (numbered 0);
    further = token.number 0 ∷ [];
    is = proof_argument limit deep holes (length stack) (asked stack) (numbered 0) h.1 (omega (arith, h.2), omega arith);
    same = (λ rest. refl);
    are = (omega arith, tt);
  }
  marked_filled true stack h = record {
    argument = of_proof (open_hole 0);
    further = token.number 0 ∷ [];
    is = proof_argument limit deep holes (length stack) (asked stack) (open_hole 0) h.1 (omega (arith, h.2), h.3 refl, omega arith);
    same = (λ rest. refl);
    are = (omega arith, tt);
  }

  opening_filled : (g : Head) (k : Kind) (after : List Kind) (stack : List Frame) → kinds g ≡ k ∷ after → Lasts limit most deep holes (opening g stack) → Filled (opening g stack) stack
  opening_filled g k after stack same h =
      let low : suc (length stack) < deep = omega (arith, h.2) in
      record {
        argument = of_proof (headed g (followed (least k) after));
        further = token.mark marks.Open ∷ (argument_tokens (least k) ++ owed_here after []);
        is = proof_argument limit deep holes (length stack) (asked stack) (headed g (followed (least k) after)) h.1 (
          omega (arith, h.2),
          subst (λ ks. AreArguments limit deep holes (suc (length stack)) ks (followed (least k) after)) (sym same)
              (followed_are limit deep holes (suc (length stack)) k after (least k) low (least_is limit deep holes (suc (length stack)) k low)),
        );
        same = (λ rest. ap (λ ts. front stack (token.word (head_word g) ∷ token.mark marks.Open ∷ (ts ++ rest))) (followed_front (least k) after []));
        are = (tt, joined_are (argument_tokens (least k)) (owed_here after []) (least_are k) (owed_here_are after [] tt));
      }

  within_filled : (st : expression.State) (stack : List Frame) → Lasts limit most deep holes (within st stack) → Filled (within st stack) stack
  within_filled st stack h =
      let c = inner_completing.completed limit (asks_term (asked stack)) st h.2 in
      record {
        argument = of_expression c.0;
        further = c.1;
        is = expression_argument limit deep holes (length stack) (asked stack) c.0 h.1 c.2;
        same = (λ rest. ap (front stack) (inner_before st c.1 rest ∙ ap (λ ts. ts ++ rest) c.3));
        are = c.4;
      }

  filled : (st : State) → Lasts limit most deep holes st → Filled st (stack_of st)
  filled (expecting stack) h =
      let low : length stack < deep = omega (arith, sits_low limit most deep holes stack h) in
      record {
        argument = least (asked stack);
        further = argument_tokens (least (asked stack));
        is = least_is limit deep holes (length stack) (asked stack) low;
        same = (λ rest. refl);
        are = least_are (asked stack);
      }
  filled (marked hole stack) h = marked_filled hole stack h
  filled (opening g stack) h = let k = has_argument g in opening_filled g k.0 k.1 stack k.2 h
  filled (within st stack) h = within_filled st stack h
  filled (complete stack a) h = record { argument = a; further = []; is = h.1; same = (λ rest. refl); are = tt }

  -- tokens that can be written lead from a state to a proof
  abbrev pub Completes : State → Type 0
  Completes st = (p : ProofText) × (further : List Token) × IsProofText limit (suc most) holes 0 p × (before st further ≡ proof_tokens p) × AreTokens further

  pub completed : (st : State) → Lasts limit most (suc most) holes st → Completes st
  completed st h =
      let f = filled st h in
      let s = stack_sits st h in (
        plugged (stack_of st) f.argument,
        f.further ++ owed (stack_of st),
        plugged_is (stack_of st) f.argument s f.is,
        f.same (owed (stack_of st)) ∙ sym (plugged_tokens (stack_of st) f.argument s f.is),
        joined_are f.further (owed (stack_of st)) f.are (owed_are (stack_of st)),
      )
