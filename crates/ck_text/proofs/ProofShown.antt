-- Each step of the reader of proofs over what it keeps is the step of the reader over texts.
use Rattle.std.proofs.Common.{◌≡◌, ℕ, zero, suc, ◌+◌, ◌^◌, Bool, true, false, List, [], ◌∷◌, ◌++◌, length, refl, sym, subst, ap, ap₂, ◌∙◌, arith, append_assoc, Option, Some, None, nat_lt, if◌then◌else◌}
use Rattle.std.specs.Prelude.{slice_get}
use Rattle.std.specs.Option.{option_map}
use Rattle.std.proofs.lemmas.List.{length-append}
use Rattle.ck_text.specs.declared.head.Head.{Head}
use Rattle.ck_text.specs.declared.token.Mark.TheVariants as marks
use Rattle.ck_text.specs.Tokens.{Token, Placed}
use Rattle.ck_text.specs.Tokens as token
use Rattle.ck_text.specs.Texts.{Text, Bindings}
use Rattle.ck_text.specs.Machine as inner_texts
use Rattle.ck_text.specs.Items as expression
use Rattle.ck_text.specs.ProofTexts.{Kind, a_sort, a_number, a_term, a_formula, a_proof, kinds, Arguments, last, more, Argument, of_sort, of_number, of_expression, of_proof, argument_tokens, ProofScope, grown, Part, proof_term, built}
use Rattle.ck_text.specs.ProofMachine.{asks_term, head_of, gathered}
use Rattle.ck_text.specs.ProofMachine as texts
use Rattle.ck_text.specs.ProofItems.{Frame, State, expecting, marked, opening, within, complete, next_kind, asked, scope_in, proof_scope, bindings_in, bindings, wants_term, kept_proof, marked_tree, guarded, begins_proof, begins_sort, begins_number, begins, entered, next_argument, closes, separated, ends, inside, step_inside, opens, numbers_mark, step, finished}
use Rattle.ck_text.proofs.Shown as inner
use Rattle.ck_text.proofs.Following as inner_following
use Rattle.ck_text.proofs.ProofTables.{has_argument}
use Rattle.ck_text.proofs.ProofStacks.{AreDone, Sits, Lasts}
use Rattle.ck_text.proofs.ProofKept.{tree_kept, parts_kept, part_kept}

-- # How many tokens were read

-- so many, with the arguments that are read and the `,` after each
abbrev pub counted_done : ℕ → List Argument → ℕ
counted_done first [] = first
counted_done first (a ∷ done) = suc (counted_done first done + length (argument_tokens a))

abbrev pub counted : List texts.Frame → ℕ
counted [] = 0
counted (texts.calling h done k after ∷ stack) = counted_done (2 + counted stack) done

abbrev pub counted_state : texts.State → ℕ
counted_state (texts.expecting stack) = counted stack
counted_state (texts.marked hole stack) = suc (counted stack)
counted_state (texts.opening h stack) = suc (counted stack)
counted_state (texts.within st stack) = counted stack + inner_following.counted_state st
counted_state (texts.complete stack a) = counted stack + length (argument_tokens a)

-- # Kinds

-- the kind of the argument with that number
abbrev pub kind_at : List Kind → ℕ → Kind
kind_at [] n = a_sort
kind_at (k ∷ ks) zero = k
kind_at (k ∷ ks) (suc n) = kind_at ks n

kind_there : (ks : List Kind) (n : ℕ) (k : Kind) → slice_get ks n ≡ Some k → kind_at ks n ≡ k
kind_there [] n k e = absurd (cc)
kind_there (l ∷ ks) zero k e = cc
kind_there (l ∷ ks) (suc n) k e = kind_there ks n k e

-- the kinds that are still wanted stand behind those of the arguments that are read
done_then : (limit deep : ℕ) (holes : Bool) (around : ℕ) (ks : List Kind) (done : List Argument) (wanted : List Kind) (n i : ℕ) → AreDone limit deep holes around ks done wanted → n ≡ length done + i
    → slice_get ks n ≡ slice_get wanted i
done_then limit deep holes around ks [] wanted n i d e = let same : n ≡ i = omega (arith, e) in ap₂ slice_get d same
done_then limit deep holes around ks (a ∷ done) wanted n i d e = done_then limit deep holes around ks done (d.0 ∷ wanted) n (suc i) d.2 (omega (arith, e))

pub kind_done : (limit deep : ℕ) (holes : Bool) (around : ℕ) (ks : List Kind) (done : List Argument) (k : Kind) (after : List Kind) → AreDone limit deep holes around ks done (k ∷ after) → kind_at ks (length done) ≡ k
kind_done limit deep holes around ks done k after d = kind_there ks (length done) k (done_then limit deep holes around ks done (k ∷ after) (length done) 0 d (omega arith))

-- # Small steps

pub map_map : {A B C : Type 0} (f : B → C) (g : A → B) (h : A → C) (o : Option A) → ((a : A) → f (g a) ≡ h a) → option_map f (option_map g o) ≡ option_map h o
map_map f g h (Some a) e = ap Some (e a)
map_map f g h None e = refl

-- no further variables and hypotheses
pub grown_none : (scope : ProofScope) → grown 0 0 scope ≡ scope
grown_none scope = by (0 + scope.variables) (0 + scope.hypotheses) (omega arith) (omega arith) where
  by : (v h : ℕ) → v ≡ scope.variables → h ≡ scope.hypotheses → record { names = scope.names; variables = v; hypotheses = h } ≡ scope
  by v h e k = ap₂ (λ (v h : ℕ). record { names = scope.names; variables = v; hypotheses = h }) e k

module _ (most : ℕ) (outer : ProofScope) where
  -- the scope that the rule on top of the stack stands in; `scope_in` gives that of what is wanted
  abbrev pub scope_under : List texts.Frame → ProofScope
  scope_under [] = outer
  scope_under (texts.calling h done k after ∷ stack) = scope_in (Some (texts.asked stack)) (scope_under stack)

  -- what is kept of the arguments that are read, the oldest first
  abbrev pub done_kept : ProofScope → List Kind → List Argument → List Part
  done_kept scope ks [] = []
  done_kept scope ks (a ∷ done) = done_kept scope ks done ++ (part_kept most scope (kind_at ks (length done)) a ∷ [])

  -- the stack over what is kept
  abbrev pub shown : List texts.Frame → List Frame
  shown [] = []
  shown (texts.calling h done k after ∷ stack) =
      record {
        head = h;
        done = done_kept (scope_under (texts.calling h done k after ∷ stack)) (kinds h) done;
        scope = scope_under (texts.calling h done k after ∷ stack);
      } ∷ shown stack

  -- what is kept of the argument that was wanted
  abbrev pub kept_at : List texts.Frame → Argument → Part
  kept_at stack a = part_kept most (scope_under stack) (texts.asked stack) a

  -- what names stand for in the term or formula that is wanted
  abbrev pub bindings_at : List texts.Frame → Bindings
  bindings_at stack = bindings_in (Some (texts.asked stack)) (scope_under stack)

  -- the state over what is kept, by the place of each token
  abbrev pub shown_state : (ℕ → ℕ) → texts.State → State
  shown_state place (texts.expecting stack) = expecting (shown stack)
  shown_state place (texts.marked hole stack) = marked hole (place (counted stack)) (shown stack)
  shown_state place (texts.opening h stack) = opening h (shown stack)
  shown_state place (texts.within st stack) = within (inner.shown_state most (asks_term (texts.asked stack)) (bindings_at stack) st) (place (counted stack)) (shown stack)
  shown_state place (texts.complete stack a) = complete (shown stack) (kept_at stack a)

  kept_length : (scope : ProofScope) (ks : List Kind) (done : List Argument) → length (done_kept scope ks done) ≡ length done
  kept_length scope ks [] = refl
  kept_length scope ks (a ∷ done) =
      omega (arith, length-append (done_kept scope ks done) (part_kept most scope (kind_at ks (length done)) a ∷ []), kept_length scope ks done)

  length_shown : (stack : List texts.Frame) → length (shown stack) ≡ length stack
  length_shown [] = refl
  length_shown (texts.calling h done k after ∷ stack) = ap suc (length_shown stack)

  gathered_kept : (limit deep : ℕ) (holes : Bool) (around : ℕ) (scope : ProofScope) (ks : List Kind) (done : List Argument) (wanted : List Kind) (others : Arguments)
      → AreDone limit deep holes around ks done wanted → parts_kept most scope ks (gathered done others) ≡ done_kept scope ks done ++ parts_kept most scope wanted others
  gathered_kept limit deep holes around scope ks [] wanted others d = ap (λ x. parts_kept most scope x others) d
  gathered_kept limit deep holes around scope ks (a ∷ done) wanted others d =
      gathered_kept limit deep holes around scope ks done (d.0 ∷ wanted) (more a others) d.2
      ∙ ap (λ k. done_kept scope ks done ++ (part_kept most scope k a ∷ parts_kept most scope wanted others)) (sym (kind_done limit deep holes around ks done d.0 wanted d.2))
      ∙ sym (append_assoc (done_kept scope ks done) (part_kept most scope (kind_at ks (length done)) a ∷ []) (parts_kept most scope wanted others))

  module _ (limit proofs deep : ℕ) (holes : Bool) where
    abbrev Stands : List texts.Frame → Type 0
    Stands stack = Sits limit proofs deep holes stack

    pub asked_shown : (stack : List texts.Frame) → Stands stack → asked (shown stack) ≡ Some (texts.asked stack)
    asked_shown [] h = refl
    asked_shown (texts.calling g done k after ∷ stack) h =
        ap (slice_get (kinds g)) (kept_length (scope_under (texts.calling g done k after ∷ stack)) (kinds g) done)
        ∙ done_then limit deep holes (suc (length stack)) (kinds g) done (k ∷ after) (length done) 0 h.2 (omega arith)

    pub proof_scope_shown : (stack : List texts.Frame) → Stands stack → proof_scope outer (shown stack) ≡ scope_in (Some (texts.asked stack)) (scope_under stack)
    proof_scope_shown [] h = sym (grown_none outer)
    proof_scope_shown (texts.calling g done k after ∷ stack) h =
        ap (λ o. scope_in o (scope_under (texts.calling g done k after ∷ stack))) (asked_shown (texts.calling g done k after ∷ stack) h)

    pub bindings_shown : (stack : List texts.Frame) → Stands stack → bindings outer (shown stack) ≡ bindings_at stack
    bindings_shown [] h = refl
    bindings_shown (texts.calling g done k after ∷ stack) h =
        ap (λ o. bindings_in o (scope_under (texts.calling g done k after ∷ stack))) (asked_shown (texts.calling g done k after ∷ stack) h)

    module _ (place : ℕ → ℕ) where
      abbrev to_shown : texts.State → State
      to_shown st = shown_state place st

      guarded_shown : (test : Bool) (st : texts.State) → guarded test (to_shown st) ≡ option_map to_shown (texts.guarded test st)
      guarded_shown true st = refl
      guarded_shown false st = refl

      -- # What is wanted

      proof_begins : (stack : List texts.Frame) (left : ℕ) (t : Token) → place (counted stack) ≡ left → begins_proof holes (shown stack) left t ≡ option_map to_shown (texts.begins_proof holes stack t)
      proof_begins stack left (token.mark marks.Hash) e = ap (λ l. Some (marked false l (shown stack))) (sym e)
      proof_begins stack left (token.mark marks.Question) e =
          ap (λ l. guarded holes (marked true l (shown stack))) (sym e) ∙ guarded_shown holes (texts.marked true stack)
      proof_begins stack left (token.word bytes) e =
          sym (map_map to_shown (λ h. texts.opening h stack) (λ h. opening h (shown stack)) (head_of bytes) (λ h. refl))
      proof_begins stack left t e = refl

      expression_begins : (stack : List texts.Frame) (left : ℕ) (t : Token) → Stands stack → place (counted stack) ≡ left
          → option_map (λ st. within st left (shown stack)) (expression.step limit most (asks_term (texts.asked stack)) (bindings outer (shown stack)) (expression.wanting []) t)
          ≡ option_map to_shown (option_map (λ st. texts.within st stack) (inner_texts.step limit (asks_term (texts.asked stack)) (inner_texts.wanting []) t))
      expression_begins stack left t h e =
          ap₂ (λ l scope. option_map (λ st. within st l (shown stack)) (expression.step limit most (asks_term (texts.asked stack)) scope (expression.wanting []) t)) (sym e) (bindings_shown stack h)
          ∙ ap (option_map (λ st. within st (place (counted stack)) (shown stack))) (inner.step_shown most (asks_term (texts.asked stack)) (bindings_at stack) limit (inner_texts.wanting []) t)
          ∙ both (inner_texts.step limit (asks_term (texts.asked stack)) (inner_texts.wanting []) t) where
            both : (o : Option inner_texts.State)
                → option_map (λ st. within st (place (counted stack)) (shown stack)) (option_map (inner.shown_state most (asks_term (texts.asked stack)) (bindings_at stack)) o)
                ≡ option_map to_shown (option_map (λ st. texts.within st stack) o)
            both (Some st) = refl
            both None = refl

      sort_begins : (stack : List texts.Frame) (t : Token) → begins_sort (shown stack) t ≡ option_map to_shown (texts.begins limit proofs holes a_sort stack t)
      sort_begins stack (token.sort s) = refl
      sort_begins stack t = refl

      number_begins : (stack : List texts.Frame) (t : Token) → begins_number (shown stack) t ≡ option_map to_shown (texts.begins limit proofs holes a_number stack t)
      number_begins stack (token.number n) = guarded_shown (nat_lt n (2 ^ 32)) (texts.complete stack (of_number n))
      number_begins stack t = refl

      begins_shown : (k : Kind) (stack : List texts.Frame) (left : ℕ) (t : Token) → texts.asked stack ≡ k → Stands stack → place (counted stack) ≡ left
          → begins limit proofs most holes outer (Some k) (shown stack) (record { left = left; token = t }) ≡ option_map to_shown (texts.begins limit proofs holes k stack t)
      begins_shown a_sort stack left t same h e = sort_begins stack t
      begins_shown a_number stack left t same h e = number_begins stack t
      begins_shown a_term stack left t same h e =
          subst (λ b. option_map (λ st. within st left (shown stack)) (expression.step limit most b (bindings outer (shown stack)) (expression.wanting []) t)
          ≡ option_map to_shown (option_map (λ st. texts.within st stack) (inner_texts.step limit b (inner_texts.wanting []) t))) (ap asks_term same) (expression_begins stack left t h e)
      begins_shown (a_formula v) stack left t same h e =
          subst (λ b. option_map (λ st. within st left (shown stack)) (expression.step limit most b (bindings outer (shown stack)) (expression.wanting []) t)
          ≡ option_map to_shown (option_map (λ st. texts.within st stack) (inner_texts.step limit b (inner_texts.wanting []) t))) (ap asks_term same) (expression_begins stack left t h e)
      begins_shown (a_proof v g) stack left t same h e =
          ap (λ n. if nat_lt n proofs then begins_proof holes (shown stack) left t else None) (length_shown stack)
          ∙ inner.if_shown (option_map to_shown) (nat_lt (length stack) proofs) (begins_proof holes (shown stack) left t) None (texts.begins_proof holes stack t) None (proof_begins stack left t e) refl

      -- # After an argument

      comma_shown : (g : Head) (done : List Argument) (k : Kind) (after : List Kind) (stack : List texts.Frame) (a : Argument) (old parts : List Part)
          → parts ≡ done_kept (scope_under (texts.calling g done k after ∷ stack)) (kinds g) (a ∷ done)
          → next_argument (record { head = g; done = old; scope = scope_under (texts.calling g done k after ∷ stack) }) parts (shown stack) (slice_get after 0)
          ≡ option_map to_shown (texts.separated (texts.calling g done k after ∷ stack) a (token.mark marks.Comma))
      comma_shown g done k [] stack a old parts e = refl
      comma_shown g done k (l ∷ after) stack a old parts e =
          ap (λ x. Some (expecting (record { head = g; done = x; scope = scope_under (texts.calling g done k (l ∷ after) ∷ stack) } ∷ shown stack))) e

      close_shown : (g : Head) (done : List Argument) (k : Kind) (after : List Kind) (stack : List texts.Frame) (a : Argument) (old parts : List Part) → Stands (texts.calling g done k after ∷ stack)
          → parts ≡ done_kept (scope_under (texts.calling g done k after ∷ stack)) (kinds g) done ++ (kept_at (texts.calling g done k after ∷ stack) a ∷ [])
          → closes (record { head = g; done = old; scope = scope_under (texts.calling g done k after ∷ stack) }) parts (shown stack) (slice_get after 0)
          ≡ option_map to_shown (texts.separated (texts.calling g done k after ∷ stack) a (token.mark marks.Close))
      close_shown g done k [] stack a old parts h e =
          ap (λ x. Some (complete (shown stack) (proof_term (kept_proof (built g x)))))
          (e ∙ sym (gathered_kept limit deep holes (suc (length stack)) (scope_under (texts.calling g done k [] ∷ stack)) (kinds g) done (k ∷ []) (last a) h.2))
      close_shown g done k (l ∷ after) stack a old parts h e = refl

      -- the kinds after one more argument
      kinds_after : (g : Head) (done : List Argument) (k : Kind) (after : List Kind) (stack : List texts.Frame) (part : Part) → Stands (texts.calling g done k after ∷ stack)
          → next_kind g (done_kept (scope_under (texts.calling g done k after ∷ stack)) (kinds g) done ++ (part ∷ [])) ≡ slice_get after 0
      kinds_after g done k after stack part h =
          let parts : List Part = done_kept (scope_under (texts.calling g done k after ∷ stack)) (kinds g) done in
          done_then limit deep holes (suc (length stack)) (kinds g) done (k ∷ after) (length (parts ++ (part ∷ []))) 1 h.2
          (omega (arith, length-append parts (part ∷ []), kept_length (scope_under (texts.calling g done k after ∷ stack)) (kinds g) done))

      other_shown : (g : Head) (done : List Argument) (k : Kind) (after : List Kind) (stack : List texts.Frame) (a : Argument) (t : Token) → Stands (texts.calling g done k after ∷ stack)
          → separated (shown (texts.calling g done k after ∷ stack)) (kept_at (texts.calling g done k after ∷ stack) a) t ≡ option_map to_shown (texts.separated (texts.calling g done k after ∷ stack) a t)
      other_shown g done k after stack a (token.mark marks.Comma) h =
          let scope : ProofScope = scope_under (texts.calling g done k after ∷ stack) in
          let old : List Part = done_kept scope (kinds g) done in
          let parts : List Part = old ++ (part_kept most scope k a ∷ []) in
          ap (next_argument (record { head = g; done = old; scope = scope }) parts (shown stack)) (kinds_after g done k after stack (part_kept most scope k a) h)
          ∙ comma_shown g done k after stack a old parts
          (ap (λ l. old ++ (part_kept most scope l a ∷ [])) (sym (kind_done limit deep holes (suc (length stack)) (kinds g) done k after h.2)))
      other_shown g done k after stack a (token.mark marks.Close) h =
          let scope : ProofScope = scope_under (texts.calling g done k after ∷ stack) in
          let old : List Part = done_kept scope (kinds g) done in
          let parts : List Part = old ++ (part_kept most scope k a ∷ []) in
          ap (closes (record { head = g; done = old; scope = scope }) parts (shown stack)) (kinds_after g done k after stack (part_kept most scope k a) h)
          ∙ close_shown g done k after stack a old parts h refl
      other_shown g done k [] stack a t h = refl
      other_shown g done k (l ∷ after) stack a t h = refl

      separated_shown : (stack : List texts.Frame) (a : Argument) (t : Token) → Stands stack → separated (shown stack) (kept_at stack a) t ≡ option_map to_shown (texts.separated stack a t)
      separated_shown [] a t h = refl
      separated_shown (texts.calling g done k after ∷ stack) a t h = other_shown g done k after stack a t h

      -- # Inside a term or formula

      ends_shown : (o : Option Text) (stack : List texts.Frame) (t : Token) → Stands stack
          → ends (asks_term (texts.asked stack)) (option_map (inner.item_of most (bindings_at stack)) o) (shown stack) t ≡ option_map to_shown (texts.ends o stack t)
      ends_shown (Some a) stack t h = separated_shown stack (of_expression a) t h
      ends_shown None stack t h = refl

      inside_shown : (o : Option inner_texts.State) (st : inner_texts.State) (stack : List texts.Frame) (t : Token) → Stands stack
          → inside most (asks_term (texts.asked stack)) (option_map (inner.shown_state most (asks_term (texts.asked stack)) (bindings_at stack)) o)
          (inner.shown_state most (asks_term (texts.asked stack)) (bindings_at stack) st) (place (counted stack)) (shown stack) t
          ≡ option_map to_shown (texts.inside o st stack t)
      inside_shown (Some next) st stack t h = refl
      inside_shown None st stack t h =
          ap (λ o. ends (asks_term (texts.asked stack)) o (shown stack) t) (inner.finished_shown most (asks_term (texts.asked stack)) (bindings_at stack) st)
          ∙ ends_shown (inner_texts.finished st) stack t h

      within_shown : (st : inner_texts.State) (stack : List texts.Frame) (t : Token) → Stands stack
          → step_inside limit most (wants_term (asked (shown stack))) (bindings outer (shown stack)) (inner.shown_state most (asks_term (texts.asked stack)) (bindings_at stack) st) (place (counted stack)) (shown stack) t
          ≡ option_map to_shown (texts.inside (inner_texts.step limit (asks_term (texts.asked stack)) st t) st stack t)
      within_shown st stack t h =
          ap₂ (λ o scope. step_inside limit most (wants_term o) scope (inner.shown_state most (asks_term (texts.asked stack)) (bindings_at stack) st) (place (counted stack)) (shown stack) t)
          (asked_shown stack h) (bindings_shown stack h)
          ∙ ap (λ o. inside most (asks_term (texts.asked stack)) o (inner.shown_state most (asks_term (texts.asked stack)) (bindings_at stack) st) (place (counted stack)) (shown stack) t)
          (inner.step_shown most (asks_term (texts.asked stack)) (bindings_at stack) limit st t)
          ∙ inside_shown (inner_texts.step limit (asks_term (texts.asked stack)) st t) st stack t h

      -- # The first tokens of a proof

      marked_kept : (hole : Bool) (scope : ProofScope) (k : ℕ) → marked_tree hole scope k ≡ tree_kept most scope (texts.marked_proof hole k)
      marked_kept true scope k = refl
      marked_kept false scope k = refl

      marked_shown : (hole : Bool) (stack : List texts.Frame) (t : Token) → Stands stack
          → numbers_mark outer hole (shown stack) t ≡ option_map to_shown (texts.step limit proofs holes (texts.marked hole stack) t)
      marked_shown hole stack (token.number k) h =
          ap (λ tree. guarded (nat_lt k (2 ^ 32)) (complete (shown stack) (proof_term tree)))
          (ap (λ scope. marked_tree hole scope k) (proof_scope_shown stack h) ∙ marked_kept hole (scope_in (Some (texts.asked stack)) (scope_under stack)) k)
          ∙ guarded_shown (nat_lt k (2 ^ 32)) (texts.complete stack (of_proof (texts.marked_proof hole k)))
      marked_shown hole stack t h = refl

      enters_shown : (g : Head) (ks : List Kind) (k : Kind) (after : List Kind) (stack : List texts.Frame) → ks ≡ k ∷ after → Stands stack
          → Some (entered outer g (shown stack)) ≡ option_map to_shown (texts.enters g ks stack)
      enters_shown g ks k after stack e h =
          subst (λ ks. Some (entered outer g (shown stack)) ≡ option_map to_shown (texts.enters g ks stack)) (sym e)
          (ap (λ scope. Some (expecting (record { head = g; done = []; scope = scope } ∷ shown stack))) (proof_scope_shown stack h))

      opening_shown : (g : Head) (stack : List texts.Frame) (t : Token) → Stands stack → opens outer g (shown stack) t ≡ option_map to_shown (texts.step limit proofs holes (texts.opening g stack) t)
      opening_shown g stack (token.mark marks.Open) h = let k = has_argument g in enters_shown g (kinds g) k.0 k.1 stack k.2 h
      opening_shown g stack t h = refl

      -- # Together

      pub step_shown : (st : texts.State) (left : ℕ) (t : Token) → Lasts limit proofs deep holes st → place (counted_state st) ≡ left
          → step limit proofs most holes outer (to_shown st) (record { left = left; token = t }) ≡ option_map to_shown (texts.step limit proofs holes st t)
      step_shown (texts.expecting stack) left t h e =
          ap (λ o. begins limit proofs most holes outer o (shown stack) (record { left = left; token = t })) (asked_shown stack h) ∙ begins_shown (texts.asked stack) stack left t refl h e
      step_shown (texts.marked hole stack) left t h e = marked_shown hole stack t h.0
      step_shown (texts.opening g stack) left t h e = opening_shown g stack t h.0
      step_shown (texts.within st stack) left t h e = within_shown st stack t h.0
      step_shown (texts.complete stack a) left t h e = separated_shown stack a t h.0

  pub finished_shown : (place : ℕ → ℕ) (st : texts.State) → finished (shown_state place st) ≡ option_map (tree_kept most outer) (texts.finished st)
  finished_shown place (texts.complete [] (of_proof p)) = ap (λ scope. Some (tree_kept most scope p)) (grown_none outer)
  finished_shown place (texts.complete [] (of_sort s)) = refl
  finished_shown place (texts.complete [] (of_number n)) = refl
  finished_shown place (texts.complete [] (of_expression a)) = refl
  finished_shown place (texts.complete (texts.calling h done k after ∷ stack) a) = refl
  finished_shown place st = refl
