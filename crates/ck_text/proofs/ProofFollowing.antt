-- The reader of proofs over what it keeps follows the reader over texts, with the first term or formula that is too deep and the first name or `#k` that means nothing.
use Rattle.std.proofs.Common.{◌≡◌, ℕ, suc, ◌+◌, ◌≤◌, ◌<◌, ◌^◌, min, Bool, true, false, List, [], ◌∷◌, ◌++◌, length, drop, refl, sym, ap, ap₂, ◌∙◌, ⊎_elim, arith, Option, Some, None, Ok, Err, nat_le, nat_lt, if◌then◌else◌}
use Rattle.std.specs.Option.{option_map, is_some}
use Rattle.std.proofs.lemmas.Bool.{le-leb, lt-leb, lt-ltb, le-ltb, cases_lt}
use Rattle.std.proofs.lemmas.List.{length-append}
use Rattle.ck_base.specs.declared.decl.Sort.{Sort}
use Rattle.ck_text.specs.declared.head.Head.{Head}
use Rattle.ck_text.specs.declared.token.Mark.TheVariants as marks
use Rattle.ck_text.specs.Tokens.{Token, Placed, bare}
use Rattle.ck_text.specs.Tokens as token
use Rattle.ck_text.specs.Texts.{Text, truth, falsity, name, number, led, joined, closed, tokens, lead_tokens, Bindings, first_of, meaning_of}
use Rattle.ck_text.specs.Machine as inner_texts
use Rattle.ck_text.specs.Reading.{text_levels, scope_after, unknown_at, left_of}
use Rattle.ck_text.specs.Items as expression
use Rattle.ck_text.specs.ProofTexts.{Kind, a_sort, a_number, a_term, a_formula, a_proof, kinds, head_word, ProofText, headed, Arguments, last, more, Argument, of_sort, of_number, of_expression, of_proof, argument_tokens, ProofScope, too_deep, deep_at, deep_among, deep_in, unknown_in_proof, unknown_among, unknown_in}
use Rattle.ck_text.specs.ProofMachine.{asks_term, gathered}
use Rattle.ck_text.specs.ProofMachine as texts
use Rattle.ck_text.specs.ProofItems.{scope_in, bindings_in, asked, wants_term, bindings, ended_deep, too_deep_at, deep_here, no_hypothesis, unknown_first, unknown_here, Whole, or_fault, after, run}
use Rattle.ck_text.proofs.Stacks as inner_stacks
use Rattle.ck_text.proofs.Shown as inner
use Rattle.ck_text.proofs.Following as following
use Rattle.ck_text.proofs.Following.{first_none, first_assoc, map_first, drop_next}
use Rattle.ck_text.proofs.Outcomes.{asked_kept}
use Rattle.ck_text.proofs.ProofTables.{IsProofKind, IsExpressionKind}
use Rattle.ck_text.proofs.ProofStacks.{AreDone, Sits, Lasts, done_front, front, before}
use Rattle.ck_text.proofs.ProofKeeping.{some_map, guard_passed, ended_is, step_keeps}
use Rattle.ck_text.proofs.ProofKept.{tree_kept}
use Rattle.ck_text.proofs.ProofShown.{counted_done, counted, counted_state, kind_at, kind_done, map_map, grown_none, scope_under, shown, bindings_at, shown_state, asked_shown, proof_scope_shown, bindings_shown, step_shown, finished_shown}

-- # How many tokens were read

done_length : (done : List Argument) (first : ℕ) (rest : List Token) → first + length (done_front done rest) ≡ counted_done first done + length rest
done_length [] first rest = refl
done_length (a ∷ done) first rest =
    omega (arith, done_length done first (argument_tokens a ++ (token.mark marks.Comma ∷ rest)), length-append (argument_tokens a) (token.mark marks.Comma ∷ rest))

front_length : (stack : List texts.Frame) (rest : List Token) → length (front stack rest) ≡ counted stack + length rest
front_length [] rest = omega arith
front_length (texts.calling h done k after ∷ stack) rest =
    omega (arith, front_length stack (token.word (head_word h) ∷ token.mark marks.Open ∷ done_front done rest), done_length done (2 + counted stack) rest)

before_length : (st : texts.State) (rest : List Token) → length (before st rest) ≡ counted_state st + length rest
before_length (texts.expecting stack) rest = front_length stack rest
before_length (texts.marked false stack) rest = omega (arith, front_length stack (token.mark marks.Hash ∷ rest))
before_length (texts.marked true stack) rest = omega (arith, front_length stack (token.mark marks.Question ∷ rest))
before_length (texts.opening h stack) rest = omega (arith, front_length stack (token.word (head_word h) ∷ rest))
before_length (texts.within st stack) rest = omega (arith, front_length stack (inner_stacks.before st rest), following.before_length st rest)
before_length (texts.complete stack a) rest = omega (arith, front_length stack (argument_tokens a ++ rest), length-append (argument_tokens a) rest)

one_more : (st next : texts.State) (t : Token) → before st (t ∷ []) ≡ before next [] → counted_state next ≡ suc (counted_state st)
one_more st next t e = omega (arith, before_length st (t ∷ []), before_length next [], ap length e)

-- # The first place of a kind among what is read
--
-- `at` says where it is in an argument that begins at that token, and `among` in arguments one after the other.

-- among the arguments that are read
abbrev found_done : (ℕ → Kind → Argument → Option ℕ) → ℕ → List Kind → List Argument → Option ℕ
found_done at first ks [] = None
found_done at first ks (a ∷ done) = first_of (found_done at first ks done) (at (counted_done first done) (kind_at ks (length done)) a)

gathered_found : (at : ℕ → Kind → Argument → Option ℕ) (among : ℕ → List Kind → Arguments → Option ℕ)
    → ((first : ℕ) (k : Kind) (ks : List Kind) (a : Argument) (others : Arguments) → among first (k ∷ ks) (more a others) ≡ first_of (at first k a) (among (suc (first + length (argument_tokens a))) ks others))
    → (limit deep : ℕ) (holes : Bool) (around first : ℕ) (ks : List Kind) (done : List Argument) (wanted : List Kind) (others : Arguments) → AreDone limit deep holes around ks done wanted
    → among first ks (gathered done others) ≡ first_of (found_done at first ks done) (among (counted_done first done) wanted others)
gathered_found at among splits limit deep holes around first ks [] wanted others d = ap (λ ks. among first ks others) d
gathered_found at among splits limit deep holes around first ks (a ∷ done) wanted others d =
    gathered_found at among splits limit deep holes around first ks done (d.0 ∷ wanted) (more a others) d.2
    ∙ ap (first_of (found_done at first ks done)) (splits (counted_done first done) d.0 wanted a others)
    ∙ ap (λ k. first_of (found_done at first ks done) (first_of (at (counted_done first done) k a) (among (suc (counted_done first done + length (argument_tokens a))) wanted others)))
    (sym (kind_done limit deep holes around ks done d.0 wanted d.2))
    ∙ sym (first_assoc (found_done at first ks done) (at (counted_done first done) (kind_at ks (length done)) a) (among (suc (counted_done first done + length (argument_tokens a))) wanted others))

-- what stands only where a term or formula is wanted
abbrev expression_now : Kind → Option ℕ → Option ℕ
expression_now a_term now = now
expression_now (a_formula v) now = now
expression_now k now = None

nothing_now : (k : Kind) → expression_now k None ≡ None
nothing_now a_term = refl
nothing_now (a_formula v) = refl
nothing_now a_sort = refl
nothing_now a_number = refl
nothing_now (a_proof v g) = refl

-- # Names in a term or formula that begins later

unknown_test : (b : Bool) (n first : ℕ) → (if b then None else Some (n + first)) ≡ option_map (λ k. n + k) (if b then None else Some first)
unknown_test true n first = refl
unknown_test false n first = refl

unknown_later : (n first : ℕ) (scope : Bindings) (a : Text) → unknown_at (n + first) scope a ≡ option_map (λ k. n + k) (unknown_at first scope a)
unknown_later n first scope (truth b) = refl
unknown_later n first scope falsity = refl
unknown_later n first scope (name bytes) = unknown_test (is_some (meaning_of scope bytes)) n first
unknown_later n first scope (number k) = refl
unknown_later n first scope (led l a) =
    let same : n + first + length (lead_tokens l) ≡ n + (first + length (lead_tokens l)) = omega arith in
    ap (λ m. unknown_at m (scope_after l scope) a) same ∙ unknown_later n (first + length (lead_tokens l)) (scope_after l scope) a
unknown_later n first scope (joined o a b) =
    let same : suc (n + first + length (tokens a)) ≡ n + suc (first + length (tokens a)) = omega arith in
    ap₂ first_of (unknown_later n first scope a) (ap (λ m. unknown_at m scope b) same ∙ unknown_later n (suc (first + length (tokens a))) scope b)
    ∙ sym (map_first (λ k. n + k) (unknown_at first scope a) (unknown_at (suc (first + length (tokens a))) scope b))
unknown_later n first scope (closed a) =
    let same : suc (n + first) ≡ n + suc first = omega arith in
    ap (λ m. unknown_at m scope a) same ∙ unknown_later n (suc first) scope a

unknown_from : (n : ℕ) (scope : Bindings) (a : Text) → unknown_at n scope a ≡ option_map (λ k. n + k) (unknown_at 0 scope a)
unknown_from n scope a = let same : n ≡ n + 0 = omega arith in ap (λ m. unknown_at m scope a) same ∙ unknown_later n 0 scope a

-- no name is wanted where a text ends
ended_now : (most : ℕ) (asked : Bool) (scope : Bindings) (st : inner_texts.State) (a : Text) (t : Token) (k : ℕ) → inner_texts.finished st ≡ Some a → following.unknown_now most asked scope st t k ≡ None
ended_now most asked scope (inner_texts.having stack b) a t k e = refl
ended_now most asked scope st a t k e = absurd (cc)

module _ (most : ℕ) (outer : ProofScope) (limit proofs deep : ℕ) (holes : Bool) where
  module _ (at : ProofScope → ℕ → Kind → Argument → Option ℕ) (inside : List texts.Frame → inner_texts.State → Option ℕ) where
    -- in the arguments of the stack
    abbrev founds : List texts.Frame → Option ℕ
    founds [] = None
    founds (texts.calling h done k after ∷ stack) = first_of (founds stack) (found_done (at (scope_under most outer (texts.calling h done k after ∷ stack))) (2 + counted stack) (kinds h) done)

    abbrev found_top : List texts.Frame → Argument → Option ℕ
    found_top stack a = first_of (founds stack) (at (scope_under most outer stack) (counted stack) (texts.asked stack) a)

    abbrev found_state : texts.State → Option ℕ
    found_state (texts.expecting stack) = founds stack
    found_state (texts.marked hole stack) = founds stack
    found_state (texts.opening h stack) = founds stack
    found_state (texts.within st stack) = first_of (founds stack) (inside stack st)
    found_state (texts.complete stack a) = found_top stack a

    -- the first token of a proof adds nothing
    proof_found : (stack : List texts.Frame) (t : Token) (next : texts.State) → texts.begins_proof holes stack t ≡ Some next → found_state next ≡ founds stack
    proof_found stack (token.mark marks.Hash) next e = let same : texts.marked false stack ≡ next = cc in ap found_state (sym same)
    proof_found stack (token.mark marks.Question) next e = ap found_state (sym (guard_passed holes (texts.marked true stack) next e).1)
    proof_found stack (token.word bytes) next e = ap found_state (sym (some_map (λ h. texts.opening h stack) (texts.head_of bytes) next e).2)
    proof_found stack t next e = absurd (cc)

    expression_found : (asks : Bool) (stack : List texts.Frame) (t : Token) (next : texts.State) (now : Option ℕ)
        → ((st : inner_texts.State) → inner_texts.step limit asks (inner_texts.wanting []) t ≡ Some st → inside stack st ≡ now)
        → option_map (λ st. texts.within st stack) (inner_texts.step limit asks (inner_texts.wanting []) t) ≡ Some next → found_state next ≡ first_of (founds stack) now
    expression_found asks stack t next now f e =
        let m = some_map (λ st. texts.within st stack) (inner_texts.step limit asks (inner_texts.wanting []) t) next e in
        ap found_state (sym m.2) ∙ ap (first_of (founds stack)) (f m.0 m.1)

    begins_found : ((scope : ProofScope) (first : ℕ) (k : Kind) (s : Sort) → at scope first k (of_sort s) ≡ None) → ((scope : ProofScope) (first : ℕ) (k : Kind) (n : ℕ) → at scope first k (of_number n) ≡ None)
        → (k : Kind) (stack : List texts.Frame) (t : Token) (next : texts.State) (now : Option ℕ)
        → ((st : inner_texts.State) → inner_texts.step limit (asks_term k) (inner_texts.wanting []) t ≡ Some st → inside stack st ≡ now)
        → texts.begins limit proofs holes k stack t ≡ Some next → found_state next ≡ first_of (founds stack) (expression_now k now)
    begins_found none_sort none_number a_sort stack (token.sort s) next now f e =
        let same : texts.complete stack (of_sort s) ≡ next = cc in
        ap found_state (sym same) ∙ ap (first_of (founds stack)) (none_sort (scope_under most outer stack) (counted stack) (texts.asked stack) s)
    begins_found none_sort none_number a_number stack (token.number n) next now f e =
        ap found_state (sym (guard_passed (nat_lt n (2 ^ 32)) (texts.complete stack (of_number n)) next e).1)
        ∙ ap (first_of (founds stack)) (none_number (scope_under most outer stack) (counted stack) (texts.asked stack) n)
    begins_found none_sort none_number a_term stack t next now f e = expression_found true stack t next now f e
    begins_found none_sort none_number (a_formula v) stack t next now f e = expression_found false stack t next now f e
    begins_found none_sort none_number (a_proof v g) stack t next now f e = by (nat_lt (length stack) proofs) e where
      by : (b : Bool) → (if b then texts.begins_proof holes stack t else None) ≡ Some next → found_state next ≡ first_of (founds stack) None
      by true e = proof_found stack t next e ∙ sym (first_none (founds stack))
      by false e = absurd (cc)
    begins_found none_sort none_number k stack t next now f e = absurd (cc)

    enters_found : (g : Head) (ks : List Kind) (stack : List texts.Frame) (next : texts.State) → texts.enters g ks stack ≡ Some next → found_state next ≡ first_of (founds stack) None
    enters_found g [] stack next e = absurd (cc)
    enters_found g (k ∷ after) stack next e = let same : texts.expecting (texts.calling g [] k after ∷ stack) ≡ next = cc in ap found_state (sym same)

    module _ (among : ProofScope → ℕ → List Kind → Arguments → Option ℕ)
        (ends : (scope : ProofScope) (first : ℕ) (k : Kind) (a : Argument) → among scope first (k ∷ []) (last a) ≡ at scope first k a)
        (splits : (scope : ProofScope) (first : ℕ) (k : Kind) (ks : List Kind) (a : Argument) (others : Arguments)
        → among scope first (k ∷ ks) (more a others) ≡ first_of (at scope first k a) (among scope (suc (first + length (argument_tokens a))) ks others))
        (proofs_are : (scope : ProofScope) (first : ℕ) (k : Kind) (h : Head) (arguments : Arguments) → IsProofKind k
        → at scope first k (of_proof (headed h arguments)) ≡ among (scope_in (Some k) scope) (2 + first) (kinds h) arguments) where
      separated_found : (stack : List texts.Frame) (a : Argument) (t : Token) (next : texts.State) → Sits limit proofs deep holes stack → texts.separated stack a t ≡ Some next → found_state next ≡ found_top stack a
      separated_found (texts.calling g done k (l ∷ after) ∷ stack) a (token.mark marks.Comma) next h e =
          let same : texts.expecting (texts.calling g (a ∷ done) l after ∷ stack) ≡ next = cc in
          let scope : ProofScope = scope_in (Some (texts.asked stack)) (scope_under most outer stack) in
          let old : Option ℕ = found_done (at scope) (2 + counted stack) (kinds g) done in
          ap found_state (sym same)
          ∙ ap (λ k. first_of (founds stack) (first_of old (at scope (counted_done (2 + counted stack) done) k a))) (kind_done limit deep holes (suc (length stack)) (kinds g) done k (l ∷ after) h.2)
          ∙ sym (first_assoc (founds stack) old (at scope (counted_done (2 + counted stack) done) k a))
      separated_found (texts.calling g done k [] ∷ stack) a (token.mark marks.Close) next h e =
          let same : texts.complete stack (of_proof (headed g (gathered done (last a)))) ≡ next = cc in
          let scope : ProofScope = scope_in (Some (texts.asked stack)) (scope_under most outer stack) in
          let old : Option ℕ = found_done (at scope) (2 + counted stack) (kinds g) done in
          ap found_state (sym same)
          ∙ ap (first_of (founds stack)) (proofs_are (scope_under most outer stack) (counted stack) (texts.asked stack) g (gathered done (last a)) h.0
          ∙ gathered_found (at scope) (among scope) (splits scope) limit deep holes (suc (length stack)) (2 + counted stack) (kinds g) done (k ∷ []) (last a) h.2
          ∙ ap (first_of old) (ends scope (counted_done (2 + counted stack) done) k a))
          ∙ sym (first_assoc (founds stack) old (at scope (counted_done (2 + counted stack) done) k a))
      separated_found stack a t next h e = absurd (cc)

  -- # Too deep

  abbrev deep_kind : ProofScope → ℕ → Kind → Argument → Option ℕ
  deep_kind scope first k a = deep_in first most k a

  abbrev not_inside : List texts.Frame → inner_texts.State → Option ℕ
  not_inside stack st = None

  -- the first term or formula that is too deep, among those that are read
  abbrev deep_state : texts.State → Option ℕ
  deep_state st = found_state deep_kind not_inside st

  -- the one that ends before the token
  abbrev deep_end : Option inner_texts.State → Option Text → List texts.Frame → Option ℕ
  deep_end (Some next) o stack = None
  deep_end None (Some a) stack = deep_in (counted stack) most (texts.asked stack) (of_expression a)
  deep_end None None stack = None

  abbrev deep_now : texts.State → Token → Option ℕ
  deep_now (texts.within st stack) t = deep_end (inner_texts.step limit (asks_term (texts.asked stack)) st t) (inner_texts.finished st) stack
  deep_now st t = None

  deep_sort : (first : ℕ) (k : Kind) (s : Sort) → deep_in first most k (of_sort s) ≡ None
  deep_sort first a_sort s = refl
  deep_sort first a_number s = refl
  deep_sort first a_term s = refl
  deep_sort first (a_formula v) s = refl
  deep_sort first (a_proof v g) s = refl

  deep_number : (first : ℕ) (k : Kind) (n : ℕ) → deep_in first most k (of_number n) ≡ None
  deep_number first a_sort n = refl
  deep_number first a_number n = refl
  deep_number first a_term n = refl
  deep_number first (a_formula v) n = refl
  deep_number first (a_proof v g) n = refl

  deep_marked : (hole : Bool) (n first : ℕ) (k : Kind) → IsProofKind k → deep_in first most k (of_proof (texts.marked_proof hole n)) ≡ None
  deep_marked true n first (a_proof v g) is = refl
  deep_marked false n first (a_proof v g) is = refl
  deep_marked hole n first k is = absurd is

  deep_headed : (first : ℕ) (k : Kind) (h : Head) (arguments : Arguments) → IsProofKind k → deep_in first most k (of_proof (headed h arguments)) ≡ deep_among (2 + first) most (kinds h) arguments
  deep_headed first (a_proof v g) h arguments is = refl
  deep_headed first k h arguments is = absurd is

  deep_separated : (stack : List texts.Frame) (a : Argument) (t : Token) (next : texts.State) → Sits limit proofs deep holes stack → texts.separated stack a t ≡ Some next
      → deep_state next ≡ found_top deep_kind not_inside stack a
  deep_separated stack a t next h e =
      separated_found deep_kind not_inside (λ scope first ks others. deep_among first most ks others) (λ scope first k a. refl) (λ scope first k ks a others. refl)
      (λ scope first k g arguments is. deep_headed first k g arguments is) stack a t next h e

  ends_deep : (f : Option Text) (stack : List texts.Frame) (t : Token) (next : texts.State) → Sits limit proofs deep holes stack → texts.ends f stack t ≡ Some next
      → deep_state next ≡ first_of (first_of (founds deep_kind not_inside stack) None) (deep_end None f stack)
  ends_deep (Some a) stack t next h e =
      deep_separated stack (of_expression a) t next h e
      ∙ ap (λ o. first_of o (deep_in (counted stack) most (texts.asked stack) (of_expression a))) (sym (first_none (founds deep_kind not_inside stack)))
  ends_deep None stack t next h e = absurd (cc)

  inside_deep : (o : Option inner_texts.State) (st : inner_texts.State) (stack : List texts.Frame) (t : Token) (next : texts.State) → Sits limit proofs deep holes stack → texts.inside o st stack t ≡ Some next
      → deep_state next ≡ first_of (first_of (founds deep_kind not_inside stack) None) (deep_end o (inner_texts.finished st) stack)
  inside_deep (Some on) st stack t next h e =
      let same : texts.within on stack ≡ next = cc in
      ap deep_state (sym same) ∙ sym (first_none (first_of (founds deep_kind not_inside stack) None))
  inside_deep None st stack t next h e = ends_deep (inner_texts.finished st) stack t next h e

  step_deep : (st : texts.State) (t : Token) (next : texts.State) → Lasts limit proofs deep holes st → texts.step limit proofs holes st t ≡ Some next → deep_state next ≡ first_of (deep_state st) (deep_now st t)
  step_deep (texts.expecting stack) t next h e =
      begins_found deep_kind not_inside (λ scope first k s. deep_sort first k s) (λ scope first k n. deep_number first k n) (texts.asked stack) stack t next None (λ st e. refl) e
      ∙ ap (first_of (founds deep_kind not_inside stack)) (nothing_now (texts.asked stack))
  step_deep (texts.marked hole stack) (token.number k) next h e =
      ap deep_state (sym (guard_passed (nat_lt k (2 ^ 32)) (texts.complete stack (of_proof (texts.marked_proof hole k))) next e).1)
      ∙ ap (first_of (founds deep_kind not_inside stack)) (deep_marked hole k (counted stack) (texts.asked stack) h.1)
      ∙ first_none (founds deep_kind not_inside stack) ∙ sym (first_none (founds deep_kind not_inside stack))
  step_deep (texts.opening g stack) (token.mark marks.Open) next h e = enters_found deep_kind not_inside g (kinds g) stack next e
  step_deep (texts.within st stack) t next h e = inside_deep (inner_texts.step limit (asks_term (texts.asked stack)) st t) st stack t next h.0 e
  step_deep (texts.complete stack a) t next h e = deep_separated stack a t next h.0 e ∙ sym (first_none (found_top deep_kind not_inside stack a))
  step_deep st t next h e = absurd (cc)

  deep_expression : (first : ℕ) (k : Kind) (a : Text) → IsExpressionKind k → deep_in first most k (of_expression a) ≡ too_deep first most (text_levels (asks_term k) a)
  deep_expression first a_term a is = refl
  deep_expression first (a_formula v) a is = refl
  deep_expression first k a is = absurd is

  deep_test : (f : ℕ → ℕ) (first levels kept : ℕ) → kept ≡ min levels (suc most) → option_map f (too_deep first most levels) ≡ (if nat_le kept most then None else Some (f first))
  deep_test f first levels kept e =
      ⊎_elim (λ (h : most < levels). rw (lt-ltb most levels h, lt-leb kept most (omega (arith, e, h))) refl)
      (λ (h : levels ≤ most). rw (le-ltb most levels h, le-leb kept most (omega (arith, e, h))) refl) (cases_lt most levels)

  finished_deep : (place : ℕ → ℕ) (st : inner_texts.State) (stack : List texts.Frame) (o : Option inner_texts.State) (f : Option Text) → Lasts limit proofs deep holes (texts.within st stack) → inner_texts.finished st ≡ f
      → option_map place (deep_end o f stack)
      ≡ ended_deep most (asks_term (texts.asked stack)) (option_map (inner.shown_state most (asks_term (texts.asked stack)) (bindings_at most outer stack)) o) (inner.shown_state most (asks_term (texts.asked stack)) (bindings_at most outer stack) st) (place (counted stack))
  finished_deep place st stack (Some next) f h e = refl
  finished_deep place st stack None (Some a) h e =
      ap (option_map place) (deep_expression (counted stack) (texts.asked stack) a h.1)
      ∙ deep_test place (counted stack) (text_levels (asks_term (texts.asked stack)) a) (expression.levels_asked most (asks_term (texts.asked stack)) (inner.item_of most (bindings_at most outer stack) a))
      (asked_kept limit most (asks_term (texts.asked stack)) (bindings_at most outer stack) a (ended_is limit (asks_term (texts.asked stack)) st a h.2 e).0).0
      ∙ ap (too_deep_at most (asks_term (texts.asked stack)) (place (counted stack)))
      (sym (inner.finished_shown most (asks_term (texts.asked stack)) (bindings_at most outer stack) st ∙ ap (option_map (inner.item_of most (bindings_at most outer stack))) e))
  finished_deep place st stack None None h e =
      ap (too_deep_at most (asks_term (texts.asked stack)) (place (counted stack)))
      (sym (inner.finished_shown most (asks_term (texts.asked stack)) (bindings_at most outer stack) st ∙ ap (option_map (inner.item_of most (bindings_at most outer stack))) e))

  deep_shown : (place : ℕ → ℕ) (st : texts.State) (t : Token) → Lasts limit proofs deep holes st → option_map place (deep_now st t) ≡ deep_here limit most outer (shown_state most outer place st) t
  deep_shown place (texts.within st stack) t h =
      finished_deep place st stack (inner_texts.step limit (asks_term (texts.asked stack)) st t) (inner_texts.finished st) h refl
      ∙ ap (λ o. ended_deep most (asks_term (texts.asked stack)) o (inner.shown_state most (asks_term (texts.asked stack)) (bindings_at most outer stack) st) (place (counted stack)))
      (sym (inner.step_shown most (asks_term (texts.asked stack)) (bindings_at most outer stack) limit st t))
      ∙ ap₂ (λ o scope. ended_deep most (wants_term o) (expression.step limit most (wants_term o) scope (inner.shown_state most (asks_term (texts.asked stack)) (bindings_at most outer stack) st) t)
      (inner.shown_state most (asks_term (texts.asked stack)) (bindings_at most outer stack) st) (place (counted stack)))
      (sym (asked_shown most outer limit proofs deep holes stack h.0)) (sym (bindings_shown most outer limit proofs deep holes stack h.0))
  deep_shown place (texts.expecting stack) t h = refl
  deep_shown place (texts.marked hole stack) t h = refl
  deep_shown place (texts.opening g stack) t h = refl
  deep_shown place (texts.complete stack a) t h = refl

  -- # Unknown

  abbrev missed_kind : ProofScope → ℕ → Kind → Argument → Option ℕ
  missed_kind scope first k a = unknown_in first scope k a

  abbrev missed_inside : List texts.Frame → inner_texts.State → Option ℕ
  missed_inside stack st = option_map (λ k. counted stack + k) (following.missed_state most (asks_term (texts.asked stack)) (bindings_at most outer stack) st)

  -- the first name or `#k` that means nothing, among those that are read
  abbrev missed_state : texts.State → Option ℕ
  missed_state st = found_state missed_kind missed_inside st

  -- the number of the token, where it is such a name, or of the one before, where that is the `#`
  abbrev missed_now : texts.State → Token → Option ℕ
  missed_now (texts.expecting stack) t =
      expression_now (texts.asked stack) (option_map (λ k. counted stack + k) (following.unknown_now most (asks_term (texts.asked stack)) (bindings_at most outer stack) (inner_texts.wanting []) t 0))
  missed_now (texts.marked hole stack) t = no_hypothesis (scope_in (Some (texts.asked stack)) (scope_under most outer stack)) hole (counted stack) t
  missed_now (texts.within st stack) t =
      option_map (λ k. counted stack + k) (following.unknown_now most (asks_term (texts.asked stack)) (bindings_at most outer stack) st t (following.counted_state st))
  missed_now st t = None

  missed_sort : (scope : ProofScope) (first : ℕ) (k : Kind) (s : Sort) → unknown_in first scope k (of_sort s) ≡ None
  missed_sort scope first a_sort s = refl
  missed_sort scope first a_number s = refl
  missed_sort scope first a_term s = refl
  missed_sort scope first (a_formula v) s = refl
  missed_sort scope first (a_proof v g) s = refl

  missed_number : (scope : ProofScope) (first : ℕ) (k : Kind) (n : ℕ) → unknown_in first scope k (of_number n) ≡ None
  missed_number scope first a_sort n = refl
  missed_number scope first a_number n = refl
  missed_number scope first a_term n = refl
  missed_number scope first (a_formula v) n = refl
  missed_number scope first (a_proof v g) n = refl

  missed_marked : (hole : Bool) (n first : ℕ) (scope : ProofScope) (k : Kind) → IsProofKind k
      → unknown_in first scope k (of_proof (texts.marked_proof hole n)) ≡ no_hypothesis (scope_in (Some k) scope) hole first (token.number n)
  missed_marked true n first scope (a_proof v g) is = refl
  missed_marked false n first scope (a_proof v g) is = refl
  missed_marked hole n first scope k is = absurd is

  missed_headed : (scope : ProofScope) (first : ℕ) (k : Kind) (h : Head) (arguments : Arguments) → IsProofKind k
      → unknown_in first scope k (of_proof (headed h arguments)) ≡ unknown_among (2 + first) (scope_in (Some k) scope) (kinds h) arguments
  missed_headed scope first (a_proof v g) h arguments is = refl
  missed_headed scope first k h arguments is = absurd is

  missed_separated : (stack : List texts.Frame) (a : Argument) (t : Token) (next : texts.State) → Sits limit proofs deep holes stack → texts.separated stack a t ≡ Some next
      → missed_state next ≡ found_top missed_kind missed_inside stack a
  missed_separated stack a t next h e =
      separated_found missed_kind missed_inside (λ scope first ks others. unknown_among first scope ks others) (λ scope first k a. refl) (λ scope first k ks a others. refl)
      missed_headed stack a t next h e

  missed_expression : (scope : ProofScope) (first : ℕ) (k : Kind) (a : Text) → IsExpressionKind k → unknown_in first scope k (of_expression a) ≡ unknown_at first (bindings_in (Some k) scope) a
  missed_expression scope first a_term a is = refl
  missed_expression scope first (a_formula v) a is = refl
  missed_expression scope first k a is = absurd is

  ends_missed : (f : Option Text) (st : inner_texts.State) (stack : List texts.Frame) (t : Token) (next : texts.State) → Lasts limit proofs deep holes (texts.within st stack) → inner_texts.finished st ≡ f
      → texts.ends f stack t ≡ Some next → missed_state next ≡ first_of (missed_state (texts.within st stack)) (missed_now (texts.within st stack) t)
  ends_missed (Some a) st stack t next h f e =
      let asks : Bool = asks_term (texts.asked stack) in
      let scope : Bindings = bindings_at most outer stack in
      missed_separated stack (of_expression a) t next h.0 e
      ∙ ap (first_of (founds missed_kind missed_inside stack))
      (missed_expression (scope_under most outer stack) (counted stack) (texts.asked stack) a h.1
      ∙ unknown_from (counted stack) scope a
      ∙ ap (option_map (λ k. counted stack + k)) (sym (following.finished_missed most asks scope st a f)))
      ∙ sym (first_none (missed_state (texts.within st stack)))
      ∙ ap (λ o. first_of (missed_state (texts.within st stack)) (option_map (λ k. counted stack + k) o)) (sym (ended_now most asks scope st a t (following.counted_state st) f))
  ends_missed None st stack t next h f e = absurd (cc)

  inside_missed : (o : Option inner_texts.State) (st : inner_texts.State) (stack : List texts.Frame) (t : Token) (next : texts.State) → Lasts limit proofs deep holes (texts.within st stack)
      → inner_texts.step limit (asks_term (texts.asked stack)) st t ≡ o → texts.inside o st stack t ≡ Some next
      → missed_state next ≡ first_of (missed_state (texts.within st stack)) (missed_now (texts.within st stack) t)
  inside_missed (Some on) st stack t next h s e =
      let asks : Bool = asks_term (texts.asked stack) in
      let scope : Bindings = bindings_at most outer stack in
      let same : texts.within on stack ≡ next = cc in
      let old : Option ℕ = following.missed_state most asks scope st in
      let now : Option ℕ = following.unknown_now most asks scope st t (following.counted_state st) in
      ap missed_state (sym same)
      ∙ ap (λ o. first_of (founds missed_kind missed_inside stack) (option_map (λ k. counted stack + k) o)) (following.step_missed most asks scope limit st t on s)
      ∙ ap (first_of (founds missed_kind missed_inside stack)) (map_first (λ k. counted stack + k) old now)
      ∙ sym (first_assoc (founds missed_kind missed_inside stack) (option_map (λ k. counted stack + k) old) (option_map (λ k. counted stack + k) now))
  inside_missed None st stack t next h s e = ends_missed (inner_texts.finished st) st stack t next h refl e

  step_missed : (st : texts.State) (t : Token) (next : texts.State) → Lasts limit proofs deep holes st → texts.step limit proofs holes st t ≡ Some next → missed_state next ≡ first_of (missed_state st) (missed_now st t)
  step_missed (texts.expecting stack) t next h e =
      begins_found missed_kind missed_inside missed_sort missed_number (texts.asked stack) stack t next
      (option_map (λ k. counted stack + k) (following.unknown_now most (asks_term (texts.asked stack)) (bindings_at most outer stack) (inner_texts.wanting []) t 0))
      (λ st e. ap (option_map (λ k. counted stack + k)) (following.step_missed most (asks_term (texts.asked stack)) (bindings_at most outer stack) limit (inner_texts.wanting []) t st e)) e
  step_missed (texts.marked hole stack) (token.number k) next h e =
      ap missed_state (sym (guard_passed (nat_lt k (2 ^ 32)) (texts.complete stack (of_proof (texts.marked_proof hole k))) next e).1)
      ∙ ap (first_of (founds missed_kind missed_inside stack)) (missed_marked hole k (counted stack) (scope_under most outer stack) (texts.asked stack) h.1)
  step_missed (texts.opening g stack) (token.mark marks.Open) next h e = enters_found missed_kind missed_inside g (kinds g) stack next e
  step_missed (texts.within st stack) t next h e = inside_missed (inner_texts.step limit (asks_term (texts.asked stack)) st t) st stack t next h refl e
  step_missed (texts.complete stack a) t next h e = missed_separated stack a t next h.0 e ∙ sym (first_none (found_top missed_kind missed_inside stack a))
  step_missed st t next h e = absurd (cc)

  hypothesis_place : (f : ℕ → ℕ) (scope : ProofScope) (hole : Bool) (n : ℕ) (t : Token) → option_map f (no_hypothesis scope hole n t) ≡ no_hypothesis scope hole (f n) t
  hypothesis_place f scope false n (token.number k) = by (nat_lt k scope.hypotheses) where
    by : (b : Bool) → option_map f (if b then None else Some n) ≡ (if b then None else Some (f n))
    by true = refl
    by false = refl
  hypothesis_place f scope false n t = refl
  hypothesis_place f scope true n t = refl

  -- a name in a term or formula
  inner_place : (place : ℕ → ℕ) (stack : List texts.Frame) (st : inner_texts.State) (t : Token) (k left : ℕ) → Sits limit proofs deep holes stack → place (counted stack + k) ≡ left
      → option_map place (option_map (λ k. counted stack + k) (following.unknown_now most (asks_term (texts.asked stack)) (bindings_at most outer stack) st t k))
      ≡ expression.unknown_here (bindings outer (shown most outer stack)) (inner.shown_state most (asks_term (texts.asked stack)) (bindings_at most outer stack) st) t left
  inner_place place stack st t k left h e =
      map_map place (λ k. counted stack + k) (λ k. place (counted stack + k)) (following.unknown_now most (asks_term (texts.asked stack)) (bindings_at most outer stack) st t k) (λ k. refl)
      ∙ following.here_place most (asks_term (texts.asked stack)) (bindings_at most outer stack) (λ k. place (counted stack + k)) st t k left e
      ∙ ap (λ scope. expression.unknown_here scope (inner.shown_state most (asks_term (texts.asked stack)) (bindings_at most outer stack) st) t left) (sym (bindings_shown most outer limit proofs deep holes stack h))

  first_place : (place : ℕ → ℕ) (k : Kind) (stack : List texts.Frame) (left : ℕ) (t : Token) (now : Option ℕ)
      → option_map place now ≡ expression.unknown_here (bindings outer (shown most outer stack)) (expression.wanting []) t left
      → option_map place (expression_now k now) ≡ unknown_first outer (shown most outer stack) (Some k) (record { left = left; token = t })
  first_place place a_term stack left t now e = e
  first_place place (a_formula v) stack left t now e = e
  first_place place a_sort stack left t now e = refl
  first_place place a_number stack left t now e = refl
  first_place place (a_proof v g) stack left t now e = refl

  missed_shown : (place : ℕ → ℕ) (st : texts.State) (left : ℕ) (t : Token) → Lasts limit proofs deep holes st → place (counted_state st) ≡ left
      → option_map place (missed_now st t) ≡ unknown_here outer (shown_state most outer place st) (record { left = left; token = t })
  missed_shown place (texts.expecting stack) left t h e =
      first_place place (texts.asked stack) stack left t (option_map (λ k. counted stack + k) (following.unknown_now most (asks_term (texts.asked stack)) (bindings_at most outer stack) (inner_texts.wanting []) t 0))
      (inner_place place stack (inner_texts.wanting []) t 0 left h (let same : counted stack + 0 ≡ counted stack = omega arith in ap place same ∙ e))
      ∙ ap (λ o. unknown_first outer (shown most outer stack) o (record { left = left; token = t })) (sym (asked_shown most outer limit proofs deep holes stack h))
  missed_shown place (texts.marked hole stack) left t h e =
      hypothesis_place place (scope_in (Some (texts.asked stack)) (scope_under most outer stack)) hole (counted stack) t
      ∙ ap (λ scope. no_hypothesis scope hole (place (counted stack)) t) (sym (proof_scope_shown most outer limit proofs deep holes stack h.0))
  missed_shown place (texts.within st stack) left t h e = inner_place place stack st t (following.counted_state st) left h.0 e
  missed_shown place (texts.opening g stack) left t h e = refl
  missed_shown place (texts.complete stack a) left t h e = refl

  -- # Runs

  whole_deep : (st : texts.State) (p : ProofText) → texts.finished st ≡ Some p → deep_state st ≡ deep_at 0 most p
  whole_deep (texts.complete [] (of_proof q)) p e = let same : q ≡ p = cc in ap (deep_at 0 most) same
  whole_deep st p e = absurd (cc)

  whole_missed : (st : texts.State) (p : ProofText) → texts.finished st ≡ Some p → missed_state st ≡ unknown_in_proof 0 outer p
  whole_missed (texts.complete [] (of_proof q)) p e = let same : q ≡ p = cc in ap₂ (unknown_in_proof 0) (grown_none outer) same
  whole_missed st p e = absurd (cc)

  module _ (few : proofs ≤ deep) (all : List Placed) where
    abbrev pub place : ℕ → ℕ
    place k = left_of (drop k all)

    abbrev pub whole_of : ProofText → Whole
    whole_of p = record { tree = tree_kept most outer p; deep = option_map place (deep_at 0 most p); unknown = option_map place (unknown_in_proof 0 outer p) }

    abbrev IsRead : List Placed → texts.State → (deepest unknown : Option ℕ) → ProofText → Type 0
    IsRead placed st deepest unknown p = run limit proofs most holes outer placed (shown_state most outer place st) deepest unknown ≡ Ok (whole_of p)

    pub run_kept : (placed : List Placed) (st : texts.State) (deepest unknown : Option ℕ) (p : ProofText) → Lasts limit proofs deep holes st → drop (counted_state st) all ≡ placed
        → deepest ≡ option_map place (deep_state st) → unknown ≡ option_map place (missed_state st) → texts.run limit proofs holes (bare placed) st ≡ Ok p → IsRead placed st deepest unknown p
    run_kept [] st deepest unknown p h d x y e = by (texts.finished st) refl e where
      by : (o : Option ProofText) → texts.finished st ≡ o → texts.or_fault o ≡ Ok p → IsRead [] st deepest unknown p
      by (Some q) f e =
          let same : Some q ≡ Some p = cc in
          let whole : texts.finished st ≡ Some p = f ∙ same in
          ap (λ o. or_fault o deepest unknown) (finished_shown most outer place st ∙ ap (option_map (tree_kept most outer)) whole)
          ∙ ap₂ (or_fault (Some (tree_kept most outer p))) (x ∙ ap (option_map place) (whole_deep st p whole)) (y ∙ ap (option_map place) (whole_missed st p whole))
      by None f e = absurd (cc)
    run_kept (q ∷ placed) st deepest unknown p h d x y e = by (λ next deepest unknown. run_kept placed next deepest unknown p) (texts.step limit proofs holes st q.token) refl e where
      by : ((next : texts.State) (deepest unknown : Option ℕ) → Lasts limit proofs deep holes next → drop (counted_state next) all ≡ placed
          → deepest ≡ option_map place (deep_state next) → unknown ≡ option_map place (missed_state next) → texts.run limit proofs holes (bare placed) next ≡ Ok p → IsRead placed next deepest unknown p)
          → (o : Option texts.State) → texts.step limit proofs holes st q.token ≡ o → texts.after o (q.token ∷ bare placed) (λ next. texts.run limit proofs holes (bare placed) next) ≡ Ok p
          → IsRead (q ∷ placed) st deepest unknown p
      by ih (Some next) t e =
          let k = step_keeps limit proofs deep holes few st q.token next h t in
          let more : counted_state next ≡ suc (counted_state st) = one_more st next q.token (k.1 []) in
          let deepest_now : Option ℕ = first_of deepest (deep_here limit most outer (shown_state most outer place st) q.token) in
          let unknown_now : Option ℕ = first_of unknown (unknown_here outer (shown_state most outer place st) q) in
          let deep_is : deepest_now ≡ option_map place (deep_state next) =
          ap₂ first_of x (sym (deep_shown place st q.token h)) ∙ sym (map_first place (deep_state st) (deep_now st q.token)) ∙ ap (option_map place) (sym (step_deep st q.token next h t)) in
          let unknown_is : unknown_now ≡ option_map place (missed_state next) =
          ap₂ first_of y (sym (missed_shown place st q.left q.token h (ap left_of d))) ∙ sym (map_first place (missed_state st) (missed_now st q.token)) ∙ ap (option_map place) (sym (step_missed st q.token next h t)) in
          ap (λ o. after o q.left (λ next. run limit proofs most holes outer placed next deepest_now unknown_now))
          (step_shown most outer limit proofs deep holes place st q.left q.token h (ap left_of d) ∙ ap (option_map (shown_state most outer place)) t)
          ∙ ih next deepest_now unknown_now k.0 (ap (λ n. drop n all) more ∙ drop_next (counted_state st) all q placed d) deep_is unknown_is e
      by ih None t e = absurd (cc)

    abbrev IsStopped : List Placed → texts.State → (deepest unknown : Option ℕ) → List Token → Type 0
    IsStopped placed st deepest unknown rest =
        (k : ℕ) × (k ≤ length placed) × (rest ≡ drop k (bare placed)) × (run limit proofs most holes outer placed (shown_state most outer place st) deepest unknown ≡ Err (left_of (drop k placed)))

    pub run_stops : (placed : List Placed) (st : texts.State) (deepest unknown : Option ℕ) (rest : List Token) → Lasts limit proofs deep holes st → drop (counted_state st) all ≡ placed
        → texts.run limit proofs holes (bare placed) st ≡ Err rest → IsStopped placed st deepest unknown rest
    run_stops [] st deepest unknown rest h d e = by (texts.finished st) refl e where
      by : (o : Option ProofText) → texts.finished st ≡ o → texts.or_fault o ≡ Err rest → IsStopped [] st deepest unknown rest
      by (Some p) f e = absurd (cc)
      by None f e = (0, omega arith, cc, ap (λ o. or_fault o deepest unknown) (finished_shown most outer place st ∙ ap (option_map (tree_kept most outer)) f))
    run_stops (q ∷ placed) st deepest unknown rest h d e = by (λ next deepest unknown. run_stops placed next deepest unknown rest) (texts.step limit proofs holes st q.token) refl e where
      by : ((next : texts.State) (deepest unknown : Option ℕ) → Lasts limit proofs deep holes next → drop (counted_state next) all ≡ placed
          → texts.run limit proofs holes (bare placed) next ≡ Err rest → IsStopped placed next deepest unknown rest)
          → (o : Option texts.State) → texts.step limit proofs holes st q.token ≡ o → texts.after o (q.token ∷ bare placed) (λ next. texts.run limit proofs holes (bare placed) next) ≡ Err rest
          → IsStopped (q ∷ placed) st deepest unknown rest
      by ih (Some next) t e =
          let k = step_keeps limit proofs deep holes few st q.token next h t in
          let more : counted_state next ≡ suc (counted_state st) = one_more st next q.token (k.1 []) in
          let deepest_now : Option ℕ = first_of deepest (deep_here limit most outer (shown_state most outer place st) q.token) in
          let unknown_now : Option ℕ = first_of unknown (unknown_here outer (shown_state most outer place st) q) in
          let s = ih next deepest_now unknown_now k.0 (ap (λ n. drop n all) more ∙ drop_next (counted_state st) all q placed d) e in (
            suc s.0,
            omega (arith, s.1),
            s.2,
            ap (λ o. after o q.left (λ next. run limit proofs most holes outer placed next deepest_now unknown_now))
                (step_shown most outer limit proofs deep holes place st q.left q.token h (ap left_of d) ∙ ap (option_map (shown_state most outer place)) t) ∙ s.3,
          )
      by ih None t e = (
        0,
        omega arith,
        cc,
        ap (λ o. after o q.left (λ next. run limit proofs most holes outer placed next (first_of deepest (deep_here limit most outer (shown_state most outer place st) q.token)) (first_of unknown (unknown_here outer (shown_state most outer place st) q))))
            (step_shown most outer limit proofs deep holes place st q.left q.token h (ap left_of d) ∙ ap (option_map (shown_state most outer place)) t),
      )
