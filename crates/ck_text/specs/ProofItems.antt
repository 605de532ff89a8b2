-- The steps of the reader of proofs over what it keeps of each argument: no texts, but the trees that they mean, with
-- the places of the first term or formula that is too deep and of the first name or `#k` that means nothing.
use Rattle.std.specs.Prelude.{ℕ, ◌-◌, ◌^◌, nat_le, nat_lt, Bool, true, false, List, [], ◌∷◌, ◌++◌, length, slice_get, Some, None, Ok, Err, if◌then◌else◌}
use Rattle.std.specs.declared.option.Option.{Option}
use Rattle.std.specs.declared.result.Result.{Result}
use Rattle.std.specs.Option.{option_map}
use Rattle.proof_terms.specs.Tree.{ProofTree}
use Rattle.proof_terms.specs.Tree as proof
use Rattle.ck_text.specs.declared.head.Head.{Head}
use Rattle.ck_text.specs.declared.token.Mark.TheVariants as marks
use Rattle.ck_text.specs.Tokens.{Token, Placed, scan}
use Rattle.ck_text.specs.Tokens as token
use Rattle.ck_text.specs.Texts.{Bindings, first_of}
use Rattle.ck_text.specs.Reading.{column_of, Fault, by_syntax, by_depth, by_name}
use Rattle.ck_text.specs.Items.{Item, as_term, as_formula, levels_asked}
use Rattle.ck_text.specs.Items as expression
use Rattle.ck_text.specs.ProofTexts.{Kind, a_sort, a_number, a_term, a_formula, a_proof, kinds, ProofScope, grown, expression_scope, Part, sort, number, term, formula, proof_term, built}
use Rattle.ck_text.specs.ProofMachine.{head_of, asks_term}

-- A rule with an argument that is being read: what is kept of the arguments before it, the oldest first, and the
-- scope of the rule.
pub record Frame : Type 0 where
  pub head : Head
  pub done : List Part
  pub scope : ProofScope

-- An argument or the whole proof is wanted; or `#` or `?` is read, at that place; or the name of a rule; or some of a
-- term or formula, which begins at that place; or there is an argument.
pub data State : Type 0 where
  expecting : (stack : List Frame) → State
  marked : (hole : Bool) (left : ℕ) (stack : List Frame) → State
  opening : (h : Head) (stack : List Frame) → State
  within : (inner : expression.State) (left : ℕ) (stack : List Frame) → State
  complete : (stack : List Frame) (part : Part) → State

-- # What is wanted

-- the kind of the next argument of a rule, where there is one
abbrev pub next_kind : Head → List Part → Option Kind
next_kind h done = slice_get (kinds h) (length done)

-- the kind of what is wanted
abbrev pub asked : List Frame → Option Kind
asked [] = Some (a_proof 0 0)
asked (f ∷ stack) = next_kind f.head f.done

-- the scope of a proof as an argument of that kind
abbrev pub scope_in : Option Kind → ProofScope → ProofScope
scope_in (Some (a_proof v h)) scope = grown v h scope
scope_in k scope = scope

-- the scope of the proof that is wanted
abbrev pub proof_scope : ProofScope → List Frame → ProofScope
proof_scope outer [] = outer
proof_scope outer (f ∷ stack) = scope_in (asked (f ∷ stack)) f.scope

-- the scope of the term or formula that is wanted
abbrev pub bindings_in : Option Kind → ProofScope → Bindings
bindings_in (Some (a_formula v)) scope = expression_scope v scope
bindings_in k scope = expression_scope 0 scope

abbrev pub bindings : ProofScope → List Frame → Bindings
bindings outer [] = expression_scope 0 outer
bindings outer (f ∷ stack) = bindings_in (asked (f ∷ stack)) f.scope

-- what is wanted has to be a term
abbrev pub wants_term : Option Kind → Bool
wants_term (Some k) = asks_term k
wants_term None = false

-- # What is kept

-- an expression as the argument that was wanted
abbrev pub expression_part : (asks : Bool) → Item → Part
expression_part true i = term (as_term i.tree)
expression_part false i = formula (as_formula i.tree)

-- the proof of a rule and what is kept of its arguments
abbrev pub kept_proof : Option ProofTree → ProofTree
kept_proof (Some p) = p
kept_proof None = proof.hole 0

-- a hypothesis in a scope; where it has no such hypothesis, another one stands for it
abbrev pub numbered_tree : ProofScope → ℕ → ProofTree
numbered_tree scope k = proof.hypothesis (if nat_lt k scope.hypotheses then scope.hypotheses - 1 - k else 0)

abbrev pub marked_tree : (hole : Bool) → ProofScope → ℕ → ProofTree
marked_tree true scope k = proof.hole k
marked_tree false scope k = numbered_tree scope k

-- # Steps

abbrev pub guarded : Bool → State → Option State
guarded test state = if test then Some state else None

-- the first token of a proof, at its place
abbrev pub begins_proof : (holes : Bool) → List Frame → (left : ℕ) → Token → Option State
begins_proof holes stack left (token.mark marks.Hash) = Some (marked false left stack)
begins_proof holes stack left (token.mark marks.Question) = guarded holes (marked true left stack)
begins_proof holes stack left (token.word bytes) = option_map (λ h. opening h stack) (head_of bytes)
begins_proof holes stack left t = None

-- the first token of a term or formula, at its place
abbrev pub begins_expression : (limit most : ℕ) (asks : Bool) → Bindings → List Frame → Placed → Option State
begins_expression limit most asks scope stack p =
    option_map (λ inner. within inner p.left stack) (expression.step limit most asks scope (expression.wanting []) p.token)

abbrev pub begins_sort : List Frame → Token → Option State
begins_sort stack (token.sort s) = Some (complete stack (sort s))
begins_sort stack t = None

abbrev pub begins_number : List Frame → Token → Option State
begins_number stack (token.number n) = guarded (nat_lt n (2 ^ 32)) (complete stack (number n))
begins_number stack t = None

-- the first token of what is wanted
abbrev pub begins : (limit proofs most : ℕ) (holes : Bool) → ProofScope → Option Kind → List Frame → Placed → Option State
begins limit proofs most holes outer (Some a_sort) stack p = begins_sort stack p.token
begins limit proofs most holes outer (Some a_number) stack p = begins_number stack p.token
begins limit proofs most holes outer (Some a_term) stack p = begins_expression limit most true (bindings outer stack) stack p
begins limit proofs most holes outer (Some (a_formula v)) stack p = begins_expression limit most false (bindings outer stack) stack p
begins limit proofs most holes outer (Some (a_proof v h)) stack p = if nat_lt (length stack) proofs then begins_proof holes stack p.left p.token else None
begins limit proofs most holes outer None stack p = None

-- the first argument of a rule
abbrev pub entered : ProofScope → Head → List Frame → State
entered outer h stack = expecting (record { head = h; done = []; scope = proof_scope outer stack } ∷ stack)

-- `,` or `)` after an argument
abbrev pub next_argument : Frame → List Part → List Frame → Option Kind → Option State
next_argument f done stack (Some k) = Some (expecting (record { head = f.head; done = done; scope = f.scope } ∷ stack))
next_argument f done stack None = None

abbrev pub closes : Frame → List Part → List Frame → Option Kind → Option State
closes f done stack None = Some (complete stack (proof_term (kept_proof (built f.head done))))
closes f done stack (Some k) = None

abbrev pub separated : List Frame → Part → Token → Option State
separated [] part t = None
separated (f ∷ stack) part (token.mark marks.Comma) = next_argument f (f.done ++ part ∷ []) stack (next_kind f.head (f.done ++ part ∷ []))
separated (f ∷ stack) part (token.mark marks.Close) = closes f (f.done ++ part ∷ []) stack (next_kind f.head (f.done ++ part ∷ []))
separated stack part t = None

-- a token after a term or formula that may end there
abbrev pub ends : (asks : Bool) → Option Item → List Frame → Token → Option State
ends asks (Some i) stack t = separated stack (expression_part asks i) t
ends asks None stack t = None

-- a token inside a term or formula, which goes on with it or ends before it
abbrev pub inside : (most : ℕ) (asks : Bool) → Option expression.State → expression.State → (left : ℕ) → List Frame → Token → Option State
inside most asks (Some next) inner left stack t = Some (within next left stack)
inside most asks None inner left stack t = ends asks (expression.finished most inner) stack t

abbrev pub step_inside : (limit most : ℕ) (asks : Bool) → Bindings → expression.State → (left : ℕ) → List Frame → Token → Option State
step_inside limit most asks scope inner left stack t = inside most asks (expression.step limit most asks scope inner t) inner left stack t

abbrev pub opens : ProofScope → Head → List Frame → Token → Option State
opens outer h stack (token.mark marks.Open) = Some (entered outer h stack)
opens outer h stack t = None

abbrev pub numbers_mark : ProofScope → (hole : Bool) → List Frame → Token → Option State
numbers_mark outer hole stack (token.number k) = guarded (nat_lt k (2 ^ 32)) (complete stack (proof_term (marked_tree hole (proof_scope outer stack) k)))
numbers_mark outer hole stack t = None

-- the state after a token; none where no proof goes on with it
abbrev pub step : (limit proofs most : ℕ) (holes : Bool) → ProofScope → State → Placed → Option State
step limit proofs most holes outer (expecting stack) p = begins limit proofs most holes outer (asked stack) stack p
step limit proofs most holes outer (marked hole left stack) p = numbers_mark outer hole stack p.token
step limit proofs most holes outer (opening h stack) p = opens outer h stack p.token
step limit proofs most holes outer (within inner left stack) p = step_inside limit most (wants_term (asked stack)) (bindings outer stack) inner left stack p.token
step limit proofs most holes outer (complete stack part) p = separated stack part p.token

-- # Faults

-- the place of a term or formula that ends here and is too deep
abbrev pub too_deep_at : (most : ℕ) (asks : Bool) (left : ℕ) → Option Item → Option ℕ
too_deep_at most asks left (Some i) = if nat_le (levels_asked most asks i) most then None else Some left
too_deep_at most asks left None = None

abbrev pub ended_deep : (most : ℕ) (asks : Bool) → Option expression.State → expression.State → (left : ℕ) → Option ℕ
ended_deep most asks (Some next) inner left = None
ended_deep most asks None inner left = too_deep_at most asks left (expression.finished most inner)

abbrev pub deep_here : (limit most : ℕ) → ProofScope → State → Token → Option ℕ
deep_here limit most outer (within inner left stack) t =
    ended_deep most (wants_term (asked stack)) (expression.step limit most (wants_term (asked stack)) (bindings outer stack) inner t) inner left
deep_here limit most outer state t = None

-- the place of `#`, where its number is that of no hypothesis
abbrev pub no_hypothesis : ProofScope → (hole : Bool) (left : ℕ) → Token → Option ℕ
no_hypothesis scope false left (token.number k) = if nat_lt k scope.hypotheses then None else Some left
no_hypothesis scope hole left t = None

-- the place of a name where a term or formula begins
abbrev pub unknown_first : ProofScope → List Frame → Option Kind → Placed → Option ℕ
unknown_first outer stack (Some a_term) p = expression.unknown_here (bindings outer stack) (expression.wanting []) p.token p.left
unknown_first outer stack (Some (a_formula v)) p = expression.unknown_here (bindings outer stack) (expression.wanting []) p.token p.left
unknown_first outer stack k p = None

-- the place of a name or `#k` that means nothing
abbrev pub unknown_here : ProofScope → State → Placed → Option ℕ
unknown_here outer (expecting stack) p = unknown_first outer stack (asked stack) p
unknown_here outer (marked hole left stack) p = no_hypothesis (proof_scope outer stack) hole left p.token
unknown_here outer (within inner left stack) p = expression.unknown_here (bindings outer stack) inner p.token p.left
unknown_here outer state p = None

-- # Runs

-- what is kept of the proof that ends here, where one does
abbrev pub finished : State → Option ProofTree
finished (complete [] (proof_term p)) = Some p
finished state = None

-- what is read, with the places of what is too deep and of what means nothing
pub record Whole : Type 0 where
  pub tree : ProofTree
  pub deep : Option ℕ
  pub unknown : Option ℕ

abbrev pub or_fault : Option ProofTree → (deep unknown : Option ℕ) → Result Whole ℕ
or_fault (Some p) deep unknown = Ok (record { tree = p; deep = deep; unknown = unknown })
or_fault None deep unknown = Err 0

abbrev pub after : Option State → (left : ℕ) → (State → Result Whole ℕ) → Result Whole ℕ
after (Some state) left run = run state
after None left run = Err left

-- The proof of the tokens from a state on, or the place where the reader stops; 0 is the end.
abbrev pub run : (limit proofs most : ℕ) (holes : Bool) → ProofScope → List Placed → State → (deep unknown : Option ℕ) → Result Whole ℕ
run limit proofs most holes outer [] state deep unknown = or_fault (finished state) deep unknown
run limit proofs most holes outer (p ∷ placed) state deep unknown =
    after (step limit proofs most holes outer state p) p.left
    (λ next. run limit proofs most holes outer placed next (first_of deep (deep_here limit most outer state p.token)) (first_of unknown (unknown_here outer state p)))

-- # Answers

abbrev pub or_unknown : (bytes : List ℕ) → ProofTree → Option ℕ → Result ProofTree Fault
or_unknown bytes tree None = Ok tree
or_unknown bytes tree (Some left) = Err (by_name (column_of bytes left))

abbrev pub or_deep : (bytes : List ℕ) → ProofTree → (deep unknown : Option ℕ) → Result ProofTree Fault
or_deep bytes tree None unknown = or_unknown bytes tree unknown
or_deep bytes tree (Some left) unknown = Err (by_depth (column_of bytes left))

abbrev pub answered : (bytes : List ℕ) → Result Whole ℕ → Result ProofTree Fault
answered bytes (Err left) = Err (by_syntax (column_of bytes left))
answered bytes (Ok w) = or_deep bytes w.tree w.deep w.unknown

-- what is read from the bytes as a proof in a scope: the proof term, or a fault
abbrev pub read_proof_bytes : (limit proofs most : ℕ) (holes : Bool) → ProofScope → (bytes : List ℕ) → Result ProofTree Fault
read_proof_bytes limit proofs most holes outer bytes = answered bytes (run limit proofs most holes outer (scan 0 bytes) (expecting []) None None)
