-- The reader of proofs over tokens, step by step. It keeps the rules whose arguments are not all read on a stack,
-- the newest first, so nothing in it calls itself as deep as a proof nests.
use Rattle.std.specs.Prelude.{ℕ, ◌^◌, nat_lt, Bool, true, false, List, [], ◌∷◌, length, Some, None, Ok, Err, if◌then◌else◌}
use Rattle.std.specs.declared.option.Option.{Option}
use Rattle.std.specs.declared.result.Result.{Result}
use Rattle.std.specs.Option.{option_map}
use Rattle.std.specs.Str.{bytes_eq}
use Rattle.ck_text.specs.declared.head.Head.{Head}
use Rattle.ck_text.specs.declared.head.Head.TheVariants as heads
use Rattle.ck_text.specs.declared.token.Mark.TheVariants as marks
use Rattle.ck_text.specs.Tokens.{Token}
use Rattle.ck_text.specs.Tokens as token
use Rattle.ck_text.specs.Texts.{Text}
use Rattle.ck_text.specs.Machine as expression
use Rattle.ck_text.specs.ProofTexts.{Kind, a_sort, a_number, a_term, a_formula, a_proof, kinds, head_word, ProofText, numbered, open_hole, headed, Arguments, last, more, Argument, of_sort, of_number, of_expression, of_proof}

-- A rule with an argument that is being read: the arguments before it, the newest first, its kind, and the kinds
-- of those after it.
pub data Frame : Type 0 where
  calling : (h : Head) (done : List Argument) (k : Kind) (after : List Kind) → Frame

-- An argument or the whole proof is wanted; or `#` or `?` is read; or the name of a rule; or some of a term or
-- formula; or there is an argument.
pub data State : Type 0 where
  expecting : (stack : List Frame) → State
  marked : (hole : Bool) (stack : List Frame) → State
  opening : (h : Head) (stack : List Frame) → State
  within : (inner : expression.State) (stack : List Frame) → State
  complete : (stack : List Frame) (a : Argument) → State

-- the kind of what is wanted
abbrev pub asked : List Frame → Kind
asked [] = a_proof 0 0
asked (calling h done k after ∷ stack) = k

-- it has to be a term
abbrev pub asks_term : Kind → Bool
asks_term a_term = true
asks_term k = false

abbrev pub all_heads : List Head
all_heads = heads.Lam ∷ heads.App ∷ heads.Gen ∷ heads.Inst ∷ heads.Pair ∷ heads.First ∷ heads.Second ∷ heads.Left ∷ heads.Right ∷ heads.Cases
    ∷ heads.Pack ∷ heads.Unpack ∷ heads.Absurd ∷ heads.Stable ∷ heads.Refl ∷ heads.Rewrite ∷ heads.Axiom ∷ heads.Induct ∷ heads.Compute ∷ heads.Ring ∷ []

-- the first of the rules that has this name
abbrev pub named_among : List Head → List ℕ → Option Head
named_among [] bytes = None
named_among (h ∷ others) bytes = if bytes_eq bytes (head_word h) then Some h else named_among others bytes

-- the rule with this name
abbrev pub head_of : List ℕ → Option Head
head_of bytes = named_among all_heads bytes

abbrev pub guarded : Bool → State → Option State
guarded test state = if test then Some state else None

-- the first token of a proof
abbrev pub begins_proof : (holes : Bool) → List Frame → Token → Option State
begins_proof holes stack (token.mark marks.Hash) = Some (marked false stack)
begins_proof holes stack (token.mark marks.Question) = guarded holes (marked true stack)
begins_proof holes stack (token.word bytes) = option_map (λ h. opening h stack) (head_of bytes)
begins_proof holes stack t = None

-- the first token of what is wanted
abbrev pub begins : (limit most : ℕ) (holes : Bool) → Kind → List Frame → Token → Option State
begins limit most holes a_sort stack (token.sort s) = Some (complete stack (of_sort s))
begins limit most holes a_number stack (token.number n) = guarded (nat_lt n (2 ^ 32)) (complete stack (of_number n))
begins limit most holes a_term stack t = option_map (λ inner. within inner stack) (expression.step limit true (expression.wanting []) t)
begins limit most holes (a_formula v) stack t = option_map (λ inner. within inner stack) (expression.step limit false (expression.wanting []) t)
begins limit most holes (a_proof v h) stack t = if nat_lt (length stack) most then begins_proof holes stack t else None
begins limit most holes k stack t = None

abbrev pub marked_proof : (hole : Bool) → ℕ → ProofText
marked_proof false k = numbered k
marked_proof true k = open_hole k

-- the first argument of a rule
abbrev pub enters : Head → List Kind → List Frame → Option State
enters h [] stack = None
enters h (k ∷ after) stack = Some (expecting (calling h [] k after ∷ stack))

-- arguments, the newest first, and those after them
abbrev pub gathered : List Argument → Arguments → Arguments
gathered [] others = others
gathered (a ∷ done) others = gathered done (more a others)

-- `,` or `)` after an argument
abbrev pub separated : List Frame → Argument → Token → Option State
separated (calling h done k (l ∷ after) ∷ stack) a (token.mark marks.Comma) = Some (expecting (calling h (a ∷ done) l after ∷ stack))
separated (calling h done k [] ∷ stack) a (token.mark marks.Close) = Some (complete stack (of_proof (headed h (gathered done (last a)))))
separated stack a t = None

-- a token after a term or formula that may end there
abbrev pub ends : Option Text → List Frame → Token → Option State
ends (Some a) stack t = separated stack (of_expression a) t
ends None stack t = None

-- a token inside a term or formula, which goes on with it or ends before it
abbrev pub inside : Option expression.State → expression.State → List Frame → Token → Option State
inside (Some next) inner stack t = Some (within next stack)
inside None inner stack t = ends (expression.finished inner) stack t

-- the state after a token; none where no proof goes on with it
abbrev pub step : (limit most : ℕ) (holes : Bool) → State → Token → Option State
step limit most holes (expecting stack) t = begins limit most holes (asked stack) stack t
step limit most holes (marked hole stack) (token.number k) = guarded (nat_lt k (2 ^ 32)) (complete stack (of_proof (marked_proof hole k)))
step limit most holes (opening h stack) (token.mark marks.Open) = enters h (kinds h) stack
step limit most holes (within inner stack) t = inside (expression.step limit (asks_term (asked stack)) inner t) inner stack t
step limit most holes (complete stack a) t = separated stack a t
step limit most holes state t = None

-- the proof that ends here, where one does
abbrev pub finished : State → Option ProofText
finished (complete [] (of_proof p)) = Some p
finished state = None

abbrev pub or_fault : Option ProofText → Result ProofText (List Token)
or_fault (Some p) = Ok p
or_fault None = Err []

-- a run goes on after a step, and stops before a token that makes none
abbrev pub after : Option State → List Token → (State → Result ProofText (List Token)) → Result ProofText (List Token)
after (Some state) left run = run state
after None left run = Err left

-- the proof of the tokens from a state on, or those that are left where it stops
abbrev pub run : (limit most : ℕ) (holes : Bool) → List Token → State → Result ProofText (List Token)
run limit most holes [] state = or_fault (finished state)
run limit most holes (t ∷ ts) state = after (step limit most holes state t) (t ∷ ts) (λ next. run limit most holes ts next)

-- the proof that the tokens are, or those that are left where no proof goes on
abbrev pub read : (limit most : ℕ) (holes : Bool) → List Token → Result ProofText (List Token)
read limit most holes ts = run limit most holes ts (expecting [])
