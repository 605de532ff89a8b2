-- What the code of the reader of proofs keeps, as its definitions say it.
use Rattle.std.specs.declared.result.Result.{Result}
use Rattle.ck_text.specs.declared.text_fault.TextFault.{TextFault}
use Rattle.ck_text.specs.declared.text_fault.TextFault.TheVariants as faults
use Rattle.ck_text.specs.declared.reader.Stop.{Stop}
use Rattle.ck_text.specs.declared.reader.Stop.TheVariants as stops
use Rattle.ck_text.specs.declared.proof_reader.Whole as code_whole
use Rattle.ck_text.specs.Reading.{Fault, by_syntax, by_depth, by_name}
use Rattle.std.specs.Prelude.{◌≡◌, Ok, Err, Some, None, ℕ, ◌+◌, ◌<◌, ◌^◌, Bool, true, false, List, [], ◌∷◌, map, reverse, length}
use Rattle.std.specs.declared.option.Option.{Option}
use Rattle.std.specs.Option.{option_map}
use Rattle.sorted_terms.specs.Tree.{term_tree}
use Rattle.formulas.specs.Tree.{formula_tree}
use Rattle.proof_terms.specs.declared.proof.Proof.{Proof}
use Rattle.proof_terms.specs.Tree.{ProofTree, proof_tree}
use Rattle.ck_text.specs.declared.proof_parts.Kind as code_kind
use Rattle.ck_text.specs.declared.proof_parts.Kind.TheVariants as code_kinds
use Rattle.ck_text.specs.declared.proof_parts.Part as code_part
use Rattle.ck_text.specs.declared.proof_parts.Part.TheVariants as code_parts
use Rattle.ck_text.specs.declared.proof_parts.Parts as code_arguments
use Rattle.ck_text.specs.declared.proof_parts.Parts.TheVariants as code_lists
use Rattle.ck_text.specs.declared.proof_calls.ProofScope as code_scope
use Rattle.ck_text.specs.declared.proof_calls.Call as code_call
use Rattle.ck_text.specs.declared.proof_reader.Stage as code_stage
use Rattle.ck_text.specs.declared.proof_reader.Stage.TheVariants as code_stages
use Rattle.ck_text.specs.declared.proof_reader.Next as code_next
use Rattle.ck_text.specs.Views as expression
use Rattle.ck_text.specs.ProofItems.{Whole, Frame, State, expecting, marked, opening, within, complete}
use Rattle.ck_text.specs.ProofTexts.{ProofScope, Kind, a_sort, a_number, a_term, a_formula, a_proof, Part, sort, number, term, formula, proof_term}

-- how many there are: one or none
abbrev pub one_if : Bool → ℕ
one_if true = 1
one_if false = 0

abbrev pub kind : code_kind.Kind → Kind
kind code_kinds.Sort = a_sort
kind code_kinds.Number = a_number
kind code_kinds.Term = a_term
kind (code_kinds.Formula v) = a_formula (one_if v)
kind (code_kinds.Proof v h) = a_proof (one_if v) (one_if h)

abbrev pub part : code_part.Part → Part
part (code_parts.Sort s) = sort s
part (code_parts.Number n) = number n
part (code_parts.Term t) = term (term_tree t)
part (code_parts.Formula a) = formula (formula_tree a)
part (code_parts.Proof p) = proof_term (proof_tree p.value)

abbrev pub parts : code_arguments.Parts → List Part
parts code_lists.None = []
parts (code_lists.One x) = part x ∷ []
parts (code_lists.Two x y) = part x ∷ part y ∷ []
parts (code_lists.Three x y z) = part x ∷ part y ∷ part z ∷ []

abbrev pub scope : code_scope.ProofScope → ProofScope
scope s = record { names = s.names.now; variables = s.variables; hypotheses = s.hypotheses }

abbrev pub call : code_call.Call → Frame
call c = record { head = c.head; done = parts c.done; scope = scope c.scope }

-- the stack of rules, the newest first
abbrev pub calls : List code_call.Call → List Frame
calls stack = reverse (map call stack)

-- how many variables and hypotheses are in scope around the newest rule
abbrev pub variables_around : ProofScope → List Frame → ℕ
variables_around outer [] = outer.variables
variables_around outer (f ∷ stack) = f.scope.variables

abbrev pub hypotheses_around : ProofScope → List Frame → ℕ
hypotheses_around outer [] = outer.hypotheses
hypotheses_around outer (f ∷ stack) = f.scope.hypotheses

-- one more of each can be counted
abbrev pub HasSpace : ProofScope → List Frame → Type 0
HasSpace outer stack = (variables_around outer stack + 1 < 2 ^ 32) × (hypotheses_around outer stack + 1 < 2 ^ 32)

abbrev pub state : code_stage.Stage → List code_call.Call → State
state code_stages.Expecting stack = expecting (calls stack)
state (code_stages.Marked hole left) stack = marked hole left (calls stack)
state (code_stages.Opening h) stack = opening h (calls stack)
state (code_stages.Within i) stack = within (expression.state i.mode i.stack) i.left (calls stack)
state (code_stages.Complete x) stack = complete (calls stack) (part x)

abbrev pub maybe_state : Option code_stage.Stage → List code_call.Call → Option State
maybe_state stage stack = option_map (λ s. state s stack) stage

abbrev pub maybe_next : Option code_next.Next → List code_call.Call → Option State
maybe_next next stack = option_map (λ n. state n.stage stack) next

-- how many frames of a term or formula there are
abbrev pub held : code_stage.Stage → ℕ
held (code_stages.Within i) = length i.stack
held s = 0

abbrev pub weight : Option code_stage.Stage → ℕ
weight (Some s) = held s
weight None = 0

abbrev pub weight_after : Option code_next.Next → ℕ
weight_after (Some n) = held n.stage
weight_after None = 0

-- a quantifier that is read in part may still open a level
abbrev pub HasRoom : State → Type 0
HasRoom (within inner left stack) = expression.HasRoom inner
HasRoom state = Unit {0}

-- what the code's run answers is what the run over parts answers
abbrev pub Runs : Result code_whole.Whole Stop → Result Whole ℕ → Type 0
Runs (Ok w) answer = answer ≡ Ok (record { tree = proof_tree w.proof.value; deep = w.deep; unknown = w.unknown })
Runs (Err (stops.At left)) answer = answer ≡ Err left
Runs (Err stops.NoMemory) answer = Unit {0}

-- what the code answers, a proof or a fault, is the outcome
abbrev pub ReadsProof : Result Proof TextFault → Result ProofTree Fault → Type 0
ReadsProof (Ok p) outcome = outcome ≡ Ok (proof_tree p)
ReadsProof (Err (faults.Syntax column)) outcome = outcome ≡ Err (by_syntax column)
ReadsProof (Err (faults.Deep column)) outcome = outcome ≡ Err (by_depth column)
ReadsProof (Err (faults.Unknown column)) outcome = outcome ≡ Err (by_name column)
ReadsProof (Err faults.NoMemory) outcome = Unit {0}
