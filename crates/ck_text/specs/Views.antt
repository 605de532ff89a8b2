-- What the reader's code keeps, as its definitions say it.
use Rattle.ck_base.specs.declared.limits.TheConstants.{NESTING}
use Rattle.std.specs.declared.result.Result.{Result}
use Rattle.ck_text.specs.declared.text_fault.TextFault.{TextFault}
use Rattle.ck_text.specs.declared.text_fault.TextFault.TheVariants as faults
use Rattle.ck_text.specs.declared.reader.Stop.{Stop}
use Rattle.ck_text.specs.declared.reader.Stop.TheVariants as stops
use Rattle.ck_text.specs.declared.scan.Placed as code_placed
use Rattle.std.specs.Prelude.{◌≡◌, Ok, Err, Some, None, ℕ, ◌<◌, ◌^◌, Bool, true, false, List, [], ◌∷◌, map, reverse}
use Rattle.sorted_terms.specs.Tree.{term_tree}
use Rattle.formulas.specs.Tree.{formula_tree}
use Rattle.ck_text.specs.declared.items.Tree as code_tree
use Rattle.ck_text.specs.declared.items.Tree.TheVariants as trees
use Rattle.ck_text.specs.declared.items.Item as code_item
use Rattle.ck_text.specs.declared.items.Lead as code_lead
use Rattle.ck_text.specs.declared.items.Lead.TheVariants as leads
use Rattle.ck_text.specs.declared.items.Held as code_held
use Rattle.ck_text.specs.declared.items.Held.TheVariants as helds
use Rattle.ck_text.specs.declared.items.Frame as code_frame
use Rattle.ck_text.specs.Texts.{Lead, prefix, binder}
use Rattle.ck_text.specs.Reading.{Tree, of_term, of_formula, Fault, by_syntax, by_depth, by_name}
use Rattle.ck_text.specs.Items.{Item, Held, leading, operand, parenthesis, Frame, State, wanting, having, naming, named, sorting, sorted, takes, opened, tree_asked}
use Rattle.ck_text.specs.Tokens.{Token, Placed, word, number, truth, sort, quantifier, joining, mark, none}
use Rattle.std.specs.declared.option.Option.{Option}
use Rattle.std.specs.Option.{option_map}
use Rattle.ck_text.specs.declared.reader.Mode as code_mode
use Rattle.ck_text.specs.declared.reader.Mode.TheVariants as modes
use Rattle.ck_text.specs.declared.reader.Going as code_going
use Rattle.ck_text.specs.declared.reader.Going.TheVariants as goings
use Rattle.ck_text.specs.declared.token.Mark.TheVariants as marks
use Rattle.ck_text.specs.declared.scan.Token as code_token
use Rattle.ck_text.specs.declared.scan.Token.TheVariants as tokens

abbrev pub tree : code_tree.Tree → Tree
tree (trees.Term t) = of_term (term_tree t)
tree (trees.Formula a) = of_formula (formula_tree a)

abbrev pub item : code_item.Item → Item
item i = record { rank = i.rank; negative = i.negative; levels = i.levels; tree = tree i.tree }

abbrev pub lead : code_lead.Lead → Lead
lead (leads.Prefix p) = prefix p
lead (leads.Binder q bytes s) = binder q bytes.now s

abbrev pub held : code_held.Held → Held
held (helds.Leading l) = leading (lead l)
held (helds.Operand o i) = operand o (item i)
held helds.Parenthesis = parenthesis

abbrev pub frame : code_frame.Frame → Frame
frame f = record { held = held f.held; asks = f.asks; opened = f.opened }

-- the stack of frames, the newest first
abbrev pub stack : List code_frame.Frame → List Frame
stack frames = reverse (map frame frames)

-- the newest frame takes an operand of that level
abbrev pub takes_top : ℕ → List code_frame.Frame → Bool
takes_top least frames = by (stack frames) where
  by : List Frame → Bool
  by [] = false
  by (f ∷ stack) = takes least f.held

abbrev pub state : code_mode.Mode → List code_frame.Frame → State
state modes.Wanting frames = wanting (stack frames)
state (modes.Having i) frames = having (stack frames) (item i)
state (modes.Naming q) frames = naming q (stack frames)
state (modes.Named q bytes) frames = named q bytes.now (stack frames)
state (modes.Sorting q bytes) frames = sorting q bytes.now (stack frames)
state (modes.Sorted q bytes s) frames = sorted q bytes.now s (stack frames)

abbrev pub maybe_state : Option code_mode.Mode → List code_frame.Frame → Option State
maybe_state mode frames = option_map (λ m. state m frames) mode

abbrev pub token : code_token.Token → Token
token (tokens.Word bytes) = word bytes.now
token (tokens.Number n) = number n
token (tokens.Truth b) = truth b
token (tokens.Sort s) = sort s
token (tokens.Quantifier q) = quantifier q
token (tokens.Joining o) = joining o
token (tokens.Mark m) = mark m
token tokens.None = none

-- a number is below 2^127
abbrev pub IsSmall : Token → Type 0
IsSmall (number n) = n < 2 ^ 127
IsSmall t = Unit {0}

-- a quantifier that is read in part may still open a level
abbrev pub HasRoom : State → Type 0
HasRoom (naming q stack) = opened stack < NESTING
HasRoom (named q bytes stack) = opened stack < NESTING
HasRoom (sorting q bytes stack) = opened stack < NESTING
HasRoom (sorted q bytes s stack) = opened stack < NESTING
HasRoom state = Unit {0}

abbrev pub placed : code_placed.Placed → Placed
placed p = record { left = p.left; token = token p.token }

abbrev pub AreSmall : List Placed → Type 0
AreSmall [] = Unit {0}
AreSmall (p ∷ placed) = IsSmall p.token × AreSmall placed

-- what the code's run answers is what the run over items answers
abbrev pub Runs : Result (code_item.Item × Option ℕ) Stop → Result (Item × Option ℕ) ℕ → Type 0
Runs (Ok x) answer = answer ≡ Ok (item x.0, x.1)
Runs (Err (stops.At left)) answer = answer ≡ Err left
Runs (Err stops.NoMemory) answer = Unit {0}

-- what the code answers, an item of the asked form or a fault, is the outcome
abbrev pub Reads : (asked : Bool) → Result code_item.Item TextFault → Result Tree Fault → Type 0
Reads asked (Ok i) outcome = outcome ≡ Ok (tree_asked asked (item i))
Reads asked (Err (faults.Syntax column)) outcome = outcome ≡ Err (by_syntax column)
Reads asked (Err (faults.Deep column)) outcome = outcome ≡ Err (by_depth column)
Reads asked (Err (faults.Unknown column)) outcome = outcome ≡ Err (by_name column)
Reads asked (Err faults.NoMemory) outcome = Unit {0}

-- `,` or `)`
abbrev pub is_separator : Token → Bool
is_separator (mark marks.Comma) = true
is_separator (mark marks.Close) = true
is_separator t = false

-- What a token comes to inside a longer text: the next state; or the token is refused, and the term or formula ends
-- before it; or neither, where `whole` is asked for at `,` and `)` alone.
abbrev pub Goes : code_going.Going → List code_frame.Frame → (next : Option State) (whole : Option Item) (separates : Bool) → Type 0
Goes (goings.On mode) frames next whole separates = next ≡ Some (state mode frames)
Goes (goings.Ended i) frames next whole separates = (next ≡ None) × (whole ≡ Some (item i))
Goes goings.Refused frames next whole separates = (next ≡ None) × (separates ≡ true → whole ≡ None)
