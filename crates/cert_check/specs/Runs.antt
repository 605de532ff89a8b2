-- Runs of programs (Hoare 1969, Dijkstra 1975), and what a program with its pre- and postcondition promises.
use Rattle.std.specs.Prelude.{◌≡◌, ℕ, zero, suc, Bool, true, false, List, [], ◌∷◌, ◌⊎◌, if◌then◌else◌}
use Rattle.ck_base.specs.declared.decl.Decl.{Decl}
use Rattle.sorted_terms.specs.Tree.{TermTree}
use Rattle.sorted_terms.specs.Values.{Value, State, IsState, as_truth, value}
use Rattle.formulas.specs.Tree.{FormulaTree}
use Rattle.formulas.specs.Truth.{Truth}
use Rattle.cert_check.specs.Programs.{ProgramTree, skip, assign, sequence, alternative, loop, BranchTree, last, more}

-- the programs still to do, the first one next, and a state
pub record Configuration : Type 0 where
  pub todo : List ProgramTree
  pub state : State

abbrev pub is_true : TermTree → State → Bool
is_true guard state = as_truth (value guard state [])

-- the state with another value at a declared name
abbrev pub put : State → ℕ → Value → State
put [] x v = []
put (u ∷ state) zero v = v ∷ state
put (u ∷ state) (suc x) v = u ∷ put state x v

-- the program is that of a branch whose guard is true
abbrev pub MayTake : BranchTree → State → ProgramTree → Type 0
MayTake (last guard body) state p = (is_true guard state ≡ true) × (p ≡ body)
MayTake (more guard body others) state p = ((is_true guard state ≡ true) × (p ≡ body)) ⊎ MayTake others state p

-- no guard is true
abbrev pub NoneIsTrue : BranchTree → State → Type 0
NoneIsTrue (last guard body) state = is_true guard state ≡ false
NoneIsTrue (more guard body others) state = (is_true guard state ≡ false) × NoneIsTrue others state

-- One step takes the first program of the list. An alternative may go on with any branch whose guard is true.
abbrev pub StepOf : List ProgramTree → State → Configuration → Type 0
StepOf [] state next = ⊥
StepOf (skip ∷ others) state next = (next.todo ≡ others) × (next.state ≡ state)
StepOf (assign x e ∷ others) state next = (next.todo ≡ others) × (next.state ≡ put state x (value e state []))
StepOf (sequence p q ∷ others) state next = (next.todo ≡ p ∷ q ∷ others) × (next.state ≡ state)
StepOf (alternative branches ∷ others) state next =
    (p : ProgramTree) × MayTake branches state p × (next.todo ≡ p ∷ others) × (next.state ≡ state)
StepOf (loop guard body ∷ others) state next =
    (next.todo ≡ (if is_true guard state then body ∷ loop guard body ∷ others else others)) × (next.state ≡ state)

abbrev pub Step : Configuration → Configuration → Type 0
Step now next = StepOf now.todo now.state next

-- n steps lead from one configuration to another
abbrev pub Run : ℕ → Configuration → Configuration → Type 0
Run zero from to = to ≡ from
Run (suc n) from to = (next : Configuration) × Step from next × Run n next to

-- no program is left
abbrev pub IsEnded : Configuration → Type 0
IsEnded now = now.todo ≡ []

-- the first program is an alternative without a true guard
abbrev pub IsStuckAt : List ProgramTree → State → Type 0
IsStuckAt (alternative branches ∷ others) state = NoneIsTrue branches state
IsStuckAt todo state = ⊥

abbrev pub IsStuck : Configuration → Type 0
IsStuck now = IsStuckAt now.todo now.state

abbrev pub start : ProgramTree → State → Configuration
start p state = record { todo = p ∷ []; state = state }

-- From every state of the declarations in which the precondition is true, no run is stuck, and one that has
-- ended makes the postcondition true.
abbrev pub Meets : List Decl → FormulaTree → ProgramTree → FormulaTree → Type 0
Meets names pre p post =
    (state : State) → IsState names state → Truth pre state []
    → (n : ℕ) (now : Configuration) → Run n (start p state) now
    → (IsStuck now → ⊥) × (IsEnded now → Truth post now.state [])
