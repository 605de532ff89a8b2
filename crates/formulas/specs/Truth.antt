-- Truth of formulas in the standard integers. It is a statement, and no definition that computes cites it.
use Rattle.std.specs.Prelude.{◌≡◌, true, List, [], ◌∷◌}
use Rattle.ck_base.specs.declared.decl.Sort.{Sort}
use Rattle.sorted_terms.specs.Values.{Value, IsOf, as_truth, State, Environment, value}
use Rattle.formulas.specs.Tree.{Connective, implies, and_also, or_else, Quantifier, for_all, there_is, FormulaTree, bottom, holds, joined, quantified}

-- two statements joined; a disjunction is true where not both of its parts are false
abbrev pub Joins : Connective → Type 0 → Type 0 → Type 0
Joins implies A B = A → B
Joins and_also A B = A × B
Joins or_else A B = (A → ⊥) × (B → ⊥) → ⊥

-- a statement of every value of a sort, or of some: of some where not every value makes it false
abbrev pub Ranges : Quantifier → Sort → (Value → Type 0) → Type 0
Ranges for_all s A = (v : Value) → IsOf s v → A v
Ranges there_is s A = ((v : Value) → IsOf s v → A v → ⊥) → ⊥

-- the formula is true in a state and an environment
abbrev pub Truth : FormulaTree → State → Environment → Type 0
Truth bottom state environment = ⊥
Truth (holds t) state environment = as_truth (value t state environment) ≡ true
Truth (joined c a b) state environment = Joins c (Truth a state environment) (Truth b state environment)
Truth (quantified q s a) state environment = Ranges q s (λ v. Truth a state (v ∷ environment))

-- all of the formulas are true
abbrev pub AllTrue : List FormulaTree → State → Environment → Type 0
AllTrue [] state environment = Unit {0}
AllTrue (a ∷ formulas) state environment = Truth a state environment × AllTrue formulas state environment
