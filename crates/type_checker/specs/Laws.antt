-- What the typing relation is worth.
use Rattle.std.specs.Prelude.{◌≡◌, ◌⊎◌, ℕ, true, List}
use Rattle.ck_base.specs.declared.decl.Sort.{Sort}
use Rattle.ck_base.specs.declared.decl.Decl.{Decl}
use Rattle.sorted_terms.specs.Values.{State, Environment, IsState, AreOf}
use Rattle.formulas.specs.Tree.{FormulaTree}
use Rattle.formulas.specs.Truth.{Truth, AllTrue}
use Rattle.proof_terms.specs.Tree.{ProofTree}
use Rattle.type_checker.specs.Typing.{Has}
use Rattle.type_checker.specs.Place.{is_assumable, AreAssumable, IsFirstUntyped}

-- where all hypotheses are true, the formula of a proof is
abbrev pub TypingIsSound : Type 0
TypingIsSound =
    (names : List Decl) (variables : List Sort) (hypotheses : List FormulaTree) (p : ProofTree) (a : FormulaTree)
    → Has names variables hypotheses p a
    → (state : State) (environment : Environment) → IsState names state → AreOf variables environment
    → AllTrue hypotheses state environment → Truth a state environment

-- a proof has at most one formula
abbrev pub OneFormula : Type 0
OneFormula =
    (names : List Decl) (variables : List Sort) (hypotheses : List FormulaTree) (p : ProofTree) (a b : FormulaTree)
    → Has names variables hypotheses p a → Has names variables hypotheses p b → a ≡ b

-- where all hypotheses fit and are well-sorted, the formula of a proof does and is
abbrev pub FormulasAreAssumable : Type 0
FormulasAreAssumable =
    (names : List Decl) (variables : List Sort) (hypotheses : List FormulaTree) (p : ProofTree) (a : FormulaTree)
    → AreAssumable names variables hypotheses
    → Has names variables hypotheses p a → is_assumable names variables a ≡ true

-- a proof has a formula, or there is a first of its subproofs without one
abbrev pub TypedOrNot : Type 0
TypedOrNot =
    (names : List Decl) (variables : List Sort) (hypotheses : List FormulaTree) (p : ProofTree)
    → ((a : FormulaTree) × Has names variables hypotheses p a) ⊎ ((place : ℕ) × IsFirstUntyped names variables hypotheses p place)

-- not both
abbrev pub NotBoth : Type 0
NotBoth =
    (names : List Decl) (variables : List Sort) (hypotheses : List FormulaTree) (p : ProofTree) (a : FormulaTree) (place : ℕ)
    → Has names variables hypotheses p a → IsFirstUntyped names variables hypotheses p place → ⊥

-- there is only one first
abbrev pub OnePlace : Type 0
OnePlace =
    (names : List Decl) (variables : List Sort) (hypotheses : List FormulaTree) (p : ProofTree) (j k : ℕ)
    → IsFirstUntyped names variables hypotheses p j → IsFirstUntyped names variables hypotheses p k → j ≡ k
