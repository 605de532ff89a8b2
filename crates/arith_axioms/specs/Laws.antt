-- The axioms, induction forms, computed terms and ring equations are true, and the expansion of a term tells its value.
use Rattle.std.specs.Prelude.{◌≡◌, ℕ, ◌≤◌, ℤ, true, unsigned_abs, List, ◌∷◌, length, Some, Ok}
use Rattle.ck_base.specs.declared.decl.Sort.{Sort}
use Rattle.ck_base.specs.declared.decl.Sort.TheVariants as sort
use Rattle.ck_base.specs.declared.decl.Decl.{Decl}
use Rattle.sorted_terms.specs.Tree.{equal, TermTree, binary}
use Rattle.sorted_terms.specs.Values.{as_number, State, Environment, value, AreOf, IsState}
use Rattle.sorted_terms.specs.Sorts.{sort_of}
use Rattle.sorted_terms.specs.Weights.{term_weight, term_expansions}
use Rattle.formulas.specs.Tree.{FormulaTree, holds}
use Rattle.formulas.specs.Truth.{Truth}
use Rattle.formulas.specs.Sorts.{well_sorted}
use Rattle.arith_axioms.specs.Axioms.{axiom_at, induction}
use Rattle.arith_axioms.specs.Computing.{computing}
use Rattle.arith_axioms.specs.Polynomials.{Product, expansion, total, IsSamePolynomial, absolute_sum, polynomial_value}
use Rattle.arith_axioms.specs.Ring.{IsRingEquation, IsLeastDifference}

-- every axiom is true in every state and environment
abbrev pub AxiomsAreTrue : Type 0
AxiomsAreTrue =
    (i : ℕ) (a : FormulaTree) (state : State) (environment : Environment)
    → axiom_at i ≡ Some a → Truth a state environment

-- the induction form of every formula is true in every state and environment
abbrev pub InductionIsTrue : Type 0
InductionIsTrue =
    (a : FormulaTree) (state : State) (environment : Environment) → Truth (induction a) state environment

-- every axiom is well-sorted, whatever stands around it
abbrev pub AxiomsAreSorted : Type 0
AxiomsAreSorted =
    (names : List Decl) (variables : List Sort) (i : ℕ) (a : FormulaTree)
    → axiom_at i ≡ Some a → well_sorted names variables a ≡ true

-- the induction form of a formula that is well-sorted under one more integer variable is well-sorted
abbrev pub InductionKeepsSorts : Type 0
InductionKeepsSorts =
    (names : List Decl) (variables : List Sort) (a : FormulaTree)
    → well_sorted names (sort.Int ∷ variables) a ≡ true → well_sorted names variables (induction a) ≡ true

-- a term that computing allows is true in every state and environment
abbrev pub ComputedTermsAreTrue : Type 0
ComputedTermsAreTrue =
    (t : TermTree) (state : State) (environment : Environment)
    → computing t ≡ Ok tt → Truth (holds t) state environment

-- the value of a term as an integer is that of its expansion, in every state and environment
abbrev pub ExpansionKeepsValue : Type 0
ExpansionKeepsValue =
    (t : TermTree) (state : State) (environment : Environment)
    → as_number (value t state environment) ≡ polynomial_value (expansion t) state environment

-- two integer terms that are the same polynomial are equal in every state and environment
abbrev pub SamePolynomialsAreEqual : Type 0
SamePolynomialsAreEqual =
    (names : List Decl) (variables : List Sort) (s t : TermTree)
    → sort_of names variables s ≡ Some sort.Int → sort_of names variables t ≡ Some sort.Int
    → IsSamePolynomial s t
    → (state : State) (environment : Environment) → IsState names state → AreOf variables environment
    → Truth (holds (binary equal s t)) state environment

-- the same for their values as integers, whatever sorts they have
abbrev pub SamePolynomialsHaveOneValue : Type 0
SamePolynomialsHaveOneValue =
    (s t : TermTree) → IsSamePolynomial s t
    → (state : State) (environment : Environment)
    → as_number (value s state environment) ≡ as_number (value t state environment)

-- the expansion of a term has as many monomials as its number of expansions tells
abbrev pub ExpansionLength : Type 0
ExpansionLength = (t : TermTree) → length (expansion t) ≡ term_expansions t

-- the absolute coefficients of the expansion of a term have a sum that is at most its weight
abbrev pub WeightBoundsCoefficients : Type 0
WeightBoundsCoefficients = (t : TermTree) → absolute_sum (expansion t) ≤ term_weight t

-- the absolute value of each total of a term is at most its weight
abbrev pub WeightBoundsTotals : Type 0
WeightBoundsTotals = (p : Product) (t : TermTree) → unsigned_abs (total p t) ≤ term_weight t

-- where `ring` allows it, the equation of two integer terms is true in every state and environment
abbrev pub RingEquationsAreTrue : Type 0
RingEquationsAreTrue =
    (names : List Decl) (variables : List Sort) (s t : TermTree)
    → sort_of names variables s ≡ Some sort.Int → sort_of names variables t ≡ Some sort.Int
    → IsRingEquation s t
    → (state : State) (environment : Environment) → IsState names state → AreOf variables environment
    → Truth (holds (binary equal s t)) state environment

-- two terms have at most one least product with different totals, and these are its totals
abbrev pub LeastDifferenceIsOne : Type 0
LeastDifferenceIsOne =
    (s t : TermTree) (p q : Product) (a b c d : ℤ)
    → IsLeastDifference s t p a b → IsLeastDifference s t q c d → (p ≡ q) × (a ≡ c) × (b ≡ d)
