-- The typing rules, computed: which formula a node has, where its parts have theirs, and none where a
-- condition of its rule fails.
use Rattle.std.specs.Prelude.{Bool, true, false, ◌&&◌, not, if◌then◌else◌, ◌+◌, ◌^◌, nat_lt, nat_le, List, ◌∷◌, Option, Some, None, slice_get, Result, Ok, Err}
use Rattle.std.specs.List.{list_all}
use Rattle.ck_base.specs.declared.decl.Sort.{Sort}
use Rattle.ck_base.specs.declared.decl.Sort.TheVariants as sort
use Rattle.ck_base.specs.declared.decl.Decl.{Decl}
use Rattle.sorted_terms.specs.Tree.{TermTree, boolean, binary, equal}
use Rattle.sorted_terms.specs.Sorts.{sort_of, has_sort}
use Rattle.sorted_terms.specs.Values.{same_integer}
use Rattle.sorted_terms.specs.Weights.{term_weight, term_expansions}
use Rattle.formulas.specs.Tree.{FormulaTree, bottom, holds, joined, implies, and_also, or_else, quantified, for_all, there_is}
use Rattle.formulas.specs.Sorts.{well_sorted, fits}
use Rattle.formulas.specs.Substitution.{occurs, instance}
use Rattle.arith_axioms.specs.declared.no_compute.NoCompute.{NoCompute}
use Rattle.arith_axioms.specs.Axioms.{axiom_at, induction as induction_form}
use Rattle.arith_axioms.specs.Computing.{computing as computed}
use Rattle.arith_axioms.specs.Polynomials.{Product, Polynomial, expansion, total}
use Rattle.proof_terms.specs.Tree.{ProofTree, hypothesis, special, pair, application, first, second, left_of, right_of, pack, from_bottom, stable, reflexive, rewriting, an_axiom, induction, computing, ring_equal}
use Rattle.type_checker.specs.Same.{same_formula}

-- a formula where it fits
abbrev pub fitting : Option FormulaTree → Option FormulaTree
fitting None = None
fitting (Some a) = if fits a then Some a else None

-- a formula under a condition
abbrev pub given : Bool → FormulaTree → Option FormulaTree
given condition a = if condition then Some a else None

abbrev pub computes : Result (Unit {0}) NoCompute → Bool
computes (Ok u) = true
computes (Err fault) = false

-- the product has the same total in both terms
abbrev pub same_total : TermTree → TermTree → Product → Bool
same_total s t p = same_integer (total p s) (total p t)

-- each product of the polynomial has the same total in both terms
abbrev pub same_totals : TermTree → TermTree → Polynomial → Bool
same_totals s t es = list_all (λ m. same_total s t m.1) es

-- both bounds hold, and each product that occurs in either term has the same total in both
unfoldable pub is_ring_equation : TermTree → TermTree → Bool
is_ring_equation s t =
    nat_lt (term_weight s + term_weight t) (2 ^ 127) && (nat_le (term_expansions s + term_expansions t) 4096 && (same_totals s t (expansion s) && same_totals s t (expansion t)))

-- the formula of a node without parts
abbrev pub of_leaf : List Decl → List Sort → List FormulaTree → ProofTree → Option FormulaTree
of_leaf names variables hypotheses (hypothesis k) = slice_get hypotheses k
of_leaf names variables hypotheses (reflexive t) = given (has_sort (sort_of names variables t) sort.Int) (holds (binary equal t t))
of_leaf names variables hypotheses (an_axiom i) = axiom_at i
of_leaf names variables hypotheses (induction a) = given (well_sorted names (sort.Int ∷ variables) a) (induction_form a)
of_leaf names variables hypotheses (computing t) = given (has_sort (sort_of names variables t) sort.Bool && computes (computed t)) (holds t)
of_leaf names variables hypotheses (ring_equal s t) =
    given (has_sort (sort_of names variables s) sort.Int && (has_sort (sort_of names variables t) sort.Int && is_ring_equation s t)) (holds (binary equal s t))
of_leaf names variables hypotheses p = None

-- the body of a universal formula, at a term of its sort
abbrev pub special_of : List Decl → List Sort → TermTree → FormulaTree → Option FormulaTree
special_of names variables t (quantified for_all s a) = given (has_sort (sort_of names variables t) s) (instance a t 0)
special_of names variables t f = None

abbrev pub first_of : FormulaTree → Option FormulaTree
first_of (joined and_also a b) = Some a
first_of f = None

abbrev pub second_of : FormulaTree → Option FormulaTree
second_of (joined and_also a b) = Some b
second_of f = None

-- what is denied
abbrev pub denied_of : FormulaTree → Option FormulaTree
denied_of (joined implies a bottom) = Some a
denied_of f = None

abbrev pub and_then : Option FormulaTree → (FormulaTree → Option FormulaTree) → Option FormulaTree
and_then None next = None
and_then (Some a) next = next a

-- the formula of a node with one part, which stands under the same variables and hypotheses, where the part has this one
abbrev pub of_one : List Decl → List Sort → ProofTree → FormulaTree → Option FormulaTree
of_one names variables (special p t) f = special_of names variables t f
of_one names variables (first p) f = first_of f
of_one names variables (second p) f = second_of f
of_one names variables (left_of b p) f = given (well_sorted names variables b) (joined or_else f b)
of_one names variables (right_of a p) f = given (well_sorted names variables a) (joined or_else a f)
of_one names variables (pack s a t p) f =
    given (well_sorted names (s ∷ variables) a && (has_sort (sort_of names variables t) s && same_formula (instance a t 0) f)) (quantified there_is s a)
of_one names variables (from_bottom a p) f = given (well_sorted names variables a && same_formula bottom f) a
of_one names variables (stable p) f = and_then (denied_of f) denied_of
of_one names variables p f = None

-- the right side of an implication that has that left side
abbrev pub applied : FormulaTree → FormulaTree → Option FormulaTree
applied (joined implies a b) c = given (same_formula a c) b
applied f c = None

-- an instance at the right side of an equation, from the one at its left side
abbrev pub rewritten : List Decl → List Sort → FormulaTree → FormulaTree → FormulaTree → Option FormulaTree
rewritten names variables a (holds (binary equal s t)) c =
    given (well_sorted names (sort.Int ∷ variables) a && same_formula (instance a s 0) c) (instance a t 0)
rewritten names variables a f c = None

-- the same for a node with two parts
abbrev pub of_two : List Decl → List Sort → ProofTree → FormulaTree → FormulaTree → Option FormulaTree
of_two names variables (application p q) f g = applied f g
of_two names variables (pair p q) f g = Some (joined and_also f g)
of_two names variables (rewriting a p q) f g = rewritten names variables a f g
of_two names variables p f g = None

-- the formula of both cases, where they have the same
abbrev pub of_cases : FormulaTree → FormulaTree → Option FormulaTree
of_cases f g = given (same_formula f g) f

-- The formula without the new variable, where it does not occur: lower by one, whatever stands in its place.
abbrev pub of_unpacked : FormulaTree → Option FormulaTree
of_unpacked f = given (not (occurs 0 f)) (instance f (boolean true) 0)
