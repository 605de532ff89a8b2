-- The typing relation: formulas are types, an implication is a product and a universal formula a dependent
-- one (Barendregt 1992). A proof has a formula under declarations, the sorts of the bound variables and the
-- hypotheses, the innermost and newest first. Every formula of a rule fits. The rules that compute, and the
-- disjunction and the existential formula with the rules of classical logic, are our own choice.
use Rattle.std.specs.Prelude.{◌≡◌, true, List, ◌∷◌, Some, Ok, slice_get}
use Rattle.ck_base.specs.declared.decl.Sort.{Sort}
use Rattle.ck_base.specs.declared.decl.Sort.TheVariants as sort
use Rattle.ck_base.specs.declared.decl.Decl.{Decl}
use Rattle.sorted_terms.specs.Tree.{TermTree, binary, equal}
use Rattle.sorted_terms.specs.Sorts.{sort_of}
use Rattle.formulas.specs.Tree.{FormulaTree, bottom, holds, joined, implies, and_also, or_else, quantified, for_all, there_is, not_so}
use Rattle.formulas.specs.Sorts.{well_sorted, fits}
use Rattle.formulas.specs.Substitution.{shift, instance}
use Rattle.formulas.specs.Context.{raised}
use Rattle.arith_axioms.specs.Axioms.{axiom_at, induction as induction_form}
use Rattle.arith_axioms.specs.Computing.{computing as computed}
use Rattle.arith_axioms.specs.Ring.{IsRingEquation}
use Rattle.proof_terms.specs.Tree.{ProofTree, hypothesis, lambda, application, general, special, pair, first, second, left_of, right_of, by_cases, pack, unpack, from_bottom, stable, reflexive, rewriting, an_axiom, induction, computing, ring_equal}

-- A proof has a formula. A hole has none.
abbrev pub Has : List Decl → List Sort → List FormulaTree → ProofTree → FormulaTree → Type 0
-- the hypothesis itself
Has names variables hypotheses (hypothesis k) a = (fits a ≡ true) × (slice_get hypotheses k ≡ Some a)
-- a well-sorted formula implies what its part has under it as the newest hypothesis
Has names variables hypotheses (lambda a p) c =
    (fits c ≡ true) × (well_sorted names variables a ≡ true) × (b : FormulaTree) × Has names variables (a ∷ hypotheses) p b × (c ≡ joined implies a b)
-- an implication whose left side the right part has gives its right side
Has names variables hypotheses (application p q) b =
    (fits b ≡ true) × (a : FormulaTree) × Has names variables hypotheses p (joined implies a b) × Has names variables hypotheses q a
-- what the part has under one more variable holds of all its values; no hypothesis speaks of the new variable
Has names variables hypotheses (general s p) c =
    (fits c ≡ true) × (a : FormulaTree) × Has names (s ∷ variables) (raised hypotheses) p a × (c ≡ quantified for_all s a)
-- what holds of all values holds of the value of a term of that sort
Has names variables hypotheses (special p t) c =
    (fits c ≡ true) × (s : Sort) × (a : FormulaTree) × Has names variables hypotheses p (quantified for_all s a) × (sort_of names variables t ≡ Some s) × (c ≡ instance a t 0)
-- both
Has names variables hypotheses (pair p q) c =
    (fits c ≡ true) × (a : FormulaTree) × (b : FormulaTree) × Has names variables hypotheses p a × Has names variables hypotheses q b × (c ≡ joined and_also a b)
-- the left one and the right one of both
Has names variables hypotheses (first p) a = (fits a ≡ true) × (b : FormulaTree) × Has names variables hypotheses p (joined and_also a b)
Has names variables hypotheses (second p) b = (fits b ≡ true) × (a : FormulaTree) × Has names variables hypotheses p (joined and_also a b)
-- the left one, or a well-sorted formula on its right
Has names variables hypotheses (left_of b p) c =
    (fits c ≡ true) × (well_sorted names variables b ≡ true) × (a : FormulaTree) × Has names variables hypotheses p a × (c ≡ joined or_else a b)
-- a well-sorted formula on the left, or the right one
Has names variables hypotheses (right_of a p) c =
    (fits c ≡ true) × (well_sorted names variables a ≡ true) × (b : FormulaTree) × Has names variables hypotheses p b × (c ≡ joined or_else a b)
-- one of two, and what follows from each of them
Has names variables hypotheses (by_cases p q r) c =
    (fits c ≡ true) × (a : FormulaTree) × (b : FormulaTree) × Has names variables hypotheses p (joined or_else a b) × Has names variables (a ∷ hypotheses) q c × Has names variables (b ∷ hypotheses) r c
-- a formula of which a term of that sort gives an instance holds of some value
Has names variables hypotheses (pack s a t p) c =
    (fits c ≡ true) × (well_sorted names (s ∷ variables) a ≡ true) × (sort_of names variables t ≡ Some s) × Has names variables hypotheses p (instance a t 0) × (c ≡ quantified there_is s a)
-- What holds of some value, and what follows from it for a new variable, which the conclusion does not name.
Has names variables hypotheses (unpack p q) c =
    (fits c ≡ true) × (s : Sort) × (a : FormulaTree) × Has names variables hypotheses p (quantified there_is s a) × Has names (s ∷ variables) (a ∷ raised hypotheses) q (shift c 1 0)
-- every well-sorted formula, from falsity
Has names variables hypotheses (from_bottom a p) c =
    (fits c ≡ true) × (well_sorted names variables a ≡ true) × Has names variables hypotheses p bottom × (c ≡ a)
-- what is not false
Has names variables hypotheses (stable p) a = (fits a ≡ true) × Has names variables hypotheses p (not_so (not_so a))
-- an integer term is equal to itself
Has names variables hypotheses (reflexive t) c =
    (fits c ≡ true) × (sort_of names variables t ≡ Some sort.Int) × (c ≡ holds (binary equal t t))
-- what holds of the left side of an equation holds of its right side
Has names variables hypotheses (rewriting a p q) c =
    (fits c ≡ true) × (well_sorted names (sort.Int ∷ variables) a ≡ true) × (s : TermTree) × (t : TermTree) × Has names variables hypotheses p (holds (binary equal s t)) × Has names variables hypotheses q (instance a s 0) × (c ≡ instance a t 0)
-- an axiom, by its number
Has names variables hypotheses (an_axiom i) a = (fits a ≡ true) × (axiom_at i ≡ Some a)
-- the induction form of a formula about one more integer variable
Has names variables hypotheses (induction a) c =
    (fits c ≡ true) × (well_sorted names (sort.Int ∷ variables) a ≡ true) × (c ≡ induction_form a)
-- a term whose computed value is true
Has names variables hypotheses (computing t) c =
    (fits c ≡ true) × (sort_of names variables t ≡ Some sort.Bool) × (computed t ≡ Ok tt) × (c ≡ holds t)
-- two integer terms that are the same polynomial are equal, where their expansions are small enough
Has names variables hypotheses (ring_equal s t) c =
    (fits c ≡ true) × (sort_of names variables s ≡ Some sort.Int) × (sort_of names variables t ≡ Some sort.Int) × IsRingEquation s t × (c ≡ holds (binary equal s t))
Has names variables hypotheses p a = ⊥
