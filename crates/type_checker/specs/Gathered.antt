-- The formulas that the rules of a proof put into formulas of their own have numbers, those that fit.
use Rattle.std.specs.Prelude.{List}
use Rattle.formulas.specs.declared.formula.Formula.{Formula}
use Rattle.proof_terms.specs.Tree.{ProofTree, hypothesis, lambda, application, general, special, pair, first, second, left_of, right_of, by_cases, pack, unpack, from_bottom, stable, reflexive, rewriting, an_axiom, induction, computing, ring_equal, hole}
use Rattle.type_checker.specs.Interner.{IsNumbered}

abbrev pub AreNumbered : List Formula → ProofTree → Type 0
AreNumbered formulas (lambda a p) = IsNumbered formulas a × AreNumbered formulas p
AreNumbered formulas (left_of b p) = IsNumbered formulas b × AreNumbered formulas p
AreNumbered formulas (right_of a p) = IsNumbered formulas a × AreNumbered formulas p
AreNumbered formulas (pack s a t p) = IsNumbered formulas a × AreNumbered formulas p
AreNumbered formulas (from_bottom a p) = IsNumbered formulas a × AreNumbered formulas p
AreNumbered formulas (application p q) = AreNumbered formulas p × AreNumbered formulas q
AreNumbered formulas (pair p q) = AreNumbered formulas p × AreNumbered formulas q
AreNumbered formulas (rewriting a p q) = AreNumbered formulas p × AreNumbered formulas q
AreNumbered formulas (unpack p q) = AreNumbered formulas p × AreNumbered formulas q
AreNumbered formulas (by_cases p q r) = AreNumbered formulas p × AreNumbered formulas q × AreNumbered formulas r
AreNumbered formulas (general s p) = AreNumbered formulas p
AreNumbered formulas (special p t) = AreNumbered formulas p
AreNumbered formulas (first p) = AreNumbered formulas p
AreNumbered formulas (second p) = AreNumbered formulas p
AreNumbered formulas (stable p) = AreNumbered formulas p
AreNumbered formulas (hypothesis k) = Unit {0}
AreNumbered formulas (reflexive t) = Unit {0}
AreNumbered formulas (an_axiom i) = Unit {0}
AreNumbered formulas (induction a) = Unit {0}
AreNumbered formulas (computing t) = Unit {0}
AreNumbered formulas (ring_equal s t) = Unit {0}
AreNumbered formulas (hole k) = Unit {0}
