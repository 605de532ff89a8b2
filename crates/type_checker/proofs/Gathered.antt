-- What has a number keeps it, and so the formulas of a proof do.
use Rattle.std.proofs.Common.{ℕ, List, Result, Ok, Err, OnOk}
use Rattle.formulas.specs.Tree.{FormulaTree}
use Rattle.formulas.specs.declared.formula.Formula.{Formula}
use Rattle.proof_terms.specs.Tree.{ProofTree, hypothesis, lambda, application, general, special, pair, first, second, left_of, right_of, by_cases, pack, unpack, from_bottom, stable, reflexive, rewriting, an_axiom, induction, computing, ring_equal, hole}
use Rattle.type_checker.specs.Interner.{IsAt, IsNumbered}
use Rattle.type_checker.specs.Gathered.{AreNumbered}

module _ (old new : List Formula) (kept : (i : ℕ) (f : FormulaTree) → IsAt old i f → IsAt new i f) where
  pub number_kept : (a : FormulaTree) → IsNumbered old a → IsNumbered new a
  number_kept a h = λ f. let n = h f in (n.0, kept n.0 a n.1)

  pub numbers_kept : (p : ProofTree) → AreNumbered old p → AreNumbered new p
  numbers_kept (lambda a p) h = (number_kept a h.0, numbers_kept p h.1)
  numbers_kept (left_of b p) h = (number_kept b h.0, numbers_kept p h.1)
  numbers_kept (right_of a p) h = (number_kept a h.0, numbers_kept p h.1)
  numbers_kept (pack s a t p) h = (number_kept a h.0, numbers_kept p h.1)
  numbers_kept (from_bottom a p) h = (number_kept a h.0, numbers_kept p h.1)
  numbers_kept (application p q) h = (numbers_kept p h.0, numbers_kept q h.1)
  numbers_kept (pair p q) h = (numbers_kept p h.0, numbers_kept q h.1)
  numbers_kept (rewriting a p q) h = (numbers_kept p h.0, numbers_kept q h.1)
  numbers_kept (unpack p q) h = (numbers_kept p h.0, numbers_kept q h.1)
  numbers_kept (by_cases p q r) h = (numbers_kept p h.0, numbers_kept q h.1, numbers_kept r h.2)
  numbers_kept (general s p) h = numbers_kept p h
  numbers_kept (special p t) h = numbers_kept p h
  numbers_kept (first p) h = numbers_kept p h
  numbers_kept (second p) h = numbers_kept p h
  numbers_kept (stable p) h = numbers_kept p h
  numbers_kept (hypothesis k) h = h
  numbers_kept (reflexive t) h = h
  numbers_kept (an_axiom i) h = h
  numbers_kept (induction a) h = h
  numbers_kept (computing t) h = h
  numbers_kept (ring_equal s t) h = h
  numbers_kept (hole k) h = h

pub on_ok : {T E P Q : Type 0} (r : Result T E) → (P → Q) → OnOk r P → OnOk r Q
on_ok (Ok x) f h = f h
on_ok (Err e) f h = h
