-- A proof term as a plain tree, which every definition is about, and the tree of a proof of the code.
use Rattle.std.specs.Prelude.{ℕ}
use Rattle.ck_base.specs.declared.decl.Sort.{Sort}
use Rattle.sorted_terms.specs.Tree.{TermTree, term_tree}
use Rattle.formulas.specs.Tree.{FormulaTree, formula_tree}
use Rattle.proof_terms.specs.declared.proof.Proof.{Proof}
use Rattle.proof_terms.specs.declared.proof.Proof.TheVariants.{Hyp, Lam', App', Gen', Inst', Pair', First', Second', LeftOf', RightOf', Cases', Pack', Unpack', Absurd', Stable', Refl, Rewrite', Axiom, Induct, Compute, Ring, Hole}

pub data ProofTree : Type 0 where
  hypothesis : (place : ℕ) → ProofTree
  lambda : (a : FormulaTree) (p : ProofTree) → ProofTree
  application : (p q : ProofTree) → ProofTree
  general : (s : Sort) (p : ProofTree) → ProofTree
  special : (p : ProofTree) (t : TermTree) → ProofTree
  pair : (p q : ProofTree) → ProofTree
  first : (p : ProofTree) → ProofTree
  second : (p : ProofTree) → ProofTree
  left_of : (b : FormulaTree) (p : ProofTree) → ProofTree
  right_of : (a : FormulaTree) (p : ProofTree) → ProofTree
  by_cases : (p q r : ProofTree) → ProofTree
  pack : (s : Sort) (a : FormulaTree) (t : TermTree) (p : ProofTree) → ProofTree
  unpack : (p q : ProofTree) → ProofTree
  from_bottom : (a : FormulaTree) (p : ProofTree) → ProofTree
  stable : (p : ProofTree) → ProofTree
  reflexive : (t : TermTree) → ProofTree
  rewriting : (a : FormulaTree) (p q : ProofTree) → ProofTree
  an_axiom : (number : ℕ) → ProofTree
  induction : (a : FormulaTree) → ProofTree
  computing : (t : TermTree) → ProofTree
  ring_equal : (s t : TermTree) → ProofTree
  hole : (number : ℕ) → ProofTree

abbrev pub proof_tree : Proof → ProofTree
proof_tree (Hyp k) = hypothesis k
proof_tree (Lam' a p q) = lambda (formula_tree a) (proof_tree q)
proof_tree (App' m p n q) = application (proof_tree p) (proof_tree q)
proof_tree (Gen' s m p) = general s (proof_tree p)
proof_tree (Inst' m p t) = special (proof_tree p) (term_tree t)
proof_tree (Pair' m p n q) = pair (proof_tree p) (proof_tree q)
proof_tree (First' m p) = first (proof_tree p)
proof_tree (Second' m p) = second (proof_tree p)
proof_tree (LeftOf' b m p) = left_of (formula_tree b) (proof_tree p)
proof_tree (RightOf' a m p) = right_of (formula_tree a) (proof_tree p)
proof_tree (Cases' m p n q o r) = by_cases (proof_tree p) (proof_tree q) (proof_tree r)
proof_tree (Pack' s a t m p) = pack s (formula_tree a) (term_tree t) (proof_tree p)
proof_tree (Unpack' m p n q) = unpack (proof_tree p) (proof_tree q)
proof_tree (Absurd' a m p) = from_bottom (formula_tree a) (proof_tree p)
proof_tree (Stable' m p) = stable (proof_tree p)
proof_tree (Refl t) = reflexive (term_tree t)
proof_tree (Rewrite' a m p n q) = rewriting (formula_tree a) (proof_tree p) (proof_tree q)
proof_tree (Axiom i) = an_axiom i
proof_tree (Induct a) = induction (formula_tree a)
proof_tree (Compute t) = computing (term_tree t)
proof_tree (Ring s t) = ring_equal (term_tree s) (term_tree t)
proof_tree (Hole k) = hole k
