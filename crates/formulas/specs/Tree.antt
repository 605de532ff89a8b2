-- A formula as a plain tree, which every definition is about, and the tree of a formula of the code.
use Rattle.ck_base.specs.declared.decl.Sort.{Sort}
use Rattle.sorted_terms.specs.Tree.{TermTree, term_tree}
use Rattle.formulas.specs.declared.formula.Formula.{Formula}
use Rattle.formulas.specs.declared.formula.Formula.TheVariants.{Bottom, Holds, Imp', Conj', Disj', All', Ex'}

pub data Connective : Type 0 where
  implies : Connective
  and_also : Connective
  or_else : Connective

pub data Quantifier : Type 0 where
  for_all : Quantifier
  there_is : Quantifier

-- falsity, a term that is true, two formulas joined, and a quantifier over a sort
pub data FormulaTree : Type 0 where
  bottom : FormulaTree
  holds : (t : TermTree) → FormulaTree
  joined : (c : Connective) (a b : FormulaTree) → FormulaTree
  quantified : (q : Quantifier) (s : Sort) (a : FormulaTree) → FormulaTree

abbrev pub formula_tree : Formula → FormulaTree
formula_tree Bottom = bottom
formula_tree (Holds t) = holds (term_tree t)
formula_tree (Imp' p a q b) = joined implies (formula_tree a) (formula_tree b)
formula_tree (Conj' p a q b) = joined and_also (formula_tree a) (formula_tree b)
formula_tree (Disj' p a q b) = joined or_else (formula_tree a) (formula_tree b)
formula_tree (All' s p a) = quantified for_all s (formula_tree a)
formula_tree (Ex' s p a) = quantified there_is s (formula_tree a)

-- negation
abbrev pub not_so : FormulaTree → FormulaTree
not_so a = joined implies a bottom

-- a connective, and a quantifier
abbrev pub IsJoined : FormulaTree → Type 0
IsJoined (joined c a b) = Unit {0}
IsJoined a = ⊥

abbrev pub IsQuantified : FormulaTree → Type 0
IsQuantified (quantified q s a) = Unit {0}
IsQuantified a = ⊥

-- the formula's own connective, between two other parts
abbrev pub with_parts : FormulaTree → FormulaTree → FormulaTree → FormulaTree
with_parts (joined c a b) left right = joined c left right
with_parts a left right = a

-- the formula's own quantifier, over another part
abbrev pub with_part : FormulaTree → FormulaTree → FormulaTree
with_part (quantified q s a) part = quantified q s part
with_part a part = a
