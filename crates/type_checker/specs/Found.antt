-- The formula that a found one of the code stands for, where the interner holds these formulas.
use Rattle.std.specs.Prelude.{List, Option, Some, None, slice_get}
use Rattle.formulas.specs.declared.formula.Formula.{Formula}
use Rattle.formulas.specs.Tree.{FormulaTree, formula_tree, implies, and_also, or_else, for_all, there_is, bottom, holds, joined, quantified}
use Rattle.sorted_terms.specs.Tree.{term_tree}
use Rattle.type_checker.specs.Interner.{formula_at}
use Rattle.type_checker.specs.declared.typed.Found.{Found}
use Rattle.type_checker.specs.declared.typed.Found.TheVariants.{Interned, Known, Built, Imp', Conj', Disj', All', Ex'}
use Rattle.type_checker.specs.declared.heads.Head.{Head}
use Rattle.type_checker.specs.declared.heads.Head.TheVariants as head

abbrev pub found_tree : List Formula → Found → FormulaTree
found_tree formulas (Interned number) = formula_at formulas number
found_tree formulas (Known a) = formula_tree a.now
found_tree formulas (Built a) = formula_tree a
found_tree formulas (Imp' p a q b) = joined implies (found_tree formulas a) (found_tree formulas b)
found_tree formulas (Conj' p a q b) = joined and_also (found_tree formulas a) (found_tree formulas b)
found_tree formulas (Disj' p a q b) = joined or_else (found_tree formulas a) (found_tree formulas b)
found_tree formulas (All' s p a) = quantified for_all s (found_tree formulas a)
found_tree formulas (Ex' s p a) = quantified there_is s (found_tree formulas a)

-- the formula of the proof or its context that the found one is, where it was not made
abbrev pub standing : List Formula → Found → Option Formula
standing formulas (Interned number) = slice_get formulas number
standing formulas (Known a) = Some a.now
standing formulas a = None

-- the formula with a head over found parts
abbrev pub head_tree : List Formula → Head → FormulaTree
head_tree formulas head.Bottom = bottom
head_tree formulas (head.Holds t) = holds (term_tree t.now)
head_tree formulas (head.Owned t) = holds (term_tree t)
head_tree formulas (head.Imp a b) = joined implies (found_tree formulas a) (found_tree formulas b)
head_tree formulas (head.Conj a b) = joined and_also (found_tree formulas a) (found_tree formulas b)
head_tree formulas (head.Disj a b) = joined or_else (found_tree formulas a) (found_tree formulas b)
head_tree formulas (head.All s a) = quantified for_all s (found_tree formulas a)
head_tree formulas (head.Ex s a) = quantified there_is s (found_tree formulas a)
