-- The hypotheses that a scope of the code means, where the interner holds these formulas.
use Rattle.std.specs.Prelude.{ℕ, suc, List, ◌∷◌}
use Rattle.formulas.specs.declared.formula.Formula.{Formula}
use Rattle.formulas.specs.Tree.{FormulaTree, formula_tree}
use Rattle.formulas.specs.Context.{hypotheses_of, raised}
use Rattle.type_checker.specs.Found.{found_tree}
use Rattle.type_checker.specs.declared.scope.Scope.{Scope}
use Rattle.type_checker.specs.declared.scope.Scope.TheVariants.{Outer, Under', Over'}
use Rattle.type_checker.specs.declared.scope.Assumed.{Assumed}
use Rattle.type_checker.specs.declared.scope.Assumed.TheVariants as assumed

-- the newest first
abbrev pub hypotheses_under : List Formula → Scope → List FormulaTree
hypotheses_under formulas (Outer context) = hypotheses_of context.now
hypotheses_under formulas (Under' a p rest) = found_tree formulas a.now ∷ hypotheses_under formulas rest
hypotheses_under formulas (Over' p rest) = raised (hypotheses_under formulas rest)

-- the number of variables that are bound since the context
abbrev pub variables_over : Scope → ℕ
variables_over (Outer context) = 0
variables_over (Under' a p rest) = variables_over rest
variables_over (Over' p rest) = suc (variables_over rest)

-- a formula as it stood when it was assumed
abbrev pub assumed_tree : List Formula → Assumed → FormulaTree
assumed_tree formulas (assumed.Given a) = formula_tree a.now
assumed_tree formulas (assumed.Found a) = found_tree formulas a.now
