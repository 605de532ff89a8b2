-- What a context of the code stands for, where the innermost and newest come first.
use Rattle.std.specs.Prelude.{ℕ, List, [], ◌∷◌, reverse, map}
use Rattle.ck_base.specs.declared.decl.Sort.{Sort}
use Rattle.formulas.specs.Tree.{FormulaTree, formula_tree}
use Rattle.formulas.specs.Substitution.{shift, HasIndicesBelow}
use Rattle.formulas.specs.declared.context.Context.{Context}

-- the sorts of the bound variables, the innermost first
abbrev pub variables_of : Context → List Sort
variables_of context = reverse context.sorts

-- the hypotheses, the newest first
abbrev pub hypotheses_of : Context → List FormulaTree
hypotheses_of context = reverse (map formula_tree context.hyps)

-- the formulas under one more bound variable, the innermost
abbrev pub raised : List FormulaTree → List FormulaTree
raised formulas = map (λ a. shift a 1 0) formulas

-- every index of every formula is below `bound`
abbrev pub AllIndicesBelow : ℕ → List FormulaTree → Type 0
AllIndicesBelow bound [] = Unit {0}
AllIndicesBelow bound (a ∷ formulas) = HasIndicesBelow bound a × AllIndicesBelow bound formulas
