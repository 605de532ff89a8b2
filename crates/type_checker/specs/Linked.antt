-- What the table of an interner keeps: its nodes, each with the extent of its formula.
use Rattle.std.specs.Prelude.{◌≡◌, List, [], ◌∷◌, map}
use Rattle.formulas.specs.Tree.{formula_tree}
use Rattle.formulas.specs.Sorts.{size, depth}
use Rattle.formulas.specs.declared.formula.Formula.{Formula}
use Rattle.type_checker.specs.Interner.{HasParts}
use Rattle.type_checker.specs.declared.hashed.Node.{Node}
use Rattle.type_checker.specs.declared.interner.Extent.{Extent}

abbrev pub formulas_of : List (Node × Extent) → List Formula
formulas_of entries = map (λ e. e.0.formula.now) entries

-- the node's numbers are those of its formula's parts, and the extent is that of its formula
abbrev pub IsLinked : List Formula → Node × Extent → Type 0
IsLinked formulas e =
    HasParts formulas (formula_tree e.0.formula.now) e.0.left e.0.right
    × (e.1.nodes ≡ size (formula_tree e.0.formula.now)) × (e.1.levels ≡ depth (formula_tree e.0.formula.now))

abbrev pub AreLinked : List Formula → List (Node × Extent) → Type 0
AreLinked formulas [] = Unit {0}
AreLinked formulas (e ∷ entries) = IsLinked formulas e × AreLinked formulas entries
