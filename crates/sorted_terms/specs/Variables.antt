-- The sorts of the bound variables in a scope of the code.
use Rattle.std.specs.Prelude.{List, ◌∷◌, reverse}
use Rattle.ck_base.specs.declared.decl.Sort.{Sort}
use Rattle.sorted_terms.specs.declared.variables.Variables.{Variables}
use Rattle.sorted_terms.specs.declared.variables.Variables.TheVariants.{Outer, Under'}

-- the innermost first
abbrev pub sorts_in : Variables → List Sort
sorts_in (Outer sorts) = reverse sorts.now
sorts_in (Under' s p outer) = s ∷ sorts_in outer
