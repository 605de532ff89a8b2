-- Well-sorted formulas, their size and depth, and which ones fit.
use Rattle.std.specs.Prelude.{ℕ, ◌+◌, max, Bool, true, ◌&&◌, nat_le, List, ◌∷◌}
use Rattle.ck_base.specs.declared.decl.Sort.{Sort}
use Rattle.ck_base.specs.declared.decl.Sort.TheVariants as sort
use Rattle.ck_base.specs.declared.decl.Decl.{Decl}
use Rattle.sorted_terms.specs.Sorts.{sort_of, has_sort, term_size, term_depth}
use Rattle.formulas.specs.Tree.{FormulaTree, bottom, holds, joined, quantified}

-- every term of the formula has its sort, under declarations and the sorts of the bound variables, the innermost first
abbrev pub well_sorted : List Decl → List Sort → FormulaTree → Bool
well_sorted names variables bottom = true
well_sorted names variables (holds t) = has_sort (sort_of names variables t) sort.Bool
well_sorted names variables (joined c a b) = well_sorted names variables a && well_sorted names variables b
well_sorted names variables (quantified q s a) = well_sorted names (s ∷ variables) a

-- the number of formula and term nodes
abbrev pub size : FormulaTree → ℕ
size bottom = 1
size (holds t) = 1 + term_size t
size (joined c a b) = 1 + size a + size b
size (quantified q s a) = 1 + size a

-- the number of nodes on the longest path from the root
abbrev pub depth : FormulaTree → ℕ
depth bottom = 1
depth (holds t) = 1 + term_depth t
depth (joined c a b) = 1 + max (depth a) (depth b)
depth (quantified q s a) = 1 + depth a

-- a formula fits where it has at most 16,384 nodes and depth at most 256
unfoldable pub fits : FormulaTree → Bool
fits a = nat_le (size a) 16384 && nat_le (depth a) 256
