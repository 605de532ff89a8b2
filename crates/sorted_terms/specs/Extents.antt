-- How large a term is, where it fits: it has at most 16,384 nodes and 256 levels.
use Rattle.std.specs.Prelude.{◌≡◌, ℕ, ◌<◌, ◌⊎◌, Option, IfSome, IfNone}
use Rattle.sorted_terms.specs.declared.extents.Extent.{Extent}
use Rattle.sorted_terms.specs.Tree.{TermTree}
use Rattle.sorted_terms.specs.Sorts.{term_size, term_depth}

-- the numbers of nodes and levels of a term that fits, and none for one that does not
abbrev pub IsExtent : Option Extent → TermTree → Type 0
IsExtent extent t =
    IfSome extent (λ e. (e.nodes ≡ term_size t) × (e.levels ≡ term_depth t))
    × IfNone extent ((16384 < term_size t) ⊎ (256 < term_depth t))
