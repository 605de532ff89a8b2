-- What the code's walk answers, against the computed one.
use Rattle.std.specs.Prelude.{◌≡◌, ℕ, List, Result, Ok, Err}
use Rattle.formulas.specs.declared.formula.Formula.{Formula}
use Rattle.type_checker.specs.declared.typed.Found.{Found}
use Rattle.type_checker.specs.declared.untyped.Untyped.{Untyped}
use Rattle.type_checker.specs.declared.untyped.Untyped.TheVariants.{At, NoMemory}
use Rattle.type_checker.specs.Found.{found_tree}
use Rattle.type_checker.specs.Walk.{Walk}

-- the code's answer is the walk's, but for want of memory
abbrev pub Gives : List Formula → Result (Found × ℕ) Untyped → Walk → Type 0
Gives formulas (Ok r) walk = walk ≡ Ok (found_tree formulas r.0, r.1)
Gives formulas (Err (At place)) walk = walk ≡ Err place
Gives formulas (Err NoMemory) walk = Unit {0}
