-- What holds of the meanings of lines.
use Rattle.std.specs.Prelude.{◌≡◌, ℕ, List}
use Rattle.std.specs.declared.option.Option.{Option}
use Rattle.script_reader.specs.declared.lines.OpenHole.{OpenHole}
use Rattle.script_reader.specs.Lines.{LineTree, Means}

-- where the same hole is open, a line means at most one thing
abbrev pub OneMeaning : Type 0
OneMeaning = (opened : Option OpenHole) (line : List ℕ) (a b : LineTree) → Means opened line a → Means opened line b → a ≡ b
