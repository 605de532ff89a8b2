-- What holds of the levels of texts, of names that mean nothing, and of the reader over items.
use Rattle.std.specs.Prelude.{◌≡◌, ◌↔◌, ℕ, ◌*◌, ◌≤◌, length, Bool, List, Some, is_none}
use Rattle.std.specs.declared.result.Result.{Result}
use Rattle.std.specs.List.{list_all}
use Rattle.sorted_terms.specs.Tree.{TermTree}
use Rattle.sorted_terms.specs.Sorts.{term_depth, term_size}
use Rattle.formulas.specs.Tree.{FormulaTree}
use Rattle.formulas.specs.Sorts.{depth, size}
use Rattle.ck_text.specs.Texts.{Text, tokens, Bindings, term_of, formula_of, names_in, is_known}
use Rattle.ck_text.specs.Reading.{term_levels, formula_levels, unknown_at, Tree, Fault, IsOutcome}
use Rattle.ck_text.specs.Items.{read_bytes}

-- the levels of a text are the depth of the term that it means
abbrev pub TermLevels : Type 0
TermLevels = (scope : Bindings) (a : Text) (t : TermTree) → term_of scope a ≡ Some t → term_depth t ≡ term_levels a

-- and of the formula
abbrev pub FormulaLevels : Type 0
FormulaLevels = (scope : Bindings) (a : Text) (f : FormulaTree) → formula_of scope a ≡ Some f → depth f ≡ formula_levels a

-- a term has no more nodes than its text has tokens
abbrev pub TermNodes : Type 0
TermNodes = (scope : Bindings) (a : Text) (t : TermTree) → term_of scope a ≡ Some t → term_size t ≤ length (tokens a)

-- a formula has at most twice as many
abbrev pub FormulaNodes : Type 0
FormulaNodes = (scope : Bindings) (a : Text) (f : FormulaTree) → formula_of scope a ≡ Some f → size f ≤ 2 * length (tokens a)

-- no name is the first that means nothing exactly where each means something
abbrev pub UnknownNames : Type 0
UnknownNames = (first : ℕ) (scope : Bindings) (a : Text) → is_none (unknown_at first scope a) ≡ list_all is_known (names_in scope a)

-- what the reader over items answers is what reading comes to, and nothing else is
abbrev pub ReadsOutcomes : Type 0
ReadsOutcomes =
    (limit most : ℕ) (term : Bool) (scope : Bindings) (bytes : List ℕ) (outcome : Result Tree Fault)
    → (read_bytes limit most term scope bytes ≡ outcome) ↔ IsOutcome limit most term scope bytes outcome

-- reading the bytes comes to one thing, and to no other
abbrev pub OneOutcome : Type 0
OneOutcome =
    (limit most : ℕ) (term : Bool) (scope : Bindings) (bytes : List ℕ)
    → (outcome : Result Tree Fault) × IsOutcome limit most term scope bytes outcome
    × ((other : Result Tree Fault) → IsOutcome limit most term scope bytes other → other ≡ outcome)
