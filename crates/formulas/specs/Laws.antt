-- What substitution does to the truth and sorts of formulas, and that truth is stable and, without quantifiers, computed.
use Rattle.std.specs.Prelude.{◌≡◌, ◌↔◌, ℕ, ◌<◌, true, false, List, ◌∷◌, ◌++◌, length, Some, slice_set}
use Rattle.ck_base.specs.declared.decl.Sort.{Sort}
use Rattle.ck_base.specs.declared.decl.Decl.{Decl}
use Rattle.sorted_terms.specs.Tree.{TermTree, name}
use Rattle.sorted_terms.specs.Values.{State, Environment, value}
use Rattle.sorted_terms.specs.Sorts.{sort_of}
use Rattle.formulas.specs.Tree.{FormulaTree}
use Rattle.formulas.specs.Truth.{Truth}
use Rattle.formulas.specs.Computed.{has_quantifier, computed}
use Rattle.formulas.specs.Sorts.{well_sorted}
use Rattle.formulas.specs.Substitution.{shift, instance, replaced, occurs}

-- the substitution lemma: an instance is true where the formula is with the value of what was inserted for its innermost variable
abbrev pub TruthOfInstance : Type 0
TruthOfInstance =
    (a : FormulaTree) (inserted : TermTree) (state : State) (environment : Environment)
    → Truth (instance a inserted 0) state environment ↔ Truth a state (value inserted state environment ∷ environment)

-- weakening: a shifted formula is true where the formula is, whatever values the new variables have
abbrev pub TruthOfShift : Type 0
TruthOfShift =
    (a : FormulaTree) (state : State) (front new back : Environment)
    → Truth (shift a (length new) (length front)) state (front ++ (new ++ back)) ↔ Truth a state (front ++ back)

-- assignment: a formula where a term stands for a declared name is true where the formula is after the term's value was assigned to the name
abbrev pub TruthOfReplacement : Type 0
TruthOfReplacement =
    (a : FormulaTree) (x : ℕ) (inserted : TermTree) (state : State) (environment : Environment)
    → x < length state
    → Truth (replaced a x inserted 0) state environment ↔ Truth a (slice_set state x (value inserted state environment)) environment

-- a formula that cannot be false is true
abbrev pub TruthIsStable : Type 0
TruthIsStable =
    (a : FormulaTree) (state : State) (environment : Environment)
    → ((Truth a state environment → ⊥) → ⊥) → Truth a state environment

-- a formula without quantifiers is true exactly where its computed truth value is
abbrev pub TruthIsComputed : Type 0
TruthIsComputed =
    (a : FormulaTree) (state : State) (environment : Environment)
    → has_quantifier a ≡ false
    → Truth a state environment ↔ (computed a state environment ≡ true)

-- a shifted formula is well-sorted where the formula is, whatever sorts the new variables have
abbrev pub ShiftKeepsSorts : Type 0
ShiftKeepsSorts =
    (names : List Decl) (a : FormulaTree) (front new back : List Sort)
    → well_sorted names (front ++ (new ++ back)) (shift a (length new) (length front)) ≡ well_sorted names (front ++ back) a

-- an instance is well-sorted where the formula is with the sort of what was inserted for the variable at the place
abbrev pub InstanceKeepsSorts : Type 0
InstanceKeepsSorts =
    (names : List Decl) (a : FormulaTree) (inserted : TermTree) (s : Sort) (front back : List Sort)
    → sort_of names back inserted ≡ Some s
    → well_sorted names (front ++ back) (instance a inserted (length front)) ≡ well_sorted names (front ++ s ∷ back) a

-- a formula where a term of the same sort stands for a declared name is well-sorted where the formula is
abbrev pub ReplacementKeepsSorts : Type 0
ReplacementKeepsSorts =
    (names : List Decl) (a : FormulaTree) (x : ℕ) (inserted : TermTree) (front back : List Sort)
    → sort_of names back inserted ≡ sort_of names back (name x)
    → well_sorted names (front ++ back) (replaced a x inserted (length front)) ≡ well_sorted names (front ++ back) a

-- an instance at the place that a shift by one made room for is the formula itself
abbrev pub InstanceUndoesShift : Type 0
InstanceUndoesShift =
    (a : FormulaTree) (inserted : TermTree) (above : ℕ) → instance (shift a 1 above) inserted above ≡ a

-- two formulas that a shift by one makes equal are equal
abbrev pub ShiftIsUndone : Type 0
ShiftIsUndone =
    (a b : FormulaTree) (above : ℕ) → shift a 1 above ≡ shift b 1 above → a ≡ b

-- the index that a shift by one makes room for does not occur
abbrev pub ShiftMakesRoom : Type 0
ShiftMakesRoom =
    (a : FormulaTree) (above : ℕ) → occurs above (shift a 1 above) ≡ false
