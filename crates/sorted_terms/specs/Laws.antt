-- What substitution does to the values and sorts of terms, and what bounds their values.
use Rattle.std.specs.Prelude.{◌≡◌, ℕ, ◌<◌, ◌≤◌, true, false, unsigned_abs, List, ◌∷◌, ◌++◌, length, Some, slice_set}
use Rattle.ck_base.specs.declared.decl.Sort.{Sort}
use Rattle.ck_base.specs.declared.decl.Decl.{Decl}
use Rattle.sorted_terms.specs.Tree.{TermTree, name}
use Rattle.sorted_terms.specs.Values.{IsOf, as_number, State, Environment, value, AreOf, IsState}
use Rattle.sorted_terms.specs.Sorts.{sort_of}
use Rattle.sorted_terms.specs.Weights.{is_closed, term_weight}
use Rattle.sorted_terms.specs.Substitution.{shift_term, instance_term, replace_term, occurs_term}

-- the substitution lemma: an instance has the value of the term where the innermost variable has the value of what was inserted
abbrev pub InstanceKeepsValues : Type 0
InstanceKeepsValues =
    (t inserted : TermTree) (state : State) (environment : Environment)
    → value (instance_term t inserted 0) state environment ≡ value t state (value inserted state environment ∷ environment)

-- weakening: a shifted term has the value of the term, whatever values the new variables have
abbrev pub ShiftKeepsValues : Type 0
ShiftKeepsValues =
    (t : TermTree) (state : State) (front new back : Environment)
    → value (shift_term t (length new) (length front)) state (front ++ (new ++ back)) ≡ value t state (front ++ back)

-- a term where another stands for a declared name has the value of the term after the other's value was assigned to the name
abbrev pub ReplacementKeepsValues : Type 0
ReplacementKeepsValues =
    (t : TermTree) (x : ℕ) (inserted : TermTree) (state : State) (environment : Environment)
    → x < length state
    → value (replace_term t x inserted 0) state environment ≡ value t (slice_set state x (value inserted state environment)) environment

-- a shifted term has the sort of the term, whatever sorts the new variables have
abbrev pub ShiftKeepsSorts : Type 0
ShiftKeepsSorts =
    (names : List Decl) (t : TermTree) (front new back : List Sort)
    → sort_of names (front ++ (new ++ back)) (shift_term t (length new) (length front)) ≡ sort_of names (front ++ back) t

-- an instance has the sort of the term where the variable at the place has the sort of what was inserted
abbrev pub InstanceKeepsSorts : Type 0
InstanceKeepsSorts =
    (names : List Decl) (t inserted : TermTree) (s : Sort) (front back : List Sort)
    → sort_of names back inserted ≡ Some s
    → sort_of names (front ++ back) (instance_term t inserted (length front)) ≡ sort_of names (front ++ s ∷ back) t

-- a term where another of the same sort stands for a declared name has the sort of the term
abbrev pub ReplacementKeepsSorts : Type 0
ReplacementKeepsSorts =
    (names : List Decl) (t : TermTree) (x : ℕ) (inserted : TermTree) (front back : List Sort)
    → sort_of names back inserted ≡ sort_of names back (name x)
    → sort_of names (front ++ back) (replace_term t x inserted (length front)) ≡ sort_of names (front ++ back) t

-- the value of a term that has a sort is of that sort
abbrev pub ValuesHaveSorts : Type 0
ValuesHaveSorts =
    (names : List Decl) (variables : List Sort) (t : TermTree) (s : Sort)
    → sort_of names variables t ≡ Some s
    → (state : State) (environment : Environment) → IsState names state → AreOf variables environment
    → IsOf s (value t state environment)

-- an instance at the place that a shift by one made room for is the term itself
abbrev pub InstanceUndoesShift : Type 0
InstanceUndoesShift =
    (t inserted : TermTree) (above : ℕ) → instance_term (shift_term t 1 above) inserted above ≡ t

-- two terms that a shift by one makes equal are equal
abbrev pub ShiftIsUndone : Type 0
ShiftIsUndone =
    (s t : TermTree) (above : ℕ) → shift_term s 1 above ≡ shift_term t 1 above → s ≡ t

-- the index that a shift by one makes room for does not occur
abbrev pub ShiftMakesRoom : Type 0
ShiftMakesRoom =
    (t : TermTree) (above : ℕ) → occurs_term above (shift_term t 1 above) ≡ false

-- the absolute value of a closed term is at most its weight
abbrev pub WeightBoundsValues : Type 0
WeightBoundsValues =
    (t : TermTree) (state : State) (environment : Environment)
    → is_closed t ≡ true → unsigned_abs (as_number (value t state environment)) ≤ term_weight t
