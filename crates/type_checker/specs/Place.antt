-- Where the fault of a proof is that has no formula: the first of its subproofs that has none.
use Rattle.std.specs.Prelude.{◌≡◌, ◌⊎◌, ℕ, suc, ◌+◌, ◌<◌, Bool, true, ◌&&◌, List, [], ◌∷◌}
use Rattle.ck_base.specs.declared.decl.Sort.{Sort}
use Rattle.ck_base.specs.declared.decl.Decl.{Decl}
use Rattle.formulas.specs.Tree.{FormulaTree, joined, or_else, quantified, there_is}
use Rattle.formulas.specs.Sorts.{well_sorted, fits}
use Rattle.formulas.specs.Context.{raised}
use Rattle.proof_terms.specs.Tree.{ProofTree, hypothesis, lambda, application, general, special, pair, first, second, left_of, right_of, by_cases, pack, unpack, from_bottom, stable, reflexive, rewriting, an_axiom, induction, computing, ring_equal, hole}
use Rattle.type_checker.specs.declared.untyped.Untyped.{Untyped}
use Rattle.type_checker.specs.declared.untyped.Untyped.TheVariants.{At, NoMemory}
use Rattle.type_checker.specs.Typing.{Has}

-- the number of proof nodes
abbrev pub proof_nodes : ProofTree → ℕ
proof_nodes (hypothesis k) = 1
proof_nodes (lambda a p) = 1 + proof_nodes p
proof_nodes (application p q) = 1 + proof_nodes p + proof_nodes q
proof_nodes (general s p) = 1 + proof_nodes p
proof_nodes (special p t) = 1 + proof_nodes p
proof_nodes (pair p q) = 1 + proof_nodes p + proof_nodes q
proof_nodes (first p) = 1 + proof_nodes p
proof_nodes (second p) = 1 + proof_nodes p
proof_nodes (left_of b p) = 1 + proof_nodes p
proof_nodes (right_of a p) = 1 + proof_nodes p
proof_nodes (by_cases p q r) = 1 + proof_nodes p + proof_nodes q + proof_nodes r
proof_nodes (pack s a t p) = 1 + proof_nodes p
proof_nodes (unpack p q) = 1 + proof_nodes p + proof_nodes q
proof_nodes (from_bottom a p) = 1 + proof_nodes p
proof_nodes (stable p) = 1 + proof_nodes p
proof_nodes (reflexive t) = 1
proof_nodes (rewriting a p q) = 1 + proof_nodes p + proof_nodes q
proof_nodes (an_axiom i) = 1
proof_nodes (induction a) = 1
proof_nodes (computing t) = 1
proof_nodes (ring_equal s t) = 1
proof_nodes (hole k) = 1

-- a proof with the sorts of the bound variables and the hypotheses that it stands under
pub record Subproof : Type 0 where
  pub variables : List Sort
  pub hypotheses : List FormulaTree
  pub proof : ProofTree

-- a formula may be a hypothesis: it fits and is well-sorted
abbrev pub is_assumable : List Decl → List Sort → FormulaTree → Bool
is_assumable names variables a = fits a && well_sorted names variables a

-- all of them may be
abbrev pub AreAssumable : List Decl → List Sort → List FormulaTree → Type 0
AreAssumable names variables [] = Unit {0}
AreAssumable names variables (a ∷ hypotheses) = (is_assumable names variables a ≡ true) × AreAssumable names variables hypotheses

-- the proof itself is the last of its subproofs
abbrev pub IsWhole : List Sort → List FormulaTree → ProofTree → ℕ → Subproof → Type 0
IsWhole variables hypotheses p k s = (suc k ≡ proof_nodes p) × (s ≡ record { variables = variables; hypotheses = hypotheses; proof = p })

-- a subproof of a part that stands after so many proof nodes
abbrev pub After : ℕ → (ℕ → Subproof → Type 0) → ℕ → Subproof → Type 0
After count Part k s = (j : ℕ) × (k ≡ count + j) × Part j s

-- The subproof with number k in post-order, counted from 0, with what it stands under. A part under a
-- hypothesis that is not determined has no subproof: under a formula that may be no hypothesis, and under
-- the parts of a disjunction or of an existential formula where the part before has none.
abbrev pub IsSubproof : List Decl → List Sort → List FormulaTree → ProofTree → ℕ → Subproof → Type 0
IsSubproof names variables hypotheses (lambda a p) k s =
    ((is_assumable names variables a ≡ true) × IsSubproof names variables (a ∷ hypotheses) p k s) ⊎ IsWhole variables hypotheses (lambda a p) k s
IsSubproof names variables hypotheses (application p q) k s =
    IsSubproof names variables hypotheses p k s ⊎ After (proof_nodes p) (IsSubproof names variables hypotheses q) k s ⊎ IsWhole variables hypotheses (application p q) k s
IsSubproof names variables hypotheses (general r p) k s =
    IsSubproof names (r ∷ variables) (raised hypotheses) p k s ⊎ IsWhole variables hypotheses (general r p) k s
IsSubproof names variables hypotheses (special p t) k s =
    IsSubproof names variables hypotheses p k s ⊎ IsWhole variables hypotheses (special p t) k s
IsSubproof names variables hypotheses (pair p q) k s =
    IsSubproof names variables hypotheses p k s ⊎ After (proof_nodes p) (IsSubproof names variables hypotheses q) k s ⊎ IsWhole variables hypotheses (pair p q) k s
IsSubproof names variables hypotheses (first p) k s =
    IsSubproof names variables hypotheses p k s ⊎ IsWhole variables hypotheses (first p) k s
IsSubproof names variables hypotheses (second p) k s =
    IsSubproof names variables hypotheses p k s ⊎ IsWhole variables hypotheses (second p) k s
IsSubproof names variables hypotheses (left_of b p) k s =
    IsSubproof names variables hypotheses p k s ⊎ IsWhole variables hypotheses (left_of b p) k s
IsSubproof names variables hypotheses (right_of a p) k s =
    IsSubproof names variables hypotheses p k s ⊎ IsWhole variables hypotheses (right_of a p) k s
-- each case stands under its side of the disjunction
IsSubproof names variables hypotheses (by_cases p q r) k s =
    IsSubproof names variables hypotheses p k s
    ⊎ ((a : FormulaTree) × (b : FormulaTree) × Has names variables hypotheses p (joined or_else a b)
    × (After (proof_nodes p) (IsSubproof names variables (a ∷ hypotheses) q) k s
    ⊎ After (proof_nodes p + proof_nodes q) (IsSubproof names variables (b ∷ hypotheses) r) k s))
    ⊎ IsWhole variables hypotheses (by_cases p q r) k s
IsSubproof names variables hypotheses (pack r a t p) k s =
    IsSubproof names variables hypotheses p k s ⊎ IsWhole variables hypotheses (pack r a t p) k s
-- the right part stands under a new variable and what holds of it
IsSubproof names variables hypotheses (unpack p q) k s =
    IsSubproof names variables hypotheses p k s
    ⊎ ((r : Sort) × (a : FormulaTree) × Has names variables hypotheses p (quantified there_is r a)
    × After (proof_nodes p) (IsSubproof names (r ∷ variables) (a ∷ raised hypotheses) q) k s)
    ⊎ IsWhole variables hypotheses (unpack p q) k s
IsSubproof names variables hypotheses (from_bottom a p) k s =
    IsSubproof names variables hypotheses p k s ⊎ IsWhole variables hypotheses (from_bottom a p) k s
IsSubproof names variables hypotheses (stable p) k s =
    IsSubproof names variables hypotheses p k s ⊎ IsWhole variables hypotheses (stable p) k s
IsSubproof names variables hypotheses (rewriting a p q) k s =
    IsSubproof names variables hypotheses p k s ⊎ After (proof_nodes p) (IsSubproof names variables hypotheses q) k s ⊎ IsWhole variables hypotheses (rewriting a p q) k s
-- the other rules have no parts
IsSubproof names variables hypotheses p k s = IsWhole variables hypotheses p k s

abbrev pub IsTyped : List Decl → Subproof → Type 0
IsTyped names s = (a : FormulaTree) × Has names s.variables s.hypotheses s.proof a

-- The number is that of a subproof without a formula, and every subproof before it has one.
abbrev pub IsFirstUntyped : List Decl → List Sort → List FormulaTree → ProofTree → ℕ → Type 0
IsFirstUntyped names variables hypotheses p place =
    ((s : Subproof) × IsSubproof names variables hypotheses p place s × (IsTyped names s → ⊥))
    × ((k : ℕ) → k < place → (s : Subproof) → IsSubproof names variables hypotheses p k s → IsTyped names s)

-- what holds of the place, where the answer names one
abbrev pub IfAt : Untyped → (ℕ → Type 0) → Type 0
IfAt (At place) P = P place
IfAt NoMemory P = Unit {0}
