-- The rules along a proof: the formula of each node, or the number of the first node in post-order that has
-- none.
use Rattle.std.specs.Prelude.{ℕ, ◌+◌, if◌then◌else◌, List, ◌∷◌, Option, Some, None, Result, Ok, Err}
use Rattle.ck_base.specs.declared.decl.Sort.{Sort}
use Rattle.ck_base.specs.declared.decl.Decl.{Decl}
use Rattle.formulas.specs.Tree.{FormulaTree, joined, implies, or_else, quantified, for_all, there_is}
use Rattle.formulas.specs.Context.{raised}
use Rattle.proof_terms.specs.Tree.{ProofTree, lambda, application, general, special, pair, first, second, left_of, right_of, by_cases, pack, unpack, from_bottom, stable, rewriting}
use Rattle.type_checker.specs.Place.{proof_nodes, is_assumable}
use Rattle.type_checker.specs.Rules.{fitting, of_leaf, of_one, of_two, of_cases, of_unpacked}

-- A formula and the number of the next node, or the place of the fault.
abbrev pub Walk : Type 0
Walk = Result (FormulaTree × ℕ) ℕ

-- the formula of node `n`
abbrev pub found_at : Option FormulaTree → ℕ → Walk
found_at None n = Err n
found_at (Some a) n = Ok (a, n + 1)

-- the formula of node `n`, where it fits
abbrev pub found : Option FormulaTree → ℕ → Walk
found a n = found_at (fitting a) n

-- a walk, and then the one that its formula and the next number tell
abbrev pub continued : Walk → (FormulaTree → ℕ → Walk) → Walk
continued (Ok r) next = next r.0 r.1
continued (Err place) next = Err place

-- the sides of a disjunction, the sort and body of an existential formula; else the fault is at the place
abbrev pub with_sides : FormulaTree → ℕ → (FormulaTree → FormulaTree → Walk) → Walk
with_sides (joined or_else a b) place next = next a b
with_sides f place next = Err place

abbrev pub with_body : FormulaTree → ℕ → (Sort → FormulaTree → Walk) → Walk
with_body (quantified there_is s a) place next = next s a
with_body f place next = Err place

-- the walk of a proof whose first node has number `n`
abbrev pub walked : List Decl → List Sort → List FormulaTree → ProofTree → ℕ → Walk
walked names variables hypotheses (lambda a p) n =
    if is_assumable names variables a
    then continued (walked names variables (a ∷ hypotheses) p n) (λ b m. found (Some (joined implies a b)) m)
    else Err (n + proof_nodes p)
walked names variables hypotheses (general s p) n =
    continued (walked names (s ∷ variables) (raised hypotheses) p n) (λ a m. found (Some (quantified for_all s a)) m)
walked names variables hypotheses (by_cases p q r) n =
    continued (walked names variables hypotheses p n) (λ f m. with_sides f (m + proof_nodes q + proof_nodes r) (λ a b.
    continued (walked names variables (a ∷ hypotheses) q m) (λ c k.
    continued (walked names variables (b ∷ hypotheses) r k) (λ d l. found (of_cases c d) l))))
walked names variables hypotheses (unpack p q) n =
    continued (walked names variables hypotheses p n) (λ f m. with_body f (m + proof_nodes q) (λ s a.
    continued (walked names (s ∷ variables) (a ∷ raised hypotheses) q m) (λ c k. found (of_unpacked c) k)))
-- two parts that stand under what the whole does
walked names variables hypotheses (application p q) n =
    continued (walked names variables hypotheses p n) (λ f m. continued (walked names variables hypotheses q m) (λ g k. found (of_two names variables (application p q) f g) k))
walked names variables hypotheses (pair p q) n =
    continued (walked names variables hypotheses p n) (λ f m. continued (walked names variables hypotheses q m) (λ g k. found (of_two names variables (pair p q) f g) k))
walked names variables hypotheses (rewriting a p q) n =
    continued (walked names variables hypotheses p n) (λ f m. continued (walked names variables hypotheses q m) (λ g k. found (of_two names variables (rewriting a p q) f g) k))
-- one part that stands under what the whole does
walked names variables hypotheses (special p t) n =
    continued (walked names variables hypotheses p n) (λ f m. found (of_one names variables (special p t) f) m)
walked names variables hypotheses (first p) n =
    continued (walked names variables hypotheses p n) (λ f m. found (of_one names variables (first p) f) m)
walked names variables hypotheses (second p) n =
    continued (walked names variables hypotheses p n) (λ f m. found (of_one names variables (second p) f) m)
walked names variables hypotheses (left_of b p) n =
    continued (walked names variables hypotheses p n) (λ f m. found (of_one names variables (left_of b p) f) m)
walked names variables hypotheses (right_of a p) n =
    continued (walked names variables hypotheses p n) (λ f m. found (of_one names variables (right_of a p) f) m)
walked names variables hypotheses (pack s a t p) n =
    continued (walked names variables hypotheses p n) (λ f m. found (of_one names variables (pack s a t p) f) m)
walked names variables hypotheses (from_bottom a p) n =
    continued (walked names variables hypotheses p n) (λ f m. found (of_one names variables (from_bottom a p) f) m)
walked names variables hypotheses (stable p) n =
    continued (walked names variables hypotheses p n) (λ f m. found (of_one names variables (stable p) f) m)
-- no parts
walked names variables hypotheses p n = found (of_leaf names variables hypotheses p) n
