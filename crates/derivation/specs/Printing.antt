-- The printed line of the open hole.
use Rattle.std.specs.Prelude.{ℕ, zero, suc, List, [], ◌∷◌, ◌++◌, reverse, decimal, codes}
use Rattle.formulas.specs.Tree.{FormulaTree}
use Rattle.ck_text.specs.Printing.{formula_bytes}
use Rattle.derivation.specs.Derivation.{ProgressTree, programming, proving, finished, DerivationTree, proof_hole}

-- what stands between two hypotheses
abbrev pub separator : ℕ → List ℕ
separator zero = []
separator (suc k) = codes ", "

-- the hypotheses from number k on, the oldest first
abbrev pub hypotheses_text : ℕ → List FormulaTree → List ℕ
hypotheses_text k [] = []
hypotheses_text k (a ∷ hypotheses) = separator k ++ (codes "#" ++ (decimal k ++ (codes ": " ++ (formula_bytes [] 0 a ++ hypotheses_text (suc k) hypotheses))))

-- a space behind the hypotheses
abbrev pub gap : List FormulaTree → List ℕ
gap [] = []
gap (a ∷ hypotheses) = codes " "

-- a formula in braces
abbrev pub braced : FormulaTree → List ℕ
braced a = codes "{ " ++ (formula_bytes [] 0 a ++ codes " }")

-- what stands before a goal: its hypotheses, the oldest first, and a space behind them
abbrev pub context_text : List FormulaTree → List ℕ
context_text hypotheses = hypotheses_text 0 hypotheses ++ gap hypotheses

abbrev pub hole_line : ℕ → List ℕ → List ℕ
hole_line hole goal = codes "  " ++ (decimal hole ++ (codes ": " ++ (goal ++ codes "\n")))

abbrev pub program_line : FormulaTree → FormulaTree → List ℕ
program_line pre post = hole_line 1 (braced pre ++ (codes " " ++ braced post))

abbrev pub proof_line : List FormulaTree → FormulaTree → List ℕ
proof_line hypotheses goal = hole_line (proof_hole hypotheses) (context_text (reverse hypotheses) ++ (codes "|- " ++ formula_bytes [] 0 goal))

-- the line of the open hole of a triple; there is none where no hole is open
abbrev pub progress_text : FormulaTree → FormulaTree → ProgressTree → List ℕ
progress_text pre post programming = program_line pre post
progress_text pre post (proving hypotheses goal) = proof_line hypotheses goal
progress_text pre post (finished p) = []

abbrev pub open_text : DerivationTree → List ℕ
open_text d = progress_text d.pre d.post d.progress
