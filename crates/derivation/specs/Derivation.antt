-- A derivation: a triple, and how far its program and proof are. What is built has no more than one hole at a
-- time: first the program is open, then the proof of its one obligation, and then nothing.
use Rattle.std.specs.Prelude.{ℕ, suc, Bool, true, false, ◌+◌, List, [], ◌∷◌, length, Some, None}
use Rattle.std.specs.declared.option.Option.{Option}
use Rattle.formulas.specs.Tree.{FormulaTree, formula_tree, bottom, joined, implies}
use Rattle.formulas.specs.Sorts.{size}
use Rattle.formulas.specs.Context.{hypotheses_of}
use Rattle.proof_terms.specs.Tree.{ProofTree, lambda, proof_tree}
use Rattle.proof_terms.specs.Size.{proof_depth, proof_size}
use Rattle.cert_codec.specs.Tree.{skip, CertificateTree}
use Rattle.script_reader.specs.declared.lines.OpenHole.{OpenHole}
use Rattle.derivation.specs.declared.derivation.Derivation.{Derivation}
use Rattle.derivation.specs.declared.derivation.Progress.{Progress}
use Rattle.derivation.specs.declared.derivation.Progress.TheVariants.{Programming, Proving, Finished}

-- Hole 1, the program, is open; or a proof of a formula under hypotheses, the newest first, is open in the
-- program skip; or the proof in the program skip is finished.
pub data ProgressTree : Type 0 where
  programming : ProgressTree
  proving : (hypotheses : List FormulaTree) (goal : FormulaTree) → ProgressTree
  finished : (p : ProofTree) → ProgressTree

pub record DerivationTree : Type 0 where
  pub pre : FormulaTree
  pub post : FormulaTree
  pub progress : ProgressTree

-- Holes are numbered in the order in which they are opened. Each `intro` opens one more.
abbrev pub proof_hole : List FormulaTree → ℕ
proof_hole hypotheses = 2 + length hypotheses

-- the open hole
abbrev pub open_hole : ProgressTree → Option OpenHole
open_hole programming = Some (record { number = 1; hypotheses = 0 })
open_hole (proving hypotheses goal) = Some (record { number = proof_hole hypotheses; hypotheses = length hypotheses })
open_hole (finished p) = None

-- a proof under a lambda for each of the hypotheses, the newest innermost
abbrev pub abstracted : List FormulaTree → ProofTree → ProofTree
abstracted [] p = p
abstracted (a ∷ hypotheses) p = abstracted hypotheses (lambda a p)

-- the nodes of a lambda for each of the hypotheses
abbrev pub assumption_size : List FormulaTree → ℕ
assumption_size [] = 0
assumption_size (a ∷ hypotheses) = 1 + size a + assumption_size hypotheses

-- the nodes of the tree, an open hole counted as one
abbrev pub tree_nodes : ProgressTree → ℕ
tree_nodes programming = 1
tree_nodes (proving hypotheses goal) = 2 + assumption_size hypotheses
tree_nodes (finished p) = 1 + proof_size p

-- the nodes of the triple and the tree
abbrev pub nodes : DerivationTree → ℕ
nodes d = size d.pre + size d.post + tree_nodes d.progress

-- the levels of the proof, an open hole counted as one
abbrev pub levels : ProgressTree → ℕ
levels programming = 0
levels (proving hypotheses goal) = 1 + length hypotheses
levels (finished p) = proof_depth p

-- the certificate of a derivation whose proof is finished
abbrev pub certificate_of : DerivationTree → ProofTree → CertificateTree
certificate_of d p = record { names = []; pre = d.pre; post = d.post; node = skip p }

abbrev pub is_proving : ProgressTree → Bool
is_proving (proving hypotheses goal) = true
is_proving progress = false

-- the hypotheses of an open proof
abbrev pub assumed_in : ProgressTree → List FormulaTree
assumed_in (proving hypotheses goal) = hypotheses
assumed_in progress = []

-- the sides of an implication, `bottom` of another formula
abbrev pub left_of : FormulaTree → FormulaTree
left_of (joined implies a b) = a
left_of a = bottom

abbrev pub right_of : FormulaTree → FormulaTree
right_of (joined implies a b) = b
right_of a = bottom

-- the nodes of the left side of an implication
abbrev pub left_size : FormulaTree → Option ℕ
left_size (joined implies a b) = Some (size a)
left_size a = None

-- ---- the derivation of the code

abbrev pub progress_tree : Progress → ProgressTree
progress_tree Programming = programming
progress_tree (Proving context goal) = proving (hypotheses_of context) (formula_tree goal)
progress_tree (Finished p) = finished (proof_tree p)

abbrev pub derivation_tree : Derivation → DerivationTree
derivation_tree d = record { pre = formula_tree d.pre; post = formula_tree d.post; progress = progress_tree d.progress }
