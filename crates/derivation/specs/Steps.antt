-- The steps: what each makes of a derivation (Hoare 1969 for `skip`, Barendregt 1992 for the others). A step on
-- a hole that is not open, or on one with a goal of another kind, makes nothing.
use Rattle.std.specs.Prelude.{◌≡◌, ℕ, ◌≤◌, true, List, [], ◌∷◌}
use Rattle.formulas.specs.Tree.{FormulaTree, joined, implies}
use Rattle.formulas.specs.Sorts.{fits}
use Rattle.proof_terms.specs.Tree.{ProofTree}
use Rattle.type_checker.specs.Typing.{Has}
use Rattle.cert_codec.specs.Tree.{CertificateTree}
use Rattle.derivation.specs.Derivation.{ProgressTree, programming, proving, finished, DerivationTree, proof_hole, abstracted, nodes, levels, certificate_of}

-- a triple with its program open
abbrev pub begun : FormulaTree → FormulaTree → DerivationTree
begun pre post = record { pre = pre; post = post; progress = programming }

-- at most 200,000 nodes and a proof of at most 2,048 levels
pub record IsWithin (d : DerivationTree) : Type 0 where
  pub few : nodes d ≤ 200000
  pub low : levels d.progress ≤ 2048

-- The derivation goes on with this progress, and is within its limits.
pub record GoesOn (d : DerivationTree) (progress : ProgressTree) (next : DerivationTree) : Type 0 where
  pub is : next ≡ record { pre = d.pre; post = d.post; progress = progress }
  pub within : IsWithin next

-- `skip` on the program opens a proof that the precondition implies the postcondition, which fits.
pub record Skips (d : DerivationTree) (hole : ℕ) (next : DerivationTree) : Type 0 where
  pub open_is : d.progress ≡ programming
  pub hole_is : hole ≡ 1
  pub fitting : fits (joined implies d.pre d.post) ≡ true
  pub goes_on : GoesOn d (proving [] (joined implies d.pre d.post)) next

-- `intro` on an implication opens a proof of its right side under its left side.
pub record Introduces (d : DerivationTree) (hole : ℕ) (next : DerivationTree) : Type 0 where
  pub hypotheses : List FormulaTree
  pub left : FormulaTree
  pub right : FormulaTree
  pub open_is : d.progress ≡ proving hypotheses (joined implies left right)
  pub hole_is : hole ≡ proof_hole hypotheses
  pub goes_on : GoesOn d (proving (left ∷ hypotheses) right) next

-- `exact p` on a proof finishes it where p has the open formula under the hypotheses.
pub record Finishes (d : DerivationTree) (hole : ℕ) (p : ProofTree) (next : DerivationTree) : Type 0 where
  pub hypotheses : List FormulaTree
  pub goal : FormulaTree
  pub open_is : d.progress ≡ proving hypotheses goal
  pub hole_is : hole ≡ proof_hole hypotheses
  pub proof : Has [] [] hypotheses p goal
  pub goes_on : GoesOn d (finished (abstracted hypotheses p)) next

-- no hole is open, and this is the certificate
pub record Exports (d : DerivationTree) (c : CertificateTree) : Type 0 where
  pub p : ProofTree
  pub done : d.progress ≡ finished p
  pub is : c ≡ certificate_of d p
