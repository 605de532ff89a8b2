-- What holds of every derivation that begins with a triple of fitting formulas and goes on by steps.
use Rattle.std.specs.Prelude.{◌≡◌, true, List, [], ◌∷◌}
use Rattle.formulas.specs.Tree.{FormulaTree, joined, implies}
use Rattle.formulas.specs.Sorts.{fits}
use Rattle.formulas.specs.Context.{hypotheses_of}
use Rattle.cert_codec.specs.Tree.{skip}
use Rattle.cert_codec.specs.Spelling.{is_built_formula, IsBuiltProof}
use Rattle.cert_check.specs.Proves.{Proves}
use Rattle.derivation.specs.declared.derivation.Derivation.{Derivation}
use Rattle.derivation.specs.declared.derivation.Progress.{Progress}
use Rattle.derivation.specs.declared.derivation.Progress.TheVariants.{Programming, Proving, Finished}
use Rattle.derivation.specs.Derivation.{ProgressTree, programming, proving, finished, DerivationTree, nodes, derivation_tree}
use Rattle.derivation.specs.Steps.{IsWithin}

-- the hypotheses imply the formula, the newest innermost
abbrev pub implied : List FormulaTree → FormulaTree → FormulaTree
implied [] a = a
implied (h ∷ hypotheses) a = implied hypotheses (joined implies h a)

-- An open proof is one of the obligation behind the left sides that were assumed, and a finished one is one of
-- the obligation. Both fit.
abbrev pub AnswersFor : FormulaTree → FormulaTree → ProgressTree → Type 0
AnswersFor pre post programming = Unit {0}
AnswersFor pre post (proving hypotheses goal) = (implied hypotheses goal ≡ joined implies pre post) × (fits (joined implies pre post) ≡ true) × (fits goal ≡ true)
AnswersFor pre post (finished p) = Proves [] pre (skip p) post × IsBuiltProof p × (fits (joined implies pre post) ≡ true)

pub record IsDerived (d : DerivationTree) : Type 0 where
  pub pre : is_built_formula d.pre ≡ true
  pub post : is_built_formula d.post ≡ true
  pub within : IsWithin d
  pub answers : AnswersFor d.pre d.post d.progress

-- the context of an open proof has hypotheses alone
abbrev pub HasNoVariables : Progress → Type 0
HasNoVariables Programming = Unit {0}
HasNoVariables (Proving context goal) = context.sorts ≡ []
HasNoVariables (Finished p) = Unit {0}

-- a derivation of the code is one, and counts its nodes
pub record IsKept (d : Derivation) : Type 0 where
  pub derived : IsDerived (derivation_tree d)
  pub count : d.nodes ≡ nodes (derivation_tree d)
  pub closed : HasNoVariables d.progress
