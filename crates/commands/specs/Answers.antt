-- What the code answers to one line: the next session or the exported certificate, and what it adds to the
-- transcript.
use Rattle.std.specs.Prelude.{◌≡◌, ℕ, ◌<◌, ◌^◌, true, List, ◌++◌, Some, None}
use Rattle.std.specs.declared.option.Option.{Option}
use Rattle.cert_codec.specs.Tree.{checked_tree}
use Rattle.cert_codec.specs.Spelling.{spell, is_built_formula, IsBuiltProof}
use Rattle.cert_check.specs.Valid.{IsFileOf}
use Rattle.formulas.specs.Sorts.{fits}
use Rattle.proof_terms.specs.Size.{proof_size}
use Rattle.script_reader.specs.Lines.{LineTree, spec, exact, export}
use Rattle.derivation.specs.declared.derivation.Derivation.{Derivation}
use Rattle.derivation.specs.Steps.{Exports}
use Rattle.derivation.specs.Derived.{IsKept}
use Rattle.derivation.specs.Derivation.{DerivationTree}
use Rattle.commands.specs.declared.session.Answer.{Answer}
use Rattle.commands.specs.declared.session.Answer.TheVariants.{Next, Exported}
use Rattle.commands.specs.Session.{State, RepliesTo, Replies, IsExported, state_of}

-- the session is one that steps reach
abbrev pub IsKeptSession : Option Derivation → Type 0
IsKeptSession None = Unit {0}
IsKeptSession (Some d) = IsKept d

-- what a line of so many bytes may ask for: formulas that fit, and proofs of no great size
abbrev pub MayBe : LineTree → Type 0
MayBe (spec pre post) = (is_built_formula pre ≡ true) × (fits pre ≡ true) × (is_built_formula post ≡ true) × (fits post ≡ true)
MayBe (exact hole p) = IsBuiltProof p × (proof_size p < 2 ^ 31)
MayBe tree = Unit {0}

-- the answer to what a line asks for
abbrev pub AnswersTo : State → LineTree → List ℕ → List ℕ → Answer → Type 0
AnswersTo state tree old new (Next session) =
    IsKeptSession session × (reply : List ℕ) × (new ≡ old ++ reply) × RepliesTo state tree reply (state_of session)
AnswersTo state tree old new (Exported c) =
    (new ≡ old) × (tree ≡ export) × IsFileOf (checked_tree c) (spell (checked_tree c)) × (d : DerivationTree) × (state ≡ Some d) × Exports d (checked_tree c)

-- the answer to a line
abbrev pub Answers : State → List ℕ → List ℕ → List ℕ → Answer → Type 0
Answers state line old new (Next session) =
    IsKeptSession session × (reply : List ℕ) × (new ≡ old ++ reply) × Replies state line reply (state_of session)
Answers state line old new (Exported c) = (new ≡ old) × IsFileOf (checked_tree c) (spell (checked_tree c)) × IsExported state line (checked_tree c)
