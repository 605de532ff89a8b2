-- What holds of derivations.
use Rattle.std.specs.Prelude.{ℕ}
use Rattle.formulas.specs.Tree.{FormulaTree}
use Rattle.proof_terms.specs.Tree.{ProofTree}
use Rattle.cert_codec.specs.Tree.{CertificateTree}
use Rattle.cert_codec.specs.Spelling.{spell}
use Rattle.cert_check.specs.Valid.{IsFileOf}
use Rattle.derivation.specs.Derivation.{DerivationTree}
use Rattle.derivation.specs.Steps.{Exports}
use Rattle.derivation.specs.Derived.{IsDerived}

-- the certificate that a derivation exports is that of a valid file, its spelling
abbrev pub ExportsAreValid : Type 0
ExportsAreValid = (d : DerivationTree) (c : CertificateTree) → IsDerived d → Exports d c → IsFileOf c (spell c)
