-- A certificate as plain trees, and the trees of a certificate of the code.
use Rattle.std.specs.Prelude.{List}
use Rattle.ck_base.specs.declared.decl.Decl.{Decl}
use Rattle.formulas.specs.Tree.{FormulaTree, formula_tree}
use Rattle.proof_terms.specs.Tree.{ProofTree, proof_tree}
use Rattle.cert_codec.specs.declared.certificate.Node.{Node}
use Rattle.cert_codec.specs.declared.certificate.Node.TheVariants.{Skip}
use Rattle.cert_codec.specs.declared.certificate.RawCertificate.{RawCertificate}
use Rattle.cert_codec.specs.declared.certificate.Certificate.{Certificate}

-- A node of a derived program, with the proofs of its obligations. Only skip is built so far.
pub data NodeTree : Type 0 where
  skip : (p : ProofTree) → NodeTree

abbrev pub node_tree : Node → NodeTree
node_tree (Skip p) = skip (proof_tree p)

-- declarations, precondition, postcondition and node
pub record CertificateTree : Type 0 where
  pub names : List Decl
  pub pre : FormulaTree
  pub post : FormulaTree
  pub node : NodeTree

abbrev pub certificate_tree : RawCertificate → CertificateTree
certificate_tree c =
    record { names = c.decls; pre = formula_tree c.pre; post = formula_tree c.post; node = node_tree c.node }

abbrev pub checked_tree : Certificate → CertificateTree
checked_tree c =
    record { names = c.decls; pre = formula_tree c.pre; post = formula_tree c.post; node = node_tree c.node }
