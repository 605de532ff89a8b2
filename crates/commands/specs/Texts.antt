-- What is printed of a valid file.
use Rattle.std.specs.Prelude.{ℕ, List, ◌++◌, codes}
use Rattle.ck_base.specs.declared.decl.Decl.{Decl}
use Rattle.formulas.specs.Tree.{FormulaTree}
use Rattle.ck_text.specs.Printing.{formula_bytes}
use Rattle.cert_codec.specs.Tree.{NodeTree, skip, CertificateTree}

-- the program of a node
abbrev pub program_text : NodeTree → List ℕ
program_text (skip p) = codes "skip"

-- an assertion on a line of its own
abbrev pub assertion_line : List Decl → FormulaTree → List ℕ
assertion_line names a = codes "{ " ++ (formula_bytes names 0 a ++ codes " }\n")

-- the triple behind the word, on four lines
abbrev pub triple_text : CertificateTree → List ℕ
triple_text c = codes "valid\n" ++ (assertion_line c.names c.pre ++ (program_text c.node ++ (codes "\n" ++ assertion_line c.names c.post)))
