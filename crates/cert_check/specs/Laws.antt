-- Soundness of derived programs.
use Rattle.std.specs.Prelude.{List, ℕ}
use Rattle.ck_base.specs.declared.decl.Decl.{Decl}
use Rattle.formulas.specs.Tree.{FormulaTree}
use Rattle.cert_codec.specs.Tree.{NodeTree}
use Rattle.cert_check.specs.Proves.{Proves, program_of}
use Rattle.cert_check.specs.Runs.{Meets}
use Rattle.cert_check.specs.Valid.{HasPromise}

-- a node that proves its triple derives a program that meets it
abbrev pub DerivingIsSound : Type 0
DerivingIsSound =
    (names : List Decl) (pre : FormulaTree) (node : NodeTree) (post : FormulaTree)
    → Proves names pre node post → Meets names pre (program_of node) post

-- whatever certificate a valid file is of, its program keeps its promise
abbrev pub ValidFilesKeepTheirPromise : Type 0
ValidFilesKeepTheirPromise = (bytes : List ℕ) → HasPromise bytes
