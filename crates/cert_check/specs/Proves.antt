-- When a node proves its triple, and the program of a node (Hoare 1969).
use Rattle.std.specs.Prelude.{List, []}
use Rattle.ck_base.specs.declared.decl.Decl.{Decl}
use Rattle.formulas.specs.Tree.{FormulaTree, joined, implies}
use Rattle.type_checker.specs.Typing.{Has}
use Rattle.cert_codec.specs.Tree.{NodeTree, skip}
use Rattle.cert_check.specs.Programs.{ProgramTree}
use Rattle.cert_check.specs.Programs as program

-- Every obligation of the node's triple has its term, in the empty context. That of skip is that the
-- precondition implies the postcondition.
abbrev pub Proves : List Decl → FormulaTree → NodeTree → FormulaTree → Type 0
Proves names pre (skip p) post = Has names [] [] p (joined implies pre post)

-- the program that the node derives
abbrev pub program_of : NodeTree → ProgramTree
program_of (skip p) = program.skip
