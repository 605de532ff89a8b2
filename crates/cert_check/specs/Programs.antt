-- Programs as plain trees.
use Rattle.std.specs.Prelude.{ℕ}
use Rattle.sorted_terms.specs.Tree.{TermTree}

mutual
  -- skip, an assignment to a declared name, a sequence, an alternative of guarded branches, and a loop
  pub data ProgramTree : Type 0 where
    skip : ProgramTree
    assign : (x : ℕ) (e : TermTree) → ProgramTree
    sequence : (p q : ProgramTree) → ProgramTree
    alternative : (branches : BranchTree) → ProgramTree
    loop : (guard : TermTree) (body : ProgramTree) → ProgramTree

  -- one guarded branch or more
  pub data BranchTree : Type 0 where
    last : (guard : TermTree) (body : ProgramTree) → BranchTree
    more : (guard : TermTree) (body : ProgramTree) (others : BranchTree) → BranchTree
