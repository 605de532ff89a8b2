-- A formula has a node and a level, and no more levels than nodes.
use Rattle.std.proofs.Common.{◌<◌, ◌≤◌, arith}
use Rattle.sorted_terms.proofs.Sizes.{term_depth_within_size}
use Rattle.formulas.specs.Tree.{FormulaTree, bottom, holds, joined, quantified}
use Rattle.formulas.specs.Sorts.{size, depth}

pub size_positive : (a : FormulaTree) → 0 < size a
size_positive bottom = omega arith
size_positive (holds t) = omega arith
size_positive (joined c a b) = omega arith
size_positive (quantified q s a) = omega arith

pub depth_positive : (a : FormulaTree) → 0 < depth a
depth_positive bottom = omega arith
depth_positive (holds t) = omega arith
depth_positive (joined c a b) = omega arith
depth_positive (quantified q s a) = omega arith

pub depth_within_size : (a : FormulaTree) → depth a ≤ size a
depth_within_size bottom = omega arith
depth_within_size (holds t) = omega (arith, term_depth_within_size t)
depth_within_size (joined c a b) = omega (arith, depth_within_size a, depth_within_size b)
depth_within_size (quantified q s a) = omega (arith, depth_within_size a)
