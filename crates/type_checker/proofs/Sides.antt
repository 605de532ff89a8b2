-- The parts of a formula that fits, fit, and so does what has fewer nodes and levels.
use Rattle.std.proofs.Common.{◌≡◌, ◌≤◌, true, nat_le, arith}
use Rattle.std.proofs.lemmas.Bool.{and_parts, and_from, leb-true, le-leb}
use Rattle.ck_base.specs.declared.decl.Sort.{Sort}
use Rattle.formulas.specs.Tree.{FormulaTree, Connective, implies, Quantifier, joined, quantified}
use Rattle.formulas.specs.Sorts.{size, depth, fits}

pub fits_bounds : (a : FormulaTree) → fits a ≡ true → (size a ≤ 16384) × (depth a ≤ 256)
unfolding fits
fits_bounds a h =
    let parts = and_parts (nat_le (size a) 16384) (nat_le (depth a) 256) h in
    (leb-true _ _ parts.0, leb-true _ _ parts.1)

pub fits_within : (a : FormulaTree) → size a ≤ 16384 → depth a ≤ 256 → fits a ≡ true
unfolding fits
fits_within a few low = and_from _ _ (le-leb _ _ few) (le-leb _ _ low)

pub fits_smaller : (a b : FormulaTree) → size a ≤ size b → depth a ≤ depth b → fits b ≡ true → fits a ≡ true
fits_smaller a b few low h =
    let bounds = fits_bounds b h in
    fits_within a (omega (arith, few, bounds.0)) (omega (arith, low, bounds.1))

pub fits_left_side : (c : Connective) (a b : FormulaTree) → fits (joined c a b) ≡ true → fits a ≡ true
fits_left_side c a b h = fits_smaller a (joined c a b) (omega arith) (omega arith) h

pub fits_right_side : (c : Connective) (a b : FormulaTree) → fits (joined c a b) ≡ true → fits b ≡ true
fits_right_side c a b h = fits_smaller b (joined c a b) (omega arith) (omega arith) h

pub fits_body : (q : Quantifier) (s : Sort) (a : FormulaTree) → fits (quantified q s a) ≡ true → fits a ≡ true
fits_body q s a h = fits_smaller a (quantified q s a) (omega arith) (omega arith) h

-- the sides of an implication
pub fits_left : (a b : FormulaTree) → fits (joined implies a b) ≡ true → fits a ≡ true
fits_left a b h = fits_left_side implies a b h

pub fits_right : (a b : FormulaTree) → fits (joined implies a b) ≡ true → fits b ≡ true
fits_right a b h = fits_right_side implies a b h
