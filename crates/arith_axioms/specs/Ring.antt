-- What `ring` tells of two integer terms: whether they are the same polynomial.
use Rattle.std.specs.Prelude.{◌≡◌, ◌≢◌, ℕ, ℤ, ◌+◌, ◌^◌, ◌<◌, ◌≤◌, min, true}
use Rattle.sorted_terms.specs.Tree.{TermTree}
use Rattle.sorted_terms.specs.Weights.{term_weight, term_expansions}
use Rattle.arith_axioms.specs.declared.no_ring.NoRing.{NoRing}
use Rattle.arith_axioms.specs.declared.no_ring.NoRing.TheVariants.{Wide, Many, Differ, NoMemory}
use Rattle.arith_axioms.specs.Polynomials.{Product, lower_product, total, IsSamePolynomial}

-- the weights together leave no room for coefficients in 128 bits with a sign
abbrev pub IsWide : TermTree → TermTree → Type 0
IsWide s t = 2 ^ 127 ≤ term_weight s + term_weight t

-- how many monomials both expansions have together, or 1,000,000 where it is more
abbrev pub monomial_count : TermTree → TermTree → ℕ
monomial_count s t = min (term_expansions s + term_expansions t) 1000000

-- the weights leave room, and the monomials are as many as told, which is too many
pub record AreMany (s t : TermTree) (count : ℕ) : Type 0 where
  pub room : term_weight s + term_weight t < 2 ^ 127
  pub is : count ≡ monomial_count s t
  pub above : 4096 < count

-- the weights leave room, and the monomials are not too many
pub record AreWithin (s t : TermTree) : Type 0 where
  pub room : term_weight s + term_weight t < 2 ^ 127
  pub few : term_expansions s + term_expansions t ≤ 4096

-- p has these totals, which differ, and of every lower product the totals are the same
pub record IsLeastDifference (s t : TermTree) (p : Product) (left right : ℤ) : Type 0 where
  pub in_left : total p s ≡ left
  pub in_right : total p t ≡ right
  pub apart : left ≢ right
  pub least : (q : Product) → lower_product q p ≡ true → total q s ≡ total q t

-- both bounds hold, and the terms are the same polynomial
abbrev pub IsRingEquation : TermTree → TermTree → Type 0
IsRingEquation s t = AreWithin s t × IsSamePolynomial s t

-- both bounds hold, and the terms differ first at p
abbrev pub IsRingDifference : TermTree → TermTree → Product → ℤ → ℤ → Type 0
IsRingDifference s t p left right = AreWithin s t × IsLeastDifference s t p left right

-- what comparing two terms within the bounds tells where it does not allow their equation
abbrev pub IsComparison : TermTree → TermTree → NoRing → Type 0
IsComparison s t (Differ p left right) = IsLeastDifference s t p left right
IsComparison s t NoMemory = Unit {0}
IsComparison s t Wide = ⊥
IsComparison s t (Many count) = ⊥

-- a bound is passed
abbrev pub IsBound : NoRing → Type 0
IsBound Wide = Unit {0}
IsBound (Many count) = Unit {0}
IsBound (Differ p left right) = ⊥
IsBound NoMemory = ⊥
