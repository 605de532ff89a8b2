-- Integer terms as polynomials: their expansions, totals, and the order of products.
use Rattle.std.specs.Prelude.{◌≡◌, ℕ, nat_lt, ◌==◌, ℤ, pos, ◌+ℤ◌, ◌*ℤ◌, neg_ℤ, unsigned_abs, ◌+◌, Bool, true, false, ◌&&◌, ◌||◌, List, [], ◌∷◌, ◌++◌, length, if◌then◌else◌}
use Rattle.sorted_terms.specs.Tree.{minus, plus, difference, times, TermTree, name, index, integer, unary, binary}
use Rattle.sorted_terms.specs.Values.{as_number, State, Environment, value_at}
use Rattle.arith_axioms.specs.declared.factor.Factor.{Factor}
use Rattle.arith_axioms.specs.declared.factor.Factor.TheVariants.{Name, Index}

-- the factors of a product, in their order
abbrev pub Product : Type 0
Product = List Factor

-- a coefficient and the product that it stands before
abbrev pub Monomial : Type 0
Monomial = ℤ × Product

-- a sum of monomials, where equal products are not yet brought together
abbrev pub Polynomial : Type 0
Polynomial = List Monomial

-- Order of factors and products

abbrev pub same_factor : Factor → Factor → Bool
same_factor (Name m) (Name n) = m == n
same_factor (Name m) (Index n) = false
same_factor (Index m) (Name n) = false
same_factor (Index m) (Index n) = m == n

-- names before indices, and the lower number first
abbrev pub lower_factor : Factor → Factor → Bool
lower_factor (Name m) (Name n) = nat_lt m n
lower_factor (Name m) (Index n) = true
lower_factor (Index m) (Name n) = false
lower_factor (Index m) (Index n) = nat_lt m n

abbrev pub same_product : Product → Product → Bool
same_product [] [] = true
same_product [] (g ∷ q) = false
same_product (f ∷ p) [] = false
same_product (f ∷ p) (g ∷ q) = same_factor f g && same_product p q

-- the first product is lower at the first factor where they differ
abbrev pub lower_factors : Product → Product → Bool
lower_factors [] q = false
lower_factors (f ∷ p) [] = false
lower_factors (f ∷ p) (g ∷ q) = lower_factor f g || same_factor f g && lower_factors p q

-- the order of products: the shorter first, and of two that are as long the one that is lower factor by factor
abbrev pub lower_product : Product → Product → Bool
lower_product p q = nat_lt (length p) (length q) || length p == length q && lower_factors p q

-- Expansion

-- a factor in its place among sorted ones
abbrev pub with_factor : Factor → Product → Product
with_factor f [] = f ∷ []
with_factor f (g ∷ p) = if lower_factor g f then g ∷ with_factor f p else f ∷ g ∷ p

-- the factors of two products, sorted
abbrev pub joined_products : Product → Product → Product
joined_products [] q = q
joined_products (f ∷ p) q = with_factor f (joined_products p q)

-- every coefficient with the other sign
abbrev pub negated : Polynomial → Polynomial
negated [] = []
negated ((c, p) ∷ rest) = (neg_ℤ c, p) ∷ negated rest

-- one monomial times each of others
abbrev pub times_each : ℤ → Product → Polynomial → Polynomial
times_each c p [] = []
times_each c p ((d, q) ∷ rest) = (c *ℤ d, joined_products p q) ∷ times_each c p rest

-- each monomial times each of others
abbrev pub all_pairs : Polynomial → Polynomial → Polynomial
all_pairs [] others = []
all_pairs ((c, p) ∷ rest) others = times_each c p others ++ all_pairs rest others

-- The expansion of an integer term: a sum of monomials. A term that is no integer has the expansion 0.
abbrev pub expansion : TermTree → Polynomial
expansion (name x) = (pos 1, Name x ∷ []) ∷ []
expansion (index k) = (pos 1, Index k ∷ []) ∷ []
expansion (integer n) = (n, []) ∷ []
expansion (unary minus t) = negated (expansion t)
expansion (binary plus s t) = expansion s ++ expansion t
expansion (binary difference s t) = expansion s ++ negated (expansion t)
expansion (binary times s t) = all_pairs (expansion s) (expansion t)
expansion t = (pos 0, []) ∷ []

-- the sum of the coefficients of a product
abbrev pub total_in : Polynomial → Product → ℤ
total_in [] p = pos 0
total_in ((c, q) ∷ rest) p = if same_product p q then c +ℤ total_in rest p else total_in rest p

-- the sum of the coefficients of a product in the expansion of a term; 0 where it does not occur
abbrev pub total : Product → TermTree → ℤ
total p t = total_in (expansion t) p

-- two terms are the same polynomial: every product has the same total in both
abbrev pub IsSamePolynomial : TermTree → TermTree → Type 0
IsSamePolynomial s t = (p : Product) → total p s ≡ total p t

-- the sum of the absolute coefficients
abbrev pub absolute_sum : Polynomial → ℕ
absolute_sum [] = 0
absolute_sum ((c, p) ∷ rest) = unsigned_abs c + absolute_sum rest

-- Values

abbrev pub factor_value : Factor → State → Environment → ℤ
factor_value (Name x) state environment = as_number (value_at state x)
factor_value (Index k) state environment = as_number (value_at environment k)

abbrev pub product_value : Product → State → Environment → ℤ
product_value [] state environment = pos 1
product_value (f ∷ p) state environment = factor_value f state environment *ℤ product_value p state environment

-- the sum of each coefficient times the value of its product
abbrev pub polynomial_value : Polynomial → State → Environment → ℤ
polynomial_value [] state environment = pos 0
polynomial_value ((c, p) ∷ rest) state environment = c *ℤ product_value p state environment +ℤ polynomial_value rest state environment
