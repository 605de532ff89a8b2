-- The expansion of a term keeps its value, has the length that is told, and coefficients within the weight.
use Rattle.std.proofs.Common.{◌≡◌, ℕ, zero, suc, ◌+◌, ◌*◌, ◌≤◌, ℤ, pos, negsuc, ◌+ℤ◌, ◌-ℤ◌, ◌*ℤ◌, neg_ℤ, unsigned_abs, Bool, true, false, [], ◌∷◌, ◌++◌, length, if◌then◌else◌, arith, subst, sym, ap, ap₂, refl, ◌∙◌}
use Rattle.std.proofs.Math.IntN.{zero-*ℤ, *ℤ-zero}
use Rattle.std.proofs.Math.Nat.{mul-le-mul, zero-mul}
use Rattle.std.proofs.lemmas.Int.{ints, unsigned_abs-mul}
use Rattle.std.proofs.lemmas.List.{length-append}
use Rattle.sorted_terms.specs.Tree.{minus, denial, plus, difference, times, equal, less, at_most, both, either, TermTree, name, index, integer, boolean, unary, binary}
use Rattle.sorted_terms.specs.Values.{as_number, State, Environment, value}
use Rattle.sorted_terms.specs.Weights.{term_weight, term_expansions}
use Rattle.arith_axioms.specs.declared.factor.Factor.{Factor}
use Rattle.arith_axioms.specs.Polynomials.{Product, Polynomial, lower_factor, with_factor, joined_products, negated, times_each, all_pairs, expansion, total_in, total, absolute_sum, factor_value, product_value, polynomial_value, same_product}
use Rattle.arith_axioms.proofs.Integers.{times_one, one_times, distribute, distribute_left, negate_left, associate, swap, exchange}

-- Values

-- a factor in its place multiplies the value of the product
with_factor_value : (f : Factor) (p : Product) (state : State) (environment : Environment) → product_value (with_factor f p) state environment ≡ factor_value f state environment *ℤ product_value p state environment
with_factor_value f [] state environment = refl
with_factor_value f (g ∷ p) state environment = placed (lower_factor g f) (with_factor_value f p state environment)
  where
    placed : (b : Bool) → product_value (with_factor f p) state environment ≡ factor_value f state environment *ℤ product_value p state environment → product_value (if b then g ∷ with_factor f p else f ∷ g ∷ p) state environment ≡ factor_value f state environment *ℤ (factor_value g state environment *ℤ product_value p state environment)
    placed true e = ap (λ n. factor_value g state environment *ℤ n) e ∙ swap (factor_value g state environment) (factor_value f state environment) (product_value p state environment)
    placed false e = refl

joined_value : (p q : Product) (state : State) (environment : Environment) → product_value (joined_products p q) state environment ≡ product_value p state environment *ℤ product_value q state environment
joined_value [] q state environment = sym (one_times (product_value q state environment))
joined_value (f ∷ p) q state environment =
    with_factor_value f (joined_products p q) state environment
    ∙ ap (λ n. factor_value f state environment *ℤ n) (joined_value p q state environment)
    ∙ sym (associate (factor_value f state environment) (product_value p state environment) (product_value q state environment))

regroup : (a b c d : ℤ) → b ≡ c +ℤ d → a +ℤ b ≡ (a +ℤ c) +ℤ d
regroup a b c d e = omega (arith, ints)

from_zero : (a : ℤ) → a ≡ pos 0 +ℤ a
from_zero a = omega (arith, ints)

pub appended_value : (es fs : Polynomial) (state : State) (environment : Environment) → polynomial_value (es ++ fs) state environment ≡ polynomial_value es state environment +ℤ polynomial_value fs state environment
appended_value [] fs state environment = from_zero (polynomial_value fs state environment)
appended_value ((c, p) ∷ es) fs state environment =
    regroup (c *ℤ product_value p state environment) (polynomial_value (es ++ fs) state environment) (polynomial_value es state environment) (polynomial_value fs state environment) (appended_value es fs state environment)

negate_sum : (a b c d : ℤ) → a ≡ neg_ℤ b → c ≡ neg_ℤ d → a +ℤ c ≡ neg_ℤ (b +ℤ d)
negate_sum a b c d e f = omega (arith, ints)

pub negated_value : (es : Polynomial) (state : State) (environment : Environment) → polynomial_value (negated es) state environment ≡ neg_ℤ (polynomial_value es state environment)
negated_value [] state environment = refl
negated_value ((c, p) ∷ es) state environment =
    negate_sum (neg_ℤ c *ℤ product_value p state environment) (c *ℤ product_value p state environment) (polynomial_value (negated es) state environment) (polynomial_value es state environment) (negate_left c (product_value p state environment)) (negated_value es state environment)

times_each_value : (c : ℤ) (p : Product) (es : Polynomial) (state : State) (environment : Environment) → polynomial_value (times_each c p es) state environment ≡ (c *ℤ product_value p state environment) *ℤ polynomial_value es state environment
times_each_value c p [] state environment = sym (*ℤ-zero (c *ℤ product_value p state environment))
times_each_value c p ((d, q) ∷ es) state environment =
    ap₂ (λ m n. m +ℤ n)
    (ap (λ n. (c *ℤ d) *ℤ n) (joined_value p q state environment) ∙ exchange c d (product_value p state environment) (product_value q state environment))
    (times_each_value c p es state environment)
    ∙ sym (distribute (c *ℤ product_value p state environment) (d *ℤ product_value q state environment) (polynomial_value es state environment))

all_pairs_value : (es fs : Polynomial) (state : State) (environment : Environment) → polynomial_value (all_pairs es fs) state environment ≡ polynomial_value es state environment *ℤ polynomial_value fs state environment
all_pairs_value [] fs state environment = sym (zero-*ℤ (polynomial_value fs state environment))
all_pairs_value ((c, p) ∷ es) fs state environment =
    appended_value (times_each c p fs) (all_pairs es fs) state environment
    ∙ ap₂ (λ m n. m +ℤ n) (times_each_value c p fs state environment) (all_pairs_value es fs state environment)
    ∙ sym (distribute_left (c *ℤ product_value p state environment) (polynomial_value es state environment) (polynomial_value fs state environment))

one_factor : (a : ℤ) → a ≡ pos 1 *ℤ (a *ℤ pos 1) +ℤ pos 0
one_factor a = from_right a (pos 1 *ℤ (a *ℤ pos 1)) (sym (one_times (a *ℤ pos 1) ∙ times_one a))
  where
    from_right : (a b : ℤ) → a ≡ b → a ≡ b +ℤ pos 0
    from_right a b e = omega (arith, ints)

no_factor : (a : ℤ) → a ≡ a *ℤ pos 1 +ℤ pos 0
no_factor a = from_right a (a *ℤ pos 1) (sym (times_one a))
  where
    from_right : (a b : ℤ) → a ≡ b → a ≡ b +ℤ pos 0
    from_right a b e = omega (arith, ints)

minus_sum : (a b a' b' c : ℤ) → a ≡ a' → b ≡ b' → c ≡ neg_ℤ b' → a -ℤ b ≡ a' +ℤ c
minus_sum a b a' b' c e f g = omega (arith, ints)

pub kept : (t : TermTree) (state : State) (environment : Environment) → as_number (value t state environment) ≡ polynomial_value (expansion t) state environment
kept (name x) state environment = one_factor _
kept (index k) state environment = one_factor _
kept (integer n) state environment = no_factor n
kept (boolean b) state environment = no_factor (pos 0)
kept (unary minus t) state environment = ap neg_ℤ (kept t state environment) ∙ sym (negated_value (expansion t) state environment)
kept (unary denial t) state environment = no_factor (pos 0)
kept (binary plus s t) state environment =
    ap₂ (λ m n. m +ℤ n) (kept s state environment) (kept t state environment) ∙ sym (appended_value (expansion s) (expansion t) state environment)
kept (binary difference s t) state environment =
    minus_sum (as_number (value s state environment)) (as_number (value t state environment)) (polynomial_value (expansion s) state environment) (polynomial_value (expansion t) state environment) (polynomial_value (negated (expansion t)) state environment) (kept s state environment) (kept t state environment) (negated_value (expansion t) state environment)
    ∙ sym (appended_value (expansion s) (negated (expansion t)) state environment)
kept (binary times s t) state environment =
    ap₂ (λ m n. m *ℤ n) (kept s state environment) (kept t state environment) ∙ sym (all_pairs_value (expansion s) (expansion t) state environment)
kept (binary equal s t) state environment = no_factor (pos 0)
kept (binary less s t) state environment = no_factor (pos 0)
kept (binary at_most s t) state environment = no_factor (pos 0)
kept (binary both s t) state environment = no_factor (pos 0)
kept (binary either s t) state environment = no_factor (pos 0)

-- Lengths

negated_length : (es : Polynomial) → length (negated es) ≡ length es
negated_length [] = refl
negated_length ((c, p) ∷ es) = ap suc (negated_length es)

times_each_length : (c : ℤ) (p : Product) (es : Polynomial) → length (times_each c p es) ≡ length es
times_each_length c p [] = refl
times_each_length c p ((d, q) ∷ es) = ap suc (times_each_length c p es)

next_product : (k m n : ℕ) → k ≡ m * n → n + k ≡ suc m * n
next_product k m n e = grind arith

all_pairs_length : (es fs : Polynomial) → length (all_pairs es fs) ≡ length es * length fs
all_pairs_length [] fs = sym (zero-mul (length fs))
all_pairs_length ((c, p) ∷ es) fs =
    length-append (times_each c p fs) (all_pairs es fs)
    ∙ ap (λ n. n + length (all_pairs es fs)) (times_each_length c p fs)
    ∙ next_product (length (all_pairs es fs)) (length es) (length fs) (all_pairs_length es fs)

pub expansion_length : (t : TermTree) → length (expansion t) ≡ term_expansions t
expansion_length (name x) = refl
expansion_length (index k) = refl
expansion_length (integer n) = refl
expansion_length (boolean b) = refl
expansion_length (unary minus t) = negated_length (expansion t) ∙ expansion_length t
expansion_length (unary denial t) = refl
expansion_length (binary plus s t) = length-append (expansion s) (expansion t) ∙ ap₂ (λ m n. m + n) (expansion_length s) (expansion_length t)
expansion_length (binary difference s t) = length-append (expansion s) (negated (expansion t)) ∙ ap₂ (λ m n. m + n) (expansion_length s) (negated_length (expansion t) ∙ expansion_length t)
expansion_length (binary times s t) = all_pairs_length (expansion s) (expansion t) ∙ ap₂ (λ m n. m * n) (expansion_length s) (expansion_length t)
expansion_length (binary equal s t) = refl
expansion_length (binary less s t) = refl
expansion_length (binary at_most s t) = refl
expansion_length (binary both s t) = refl
expansion_length (binary either s t) = refl

-- Coefficients

abs_negation : (a : ℤ) → unsigned_abs (neg_ℤ a) ≡ unsigned_abs a
abs_negation (pos zero) = refl
abs_negation (pos (suc n)) = omega arith
abs_negation (negsuc n) = omega arith

pub negated_sum : (es : Polynomial) → absolute_sum (negated es) ≡ absolute_sum es
negated_sum [] = refl
negated_sum ((c, p) ∷ es) = ap₂ (λ m n. m + n) (abs_negation c) (negated_sum es)

regrouped : (a b c d : ℕ) → b ≡ c + d → a + b ≡ a + c + d
regrouped a b c d e = omega arith

pub appended_sum : (es fs : Polynomial) → absolute_sum (es ++ fs) ≡ absolute_sum es + absolute_sum fs
appended_sum [] fs = omega arith
appended_sum ((c, p) ∷ es) fs = regrouped (unsigned_abs c) (absolute_sum (es ++ fs)) (absolute_sum es) (absolute_sum fs) (appended_sum es fs)

spread : (a b c d e : ℕ) → d ≡ a * b → e ≡ a * c → d + e ≡ a * (b + c)
spread a b c d e f g = grind arith

times_each_sum : (c : ℤ) (p : Product) (es : Polynomial) → absolute_sum (times_each c p es) ≡ unsigned_abs c * absolute_sum es
times_each_sum c p [] = grind arith
times_each_sum c p ((d, q) ∷ es) =
    spread (unsigned_abs c) (unsigned_abs d) (absolute_sum es) (unsigned_abs (c *ℤ d)) (absolute_sum (times_each c p es)) (unsigned_abs-mul c d) (times_each_sum c p es)

spread_left : (a b c d e : ℕ) → d ≡ a * c → e ≡ b * c → d + e ≡ (a + b) * c
spread_left a b c d e f g = grind arith

all_pairs_sum : (es fs : Polynomial) → absolute_sum (all_pairs es fs) ≡ absolute_sum es * absolute_sum fs
all_pairs_sum [] fs = grind arith
all_pairs_sum ((c, p) ∷ es) fs =
    appended_sum (times_each c p fs) (all_pairs es fs)
    ∙ spread_left (unsigned_abs c) (absolute_sum es) (absolute_sum fs) (absolute_sum (times_each c p fs)) (absolute_sum (all_pairs es fs)) (times_each_sum c p fs) (all_pairs_sum es fs)

pub within_weight : (t : TermTree) → absolute_sum (expansion t) ≤ term_weight t
within_weight (name x) = omega arith
within_weight (index k) = omega arith
within_weight (integer n) = omega arith
within_weight (boolean b) = omega arith
within_weight (unary minus t) = omega (arith, negated_sum (expansion t), within_weight t)
within_weight (unary denial t) = omega arith
within_weight (binary plus s t) = omega (arith, appended_sum (expansion s) (expansion t), within_weight s, within_weight t)
within_weight (binary difference s t) = omega (arith, appended_sum (expansion s) (negated (expansion t)), negated_sum (expansion t), within_weight s, within_weight t)
within_weight (binary times s t) = subst (λ n. n ≤ term_weight s * term_weight t) (sym (all_pairs_sum (expansion s) (expansion t))) (mul-le-mul (within_weight s) (within_weight t))
within_weight (binary equal s t) = omega arith
within_weight (binary less s t) = omega arith
within_weight (binary at_most s t) = omega arith
within_weight (binary both s t) = omega arith
within_weight (binary either s t) = omega arith

abs_next : (c d : ℤ) (n : ℕ) → unsigned_abs d ≤ n → unsigned_abs (c +ℤ d) ≤ unsigned_abs c + n
abs_next c d n h = omega (arith, ints)

pub total_within : (es : Polynomial) (p : Product) → unsigned_abs (total_in es p) ≤ absolute_sum es
total_within [] p = omega arith
total_within ((c, q) ∷ es) p = counted (same_product p q) (total_within es p)
  where
    counted : (b : Bool) → unsigned_abs (total_in es p) ≤ absolute_sum es → unsigned_abs (if b then c +ℤ total_in es p else total_in es p) ≤ unsigned_abs c + absolute_sum es
    counted true h = abs_next c (total_in es p) (absolute_sum es) h
    counted false h = omega (arith, h)

pub total_bounded : (p : Product) (t : TermTree) → unsigned_abs (total p t) ≤ term_weight t
total_bounded p t = omega (arith, total_within (expansion t) p, within_weight t)
