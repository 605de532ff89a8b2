-- The computed test of two formulas tells whether they are the same.
use Rattle.std.proofs.Common.{◌≡◌, ℤ, Bool, true, false, ◌&&◌, nat_eq, refl, sym, ap, subst, IsTrue, ◌↔◌, arith}
use Rattle.std.proofs.lemmas.Bool.{and_parts, and_from, eqb-true, eq-eqb}
use Rattle.std.proofs.lemmas.Int.{ints}
use lib.Signed.{le_z}
use Rattle.ck_base.specs.declared.decl.Sort.{Sort}
use Rattle.ck_base.specs.declared.decl.Sort.TheVariants as sort
use Rattle.sorted_terms.specs.Sorts.{same_sort}
use Rattle.sorted_terms.specs.Tree.{TermTree, UnarySign, minus, denial, BinarySign, plus, difference, times, equal, less, at_most, both, either, name, index, integer, boolean, unary, binary}
use Rattle.sorted_terms.specs.Values.{same_integer, same_boolean}
use Rattle.formulas.specs.Tree.{FormulaTree, Connective, implies, and_also, or_else, Quantifier, for_all, there_is, bottom, holds, joined, quantified}
use Rattle.type_checker.specs.Same.{unary_number, binary_number, connective_number, quantifier_number, same_term, same_formula}

unary_is : (g h : UnarySign) → unary_number g ≡ unary_number h → g ≡ h
unary_is minus minus e = refl
unary_is denial denial e = refl
unary_is g h e = absurd (cc)

binary_is : (g h : BinarySign) → binary_number g ≡ binary_number h → g ≡ h
binary_is plus plus e = refl
binary_is difference difference e = refl
binary_is times times e = refl
binary_is equal equal e = refl
binary_is less less e = refl
binary_is at_most at_most e = refl
binary_is both both e = refl
binary_is either either e = refl
binary_is g h e = absurd (cc)

connective_is : (c d : Connective) → connective_number c ≡ connective_number d → c ≡ d
connective_is implies implies e = refl
connective_is and_also and_also e = refl
connective_is or_else or_else e = refl
connective_is c d e = absurd (cc)

quantifier_is : (p q : Quantifier) → quantifier_number p ≡ quantifier_number q → p ≡ q
quantifier_is for_all for_all e = refl
quantifier_is there_is there_is e = refl
quantifier_is p q e = absurd (cc)

sort_is : (r s : Sort) → same_sort r s ≡ true → r ≡ s
sort_is sort.Int sort.Int e = refl
sort_is sort.Bool sort.Bool e = refl
sort_is r s e = absurd (cc)

sort_same : (s : Sort) → same_sort s s ≡ true
sort_same sort.Int = refl
sort_same sort.Bool = refl

pub boolean_is : (a b : Bool) → same_boolean a b ≡ true → a ≡ b
boolean_is true true e = refl
boolean_is false false e = refl
boolean_is a b e = absurd (cc)

pub boolean_same : (b : Bool) → same_boolean b b ≡ true
boolean_same true = refl
boolean_same false = refl

pub integer_is : (m n : ℤ) → same_integer m n ≡ true → m ≡ n
integer_is m n e = let p = and_parts (le_z m n) (le_z n m) e in grind (arith, ints, p.0, p.1)

pub integer_same : (n : ℤ) → same_integer n n ≡ true
integer_same n = let p : le_z n n ≡ true = grind (arith, ints) in and_from _ _ p p

term_is : (s t : TermTree) → same_term s t ≡ true → s ≡ t
term_is (name x) (name y) e = ap (λ k. name k) (eqb-true x y e)
term_is (index k) (index l) e = ap (λ k. index k) (eqb-true k l e)
term_is (integer m) (integer n) e = ap (λ k. integer k) (integer_is m n e)
term_is (boolean a) (boolean b) e = ap (λ k. boolean k) (boolean_is a b e)
term_is (unary g s) (unary h t) e =
    let p = and_parts (nat_eq (unary_number g) (unary_number h)) (same_term s t) e in
    cc (unary_is g h (eqb-true _ _ p.0), term_is s t p.1)
term_is (binary g s u) (binary h t v) e =
    let p = and_parts (nat_eq (binary_number g) (binary_number h)) (same_term s t && same_term u v) e in
    let q = and_parts (same_term s t) (same_term u v) p.1 in
    cc (binary_is g h (eqb-true _ _ p.0), term_is s t q.0, term_is u v q.1)
term_is s t e = absurd (cc)

term_same : (t : TermTree) → same_term t t ≡ true
term_same (name x) = eq-eqb x x refl
term_same (index k) = eq-eqb k k refl
term_same (integer n) = integer_same n
term_same (boolean b) = boolean_same b
term_same (unary g t) = and_from _ _ (eq-eqb (unary_number g) (unary_number g) refl) (term_same t)
term_same (binary g s t) = and_from _ _ (eq-eqb (binary_number g) (binary_number g) refl) (and_from _ _ (term_same s) (term_same t))

pub formula_is : (a b : FormulaTree) → same_formula a b ≡ true → a ≡ b
formula_is bottom bottom e = refl
formula_is (holds s) (holds t) e = ap (λ k. holds k) (term_is s t e)
formula_is (joined c a b) (joined d f g) e =
    let p = and_parts (nat_eq (connective_number c) (connective_number d)) (same_formula a f && same_formula b g) e in
    let q = and_parts (same_formula a f) (same_formula b g) p.1 in
    cc (connective_is c d (eqb-true _ _ p.0), formula_is a f q.0, formula_is b g q.1)
formula_is (quantified p r a) (quantified q s b) e =
    let x = and_parts (nat_eq (quantifier_number p) (quantifier_number q)) (same_sort r s && same_formula a b) e in
    let y = and_parts (same_sort r s) (same_formula a b) x.1 in
    cc (quantifier_is p q (eqb-true _ _ x.0), sort_is r s y.0, formula_is a b y.1)
formula_is a b e = absurd (cc)

pub formula_same : (a : FormulaTree) → same_formula a a ≡ true
formula_same bottom = refl
formula_same (holds t) = term_same t
formula_same (joined c a b) = and_from _ _ (eq-eqb (connective_number c) (connective_number c) refl) (and_from _ _ (formula_same a) (formula_same b))
formula_same (quantified q s a) = and_from _ _ (eq-eqb (quantifier_number q) (quantifier_number q) refl) (and_from _ _ (sort_same s) (formula_same a))

apart : false ≡ true → ⊥
apart e = absurd (cc)

same_not : (u : Bool) (a b : FormulaTree) → same_formula a b ≡ u → (a ≡ b → ⊥) → false ≡ u
same_not true a b e h = absurd (h (formula_is a b e))
same_not false a b e h = refl

-- the test of the code is the computed one
pub same_is : (t : Bool) (a b : FormulaTree) → (IsTrue t ↔ (a ≡ b)) → t ≡ same_formula a b
same_is true a b h = let e : a ≡ b = h.0 refl in sym (subst (λ x. same_formula a x ≡ true) e (formula_same a))
same_is false a b h = same_not (same_formula a b) a b refl (λ e. apart (h.1 e))
