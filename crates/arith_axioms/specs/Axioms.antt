-- The axioms of arithmetic and of truth values, and the induction form of a formula.
use Rattle.std.specs.Prelude.{ℕ, zero, suc, pos, true, false, List, [], ◌∷◌, Option, None, slice_get}
use Rattle.ck_base.specs.declared.decl.Sort.TheVariants as sort
use Rattle.sorted_terms.specs.Tree.{denial, plus, times, equal, less, at_most, both, either, TermTree, index, integer, boolean, unary, binary}
use Rattle.sorted_terms.specs.Substitution.{shift_term, instance_term}
use Rattle.formulas.specs.Tree.{implies, and_also, or_else, for_all, FormulaTree, bottom, holds, joined, quantified}
use Rattle.formulas.specs.Substitution.{shift, instance}

-- The signs of the table below, with a prime after each: `x +' y <=' z` is the formula with the text `x + y <= z`.
infixr 20 ◌=>'◌
infixr 25 ◌\/'◌
infixr 30 ◌/\'◌
infix 40 ~'◌
infix 50 ◌='◌
infix 50 ◌<'◌
infix 50 ◌<='◌
infix 35 ◌and'◌
infix 35 ◌or'◌
infixl 60 ◌+'◌
infixl 70 ◌*'◌
abbrev pub ◌=>'◌ : FormulaTree → FormulaTree → FormulaTree
a =>' b = joined implies a b

abbrev pub ◌\/'◌ : FormulaTree → FormulaTree → FormulaTree
a \/' b = joined or_else a b

abbrev pub ◌/\'◌ : FormulaTree → FormulaTree → FormulaTree
a /\' b = joined and_also a b

abbrev pub ~'◌ : FormulaTree → FormulaTree
~' a = joined implies a bottom

abbrev pub ◌='◌ : TermTree → TermTree → FormulaTree
s =' t = holds (binary equal s t)

abbrev pub ◌<'◌ : TermTree → TermTree → FormulaTree
s <' t = holds (binary less s t)

abbrev pub ◌<='◌ : TermTree → TermTree → FormulaTree
s <=' t = holds (binary at_most s t)

abbrev pub ◌+'◌ : TermTree → TermTree → TermTree
s +' t = binary plus s t

abbrev pub ◌*'◌ : TermTree → TermTree → TermTree
s *' t = binary times s t

abbrev pub not' : TermTree → TermTree
not' t = unary denial t

abbrev pub ◌and'◌ : TermTree → TermTree → TermTree
s and' t = binary both s t

abbrev pub ◌or'◌ : TermTree → TermTree → TermTree
s or' t = binary either s t

-- the integers 0 and 1
abbrev pub 0' : TermTree
0' = integer (pos 0)

abbrev pub 1' : TermTree
1' = integer (pos 1)

-- every integer, as the innermost variable
abbrev pub all_int : FormulaTree → FormulaTree
all_int a = quantified for_all sort.Int a

-- every truth value, as the innermost variable
abbrev pub all_bool : FormulaTree → FormulaTree
all_bool a = quantified for_all sort.Bool a

-- A formula about variables, closed: every integer or truth value, where the first variable is the outermost.
abbrev pub one_integer : (TermTree → FormulaTree) → FormulaTree
one_integer a = all_int (a (index 0))

abbrev pub two_integers : (TermTree → TermTree → FormulaTree) → FormulaTree
two_integers a = all_int (all_int (a (index 1) (index 0)))

abbrev pub three_integers : (TermTree → TermTree → TermTree → FormulaTree) → FormulaTree
three_integers a = all_int (all_int (all_int (a (index 2) (index 1) (index 0))))

abbrev pub four_integers : (TermTree → TermTree → TermTree → TermTree → FormulaTree) → FormulaTree
four_integers a = all_int (all_int (all_int (all_int (a (index 3) (index 2) (index 1) (index 0)))))

abbrev pub one_truth_value : (TermTree → FormulaTree) → FormulaTree
one_truth_value a = all_bool (a (index 0))

abbrev pub two_truth_values : (TermTree → TermTree → FormulaTree) → FormulaTree
two_truth_values a = all_bool (all_bool (a (index 1) (index 0)))

-- The axioms 1 to 26, in this order.
abbrev pub axioms : List FormulaTree
axioms =
    one_integer (λ x. x <=' x)  -- 1
    ∷ three_integers (λ x y z. x <=' y =>' y <=' z =>' x <=' z)  -- 2
    ∷ two_integers (λ x y. x <=' y =>' y <=' x =>' x =' y)  -- 3
    ∷ two_integers (λ x y. x <=' y \/' y <=' x)  -- 4
    ∷ four_integers (λ x y u v. x <=' y =>' u <=' v =>' x +' u <=' y +' v)  -- 5
    ∷ three_integers (λ x y z. 0' <=' z =>' x <=' y =>' x *' z <=' y *' z)  -- 6
    ∷ two_integers (λ x y. x <' y =>' x +' 1' <=' y)  -- 7
    ∷ two_integers (λ x y. x +' 1' <=' y =>' x <' y)  -- 8
    ∷ one_integer (λ x. ~' (x <' x))  -- 9
    ∷ two_integers (λ x y. ~' (x <=' y) =>' y <' x)  -- 10
    ∷ two_integers (λ x y. ~' (x <' y) =>' y <=' x)  -- 11
    ∷ two_integers (λ x y. x <' y =>' ~' (y <=' x))  -- 12
    ∷ two_integers (λ x y. x =' y =>' x <=' y)  -- 13
    ∷ two_integers (λ x y. x <' y =>' x <=' y)  -- 14
    ∷ two_integers (λ x y. x *' y =' 0' =>' x =' 0' \/' y =' 0')  -- 15
    ∷ three_integers (λ x y z. x +' z <=' y +' z =>' x <=' y)  -- 16
    ∷ two_integers (λ x y. x =' y =>' y =' x)  -- 17
    ∷ holds (boolean true)  -- 18
    ∷ (~' (holds (boolean false)))  -- 19
    ∷ one_truth_value (λ b. holds (not' b) =>' ~' (holds b))  -- 20
    ∷ one_truth_value (λ b. ~' (holds b) =>' holds (not' b))  -- 21
    ∷ two_truth_values (λ a b. holds (a and' b) =>' holds a /\' holds b)  -- 22
    ∷ two_truth_values (λ a b. holds a =>' holds b =>' holds (a and' b))  -- 23
    ∷ two_truth_values (λ a b. holds (a or' b) =>' holds a \/' holds b)  -- 24
    ∷ two_truth_values (λ a b. holds a =>' holds (a or' b))  -- 25
    ∷ two_truth_values (λ a b. holds b =>' holds (a or' b))  -- 26
    ∷ []

-- the axiom with a number, counted from 1
unfoldable pub axiom_at : ℕ → Option FormulaTree
axiom_at zero = None
axiom_at (suc i) = slice_get axioms i

-- a term and a formula about the next integer: x + 1 in place of the variable x that has the index `at`
abbrev pub next_term : ℕ → TermTree → TermTree
next_term at t = instance_term (shift_term t 1 (suc at)) (index 0 +' 1') at

abbrev pub next_at : ℕ → FormulaTree → FormulaTree
next_at at a = instance (shift a 1 (suc at)) (index 0 +' 1') at

-- The induction form of a formula about one integer variable x, index 0: `A[0] => (all x:int. 0 <= x => A => A') => all x:int. 0 <= x => A`,
-- where A' is the formula about the next integer.
abbrev pub induction : FormulaTree → FormulaTree
induction a = instance a 0' 0 =>' all_int (0' <=' index 0 =>' a =>' next_at 0 a) =>' all_int (0' <=' index 0 =>' a)
