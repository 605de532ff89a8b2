-- A term has no more nodes than its text has tokens, and a formula no more than twice as many.
use Rattle.std.proofs.Common.{◌≡◌, ℕ, ◌+◌, ◌-◌, ◌*◌, ◌≤◌, List, ◌∷◌, [], length, arith, subst, Option, Some, None}
use Rattle.std.specs.Option.{option_map}
use Rattle.std.proofs.lemmas.List.{length-append}
use Rattle.ck_base.specs.Names.{number_of}
use Rattle.sorted_terms.specs.Tree.{TermTree}
use Rattle.sorted_terms.specs.Tree as term
use Rattle.sorted_terms.specs.Sorts.{term_size}
use Rattle.formulas.specs.Tree.{FormulaTree}
use Rattle.formulas.specs.Tree as formula
use Rattle.formulas.specs.Sorts.{size}
use Rattle.ck_text.specs.declared.token.Prefix.TheVariants as prefixes
use Rattle.ck_text.specs.declared.token.Mark.TheVariants as marks
use Rattle.ck_text.specs.Tokens as token
use Rattle.ck_text.specs.declared.token.Sign.{Sign}
use Rattle.ck_text.specs.Texts.{Joint, formulas, terms, joint, prefix, binder, Text, truth, falsity, name, number, led, joined, closed, lead_tokens, tokens, Bindings, under, first_of, place_of, variable_of, meaning_of, both_of, negated, joined_term, term_of, quantifier_of, sort_or_int, joined_formula, formula_of}
use Rattle.ck_text.specs.ReadingLaws.{TermNodes, FormulaNodes}

-- the tree that is there has at most so many nodes
abbrev pub HasMost : {A : Type 0} → (A → ℕ) → Option A → ℕ → Type 0
HasMost nodes (Some a) n = nodes a ≤ n
HasMost nodes None n = Unit {0}

more : {A : Type 0} (nodes : A → ℕ) (o : Option A) (m n : ℕ) → m ≤ n → HasMost nodes o m → HasMost nodes o n
more nodes (Some a) m n h k = omega (arith, h, k)
more nodes None m n h k = tt

leaf_most : (f : ℕ → TermTree) → ((k : ℕ) → term_size (f k) ≤ 1) → (o : Option ℕ) → HasMost term_size (option_map f o) 1
leaf_most f one (Some k) = one k
leaf_most f one None = tt

first_most : (o p : Option TermTree) → HasMost term_size o 1 → HasMost term_size p 1 → HasMost term_size (first_of o p) 1
first_most (Some t) p h k = h
first_most None p h k = k

name_most : (scope : Bindings) (bytes : List ℕ) → HasMost term_size (meaning_of scope bytes) 1
name_most scope bytes =
    first_most (option_map term.index (place_of bytes scope.bound)) _ (leaf_most term.index (λ k. omega arith) (place_of bytes scope.bound))
    (first_most (option_map (λ k. term.index (length scope.bound + (scope.variables - 1 - k))) (variable_of scope.variables bytes)) (option_map term.name (number_of bytes scope.names))
    (leaf_most (λ k. term.index (length scope.bound + (scope.variables - 1 - k))) (λ k. omega arith) (variable_of scope.variables bytes))
    (leaf_most term.name (λ k. omega arith) (number_of bytes scope.names)))

unary_most : (s : term.UnarySign) (o : Option TermTree) (n : ℕ) → HasMost term_size o n → HasMost term_size (option_map (term.unary s) o) (1 + n)
unary_most s (Some t) n h = omega (arith, h)
unary_most s None n h = tt

negated_most : (scope : Bindings) (a : Text) (n : ℕ) → HasMost term_size (term_of scope a) n → HasMost term_size (negated a (term_of scope a)) (1 + n)
negated_most scope (number k) n h = omega arith
negated_most scope a n h = unary_most term.minus (term_of scope a) n h

binary_most : (j : Joint) (o p : Option TermTree) (m n : ℕ) → HasMost term_size o m → HasMost term_size p n → HasMost term_size (joined_term j o p) (1 + m + n)
binary_most (formulas c) o p m n h k = tt
binary_most (terms s) (Some t) (Some u) m n h k = omega (arith, h, k)
binary_most (terms s) (Some t) None m n h k = tt
binary_most (terms s) None p m n h k = tt

joined_length : (o : Sign) (a b : Text) → length (tokens (joined o a b)) ≡ 1 + length (tokens a) + length (tokens b)
joined_length o a b = omega (arith, length-append (tokens a) (token.joining o ∷ tokens b))

closed_length : (a : Text) → length (tokens a) ≤ length (tokens (closed a))
closed_length a = omega (arith, length-append (tokens a) (token.mark marks.Close ∷ []))

pub term_most : (scope : Bindings) (a : Text) → HasMost term_size (term_of scope a) (length (tokens a))
term_most scope (truth b) = omega arith
term_most scope falsity = tt
term_most scope (name bytes) = name_most scope bytes
term_most scope (number n) = omega arith
term_most scope (led (prefix prefixes.Tilde) a) = tt
term_most scope (led (prefix prefixes.Not) a) = more term_size (option_map (term.unary term.denial) (term_of scope a)) (1 + length (tokens a)) (length (tokens (led (prefix prefixes.Not) a))) (omega arith) (unary_most term.denial (term_of scope a) (length (tokens a)) (term_most scope a))
term_most scope (led (prefix prefixes.Minus) a) = more term_size (negated a (term_of scope a)) (1 + length (tokens a)) (length (tokens (led (prefix prefixes.Minus) a))) (omega arith) (negated_most scope a (length (tokens a)) (term_most scope a))
term_most scope (led (binder q bytes s) a) = tt
term_most scope (joined o a b) =
    more term_size (joined_term (joint o) (term_of scope a) (term_of scope b)) (1 + length (tokens a) + length (tokens b)) (length (tokens (joined o a b))) (omega (arith, joined_length o a b))
    (binary_most (joint o) (term_of scope a) (term_of scope b) (length (tokens a)) (length (tokens b)) (term_most scope a) (term_most scope b))
term_most scope (closed a) = more term_size (term_of scope a) (length (tokens a)) (length (tokens (closed a))) (closed_length a) (term_most scope a)

holds_most : (o : Option TermTree) (n : ℕ) → 1 ≤ n → HasMost term_size o n → HasMost size (option_map formula.holds o) (2 * n)
holds_most (Some t) n h k = omega (arith, h, k)
holds_most None n h k = tt

some_tokens : (a : Text) → 1 ≤ length (tokens a)
some_tokens (truth b) = omega arith
some_tokens falsity = omega arith
some_tokens (name bytes) = omega arith
some_tokens (number n) = omega arith
some_tokens (led (prefix p) a) = omega arith
some_tokens (led (binder q bytes s) a) = omega arith
some_tokens (joined o a b) = omega (arith, joined_length o a b)
some_tokens (closed a) = omega (arith, closed_length a, some_tokens a)

-- a term that stands as a formula
term_formula : (scope : Bindings) (a : Text) → HasMost size (option_map formula.holds (term_of scope a)) (2 * length (tokens a))
term_formula scope a = holds_most (term_of scope a) (length (tokens a)) (some_tokens a) (term_most scope a)

denied_most : (o : Option FormulaTree) (n : ℕ) → HasMost size o (2 * n) → HasMost size (option_map formula.not_so o) (2 * (1 + n))
denied_most (Some a) n h = omega (arith, h)
denied_most None n h = tt

quantified_most : (q : formula.Quantifier) (s : _) (o : Option FormulaTree) (m n : ℕ) → 1 + n ≤ m → HasMost size o (2 * n) → HasMost size (option_map (formula.quantified q s) o) (2 * m)
quantified_most q s (Some a) m n e h = omega (arith, e, h)
quantified_most q s None m n e h = tt

both_most : (c : formula.Connective) (o p : Option FormulaTree) (m n : ℕ) → HasMost size o (2 * m) → HasMost size p (2 * n) → HasMost size (both_of (formula.joined c) o p) (2 * (1 + m + n))
both_most c (Some a) (Some b) m n h k = omega (arith, h, k)
both_most c (Some a) None m n h k = tt
both_most c None p m n h k = tt

joint_most : (j : Joint) (a b : Option FormulaTree) (t : Option TermTree) (k m n : ℕ) → k ≡ 1 + m + n → HasMost size a (2 * m) → HasMost size b (2 * n) → HasMost size (option_map formula.holds t) (2 * k) → HasMost size (joined_formula j a b t) (2 * k)
joint_most (formulas c) a b t k m n e h i g = more size (both_of (formula.joined c) a b) (2 * (1 + m + n)) (2 * k) (omega (arith, e)) (both_most c a b m n h i)
joint_most (terms s) a b t k m n e h i g = g

pub formula_most : (scope : Bindings) (a : Text) → HasMost size (formula_of scope a) (2 * length (tokens a))
formula_most scope (truth b) = term_formula scope (truth b)
formula_most scope falsity = omega arith
formula_most scope (name bytes) = term_formula scope (name bytes)
formula_most scope (number n) = term_formula scope (number n)
formula_most scope (led (prefix prefixes.Tilde) a) =
    more size (option_map formula.not_so (formula_of scope a)) (2 * (1 + length (tokens a))) (2 * length (tokens (led (prefix prefixes.Tilde) a))) (omega arith) (denied_most (formula_of scope a) (length (tokens a)) (formula_most scope a))
formula_most scope (led (prefix prefixes.Not) a) = term_formula scope (led (prefix prefixes.Not) a)
formula_most scope (led (prefix prefixes.Minus) a) = term_formula scope (led (prefix prefixes.Minus) a)
formula_most scope (led (binder q bytes s) a) =
    quantified_most (quantifier_of q) (sort_or_int s) (formula_of (under bytes scope) a) (length (tokens (led (binder q bytes s) a))) (length (tokens a))
    (omega (arith, length-append (lead_tokens (binder q bytes s)) (tokens a))) (formula_most (under bytes scope) a)
formula_most scope (joined o a b) =
    joint_most (joint o) (formula_of scope a) (formula_of scope b) (term_of scope (joined o a b)) (length (tokens (joined o a b))) (length (tokens a)) (length (tokens b)) (joined_length o a b)
    (formula_most scope a) (formula_most scope b) (term_formula scope (joined o a b))
formula_most scope (closed a) = more size (formula_of scope a) (2 * length (tokens a)) (2 * length (tokens (closed a))) (omega (arith, closed_length a)) (formula_most scope a)

pub term_nodes : TermNodes
term_nodes scope a t e = subst (λ o. HasMost term_size o (length (tokens a))) e (term_most scope a)

pub formula_nodes : FormulaNodes
formula_nodes scope a f e = subst (λ o. HasMost size o (2 * length (tokens a))) e (formula_most scope a)
