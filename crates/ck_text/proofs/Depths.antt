-- The levels of a text are the depth of the tree that it means.
use Rattle.std.proofs.Common.{◌≡◌, ℕ, ◌+◌, ◌-◌, max, List, length, arith, refl, subst, ap, ap₂, ◌∙◌, Option, Some, None}
use Rattle.std.specs.Option.{option_map}
use Rattle.ck_base.specs.Names.{number_of}
use Rattle.sorted_terms.specs.Tree.{TermTree}
use Rattle.sorted_terms.specs.Tree as term
use Rattle.sorted_terms.specs.Sorts.{term_depth}
use Rattle.formulas.specs.Tree.{FormulaTree}
use Rattle.formulas.specs.Tree as formula
use Rattle.formulas.specs.Sorts.{depth}
use Rattle.ck_text.specs.declared.token.Prefix.TheVariants as prefixes
use Rattle.ck_text.specs.Texts.{Joint, formulas, terms, joint, prefix, binder, Text, truth, falsity, name, number, led, joined, closed, Bindings, under, first_of, place_of, variable_of, meaning_of, both_of, negated, joined_term, term_of, quantifier_of, sort_or_int, joined_formula, formula_of}
use Rattle.ck_text.specs.Reading.{negated_levels, term_levels, joined_levels, formula_levels}
use Rattle.ck_text.specs.ReadingLaws.{TermLevels, FormulaLevels}

-- the tree that is there has that depth
abbrev HasDepth : {A : Type 0} → (A → ℕ) → Option A → ℕ → Type 0
HasDepth deep (Some a) n = deep a ≡ n
HasDepth deep None n = Unit {0}

map_depth : {A B : Type 0} (deep : A → ℕ) (deeper : B → ℕ) (f : A → B) → ((a : A) → deeper (f a) ≡ 1 + deep a)
    → (o : Option A) (n : ℕ) → HasDepth deep o n → HasDepth deeper (option_map f o) (1 + n)
map_depth deep deeper f one (Some a) n h = one a ∙ ap (λ n. 1 + n) h
map_depth deep deeper f one None n h = tt

both_depth : {A B : Type 0} (deep : A → ℕ) (deeper : B → ℕ) (f : A → A → B) → ((a b : A) → deeper (f a b) ≡ 1 + max (deep a) (deep b))
    → (o p : Option A) (m n : ℕ) → HasDepth deep o m → HasDepth deep p n → HasDepth deeper (both_of f o p) (1 + max m n)
both_depth deep deeper f one (Some a) (Some b) m n h k = one a b ∙ ap₂ (λ m n. 1 + max m n) h k
both_depth deep deeper f one (Some a) None m n h k = tt
both_depth deep deeper f one None p m n h k = tt

leaf_depth : (f : ℕ → TermTree) → ((k : ℕ) → term_depth (f k) ≡ 1) → (o : Option ℕ) → HasDepth term_depth (option_map f o) 1
leaf_depth f one (Some k) = one k
leaf_depth f one None = tt

first_depth : (o p : Option TermTree) → HasDepth term_depth o 1 → HasDepth term_depth p 1 → HasDepth term_depth (first_of o p) 1
first_depth (Some t) p h k = h
first_depth None p h k = k

name_depth : (scope : Bindings) (bytes : List ℕ) → HasDepth term_depth (meaning_of scope bytes) 1
name_depth scope bytes =
    first_depth (option_map term.index (place_of bytes scope.bound)) _ (leaf_depth term.index (λ k. refl) (place_of bytes scope.bound))
    (first_depth (option_map (λ k. term.index (length scope.bound + (scope.variables - 1 - k))) (variable_of scope.variables bytes)) (option_map term.name (number_of bytes scope.names))
    (leaf_depth (λ k. term.index (length scope.bound + (scope.variables - 1 - k))) (λ k. refl) (variable_of scope.variables bytes))
    (leaf_depth term.name (λ k. refl) (number_of bytes scope.names)))

negated_depth : (scope : Bindings) (a : Text) → HasDepth term_depth (term_of scope a) (term_levels a) → HasDepth term_depth (negated a (term_of scope a)) (negated_levels a (term_levels a))
negated_depth scope (number n) h = refl
negated_depth scope a h = map_depth term_depth term_depth (term.unary term.minus) (λ t. refl) (term_of scope a) (term_levels a) h

joined_depth : (j : Joint) (t u : Option TermTree) (m n : ℕ) → HasDepth term_depth t m → HasDepth term_depth u n → HasDepth term_depth (joined_term j t u) (1 + max m n)
joined_depth (formulas c) t u m n h k = tt
joined_depth (terms s) t u m n h k = both_depth term_depth term_depth (term.binary s) (λ t u. refl) t u m n h k

term_deep : (scope : Bindings) (a : Text) → HasDepth term_depth (term_of scope a) (term_levels a)
term_deep scope (truth b) = refl
term_deep scope falsity = tt
term_deep scope (name bytes) = name_depth scope bytes
term_deep scope (number n) = refl
term_deep scope (led (prefix prefixes.Tilde) a) = tt
term_deep scope (led (prefix prefixes.Not) a) = map_depth term_depth term_depth (term.unary term.denial) (λ t. refl) (term_of scope a) (term_levels a) (term_deep scope a)
term_deep scope (led (prefix prefixes.Minus) a) = negated_depth scope a (term_deep scope a)
term_deep scope (led (binder q bytes s) a) = tt
term_deep scope (joined o a b) = joined_depth (joint o) (term_of scope a) (term_of scope b) (term_levels a) (term_levels b) (term_deep scope a) (term_deep scope b)
term_deep scope (closed a) = term_deep scope a

holds_depth : (o : Option TermTree) (n : ℕ) → HasDepth term_depth o n → HasDepth depth (option_map formula.holds o) (1 + n)
holds_depth o n h = map_depth term_depth depth formula.holds (λ t. refl) o n h

-- a denied formula has one level more, as `bottom` has one
depth_least : (a : FormulaTree) → max (depth a) 1 ≡ depth a
depth_least formula.bottom = refl
depth_least (formula.holds t) = omega arith
depth_least (formula.joined c a b) = omega arith
depth_least (formula.quantified q s a) = omega arith

formula_joined_depth : (j : Joint) (a b : Option FormulaTree) (t : Option TermTree) (k m n : ℕ) → HasDepth depth a k → HasDepth depth b m → HasDepth term_depth t n
    → HasDepth depth (joined_formula j a b t) (joined_levels j k m n)
formula_joined_depth (formulas c) a b t k m n h i e = both_depth depth depth (formula.joined c) (λ a b. refl) a b k m h i
formula_joined_depth (terms s) a b t k m n h i e = holds_depth t n e

formula_deep : (scope : Bindings) (a : Text) → HasDepth depth (formula_of scope a) (formula_levels a)
formula_deep scope (truth b) = refl
formula_deep scope falsity = refl
formula_deep scope (name bytes) = holds_depth (meaning_of scope bytes) 1 (name_depth scope bytes)
formula_deep scope (number n) = refl
formula_deep scope (led (prefix prefixes.Tilde) a) = map_depth depth depth formula.not_so (λ a. ap (λ n. 1 + n) (depth_least a)) (formula_of scope a) (formula_levels a) (formula_deep scope a)
formula_deep scope (led (prefix prefixes.Not) a) = holds_depth (term_of scope (led (prefix prefixes.Not) a)) (term_levels (led (prefix prefixes.Not) a)) (term_deep scope (led (prefix prefixes.Not) a))
formula_deep scope (led (prefix prefixes.Minus) a) = holds_depth (term_of scope (led (prefix prefixes.Minus) a)) (term_levels (led (prefix prefixes.Minus) a)) (term_deep scope (led (prefix prefixes.Minus) a))
formula_deep scope (led (binder q bytes s) a) =
    map_depth depth depth (formula.quantified (quantifier_of q) (sort_or_int s)) (λ a. refl) (formula_of (under bytes scope) a) (formula_levels a) (formula_deep (under bytes scope) a)
formula_deep scope (joined o a b) =
    formula_joined_depth (joint o) (formula_of scope a) (formula_of scope b) (term_of scope (joined o a b)) (formula_levels a) (formula_levels b) (term_levels (joined o a b))
    (formula_deep scope a) (formula_deep scope b) (term_deep scope (joined o a b))
formula_deep scope (closed a) = formula_deep scope a

pub term_levels_are : TermLevels
term_levels_are scope a t e = subst (λ o. HasDepth term_depth o (term_levels a)) e (term_deep scope a)

pub formula_levels_are : FormulaLevels
formula_levels_are scope a f e = subst (λ o. HasDepth depth o (formula_levels a)) e (formula_deep scope a)
