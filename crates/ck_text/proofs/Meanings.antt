-- A text means something exactly where each of its names does.
use Rattle.std.proofs.Common.{◌≡◌, ℕ, suc, ◌+◌, Bool, true, false, ◌&&◌, ◌++◌, refl, sym, ap, ap₂, subst, ◌∙◌, Option, Some, None}
use Rattle.std.specs.Option.{option_map, is_some}
use Rattle.std.specs.List.{list_all}
use Rattle.std.proofs.lemmas.List.Folds.{list_all-append}
use Rattle.sorted_terms.specs.Tree.{TermTree}
use Rattle.sorted_terms.specs.Tree as term
use Rattle.formulas.specs.Tree.{FormulaTree}
use Rattle.formulas.specs.Tree as formula
use Rattle.ck_text.specs.declared.token.Sign.{Sign}
use Rattle.ck_text.specs.declared.token.Prefix.TheVariants as prefixes
use Rattle.ck_text.specs.Texts.{Joint, formulas, terms, joint, joins_terms, on_terms, prefix, binder, Text, truth, falsity, name, number, led, joined, closed, is_term, suits, opens, Fits, Bindings, under, meaning_of, both_of, negated, joined_term, term_of, quantifier_of, sort_or_int, joined_formula, formula_of, names_in, is_known}
use Rattle.ck_text.specs.Laws.{TermMeans, FormulaMeans}

some_map : {A B : Type 0} (f : A → B) (o : Option A) → is_some (option_map f o) ≡ is_some o
some_map f (Some a) = refl
some_map f None = refl

some_both : {A B : Type 0} (f : A → A → B) (o p : Option A) → is_some (both_of f o p) ≡ (is_some o && is_some p)
some_both f (Some a) (Some b) = refl
some_both f (Some a) None = refl
some_both f None p = refl

alone : (b : Bool) → b ≡ (b && true)
alone true = refl
alone false = refl

-- all names of the two operands
both_known : (scope : Bindings) (a b : Text) (x y : Bool) → x ≡ list_all is_known (names_in scope a) → y ≡ list_all is_known (names_in scope b)
    → (x && y) ≡ list_all is_known (names_in scope a ++ names_in scope b)
both_known scope a b x y e f = ap₂ (λ x y. x && y) e f ∙ sym (list_all-append is_known (names_in scope a) (names_in scope b))

negated_known : (scope : Bindings) (a : Text) → is_some (term_of scope a) ≡ list_all is_known (names_in scope a) → is_some (negated a (term_of scope a)) ≡ list_all is_known (names_in scope a)
negated_known scope (number n) e = refl
negated_known scope a e = some_map (term.unary term.minus) (term_of scope a) ∙ e

joined_known : (j : Joint) (t u : Option TermTree) → joins_terms j ≡ true → is_some (joined_term j t u) ≡ (is_some t && is_some u)
joined_known (formulas c) t u on = absurd (cc)
joined_known (terms s) t u on = some_both (term.binary s) t u

term_operand : (o : Sign) (a : Text) → on_terms o ≡ true → suits (on_terms o) (is_term a) ≡ true → is_term a ≡ true
term_operand o a on h = subst (λ b. suits b (is_term a) ≡ true) on h

term_known : (scope : Bindings) (limit around : ℕ) (a : Text) → Fits limit around a → is_term a ≡ true → is_some (term_of scope a) ≡ list_all is_known (names_in scope a)
term_known scope limit around (truth b) h is = refl
term_known scope limit around falsity h is = absurd (cc)
term_known scope limit around (name bytes) h is = alone (is_some (meaning_of scope bytes))
term_known scope limit around (number n) h is = refl
term_known scope limit around (led (prefix prefixes.Tilde) a) h is = absurd (cc)
term_known scope limit around (led (prefix prefixes.Not) a) h is = some_map (term.unary term.denial) (term_of scope a) ∙ term_known scope limit (suc around) a h.3 h.1
term_known scope limit around (led (prefix prefixes.Minus) a) h is = negated_known scope a (term_known scope limit (suc around) a h.3 h.1)
term_known scope limit around (led (binder q bytes s) a) h is = absurd (cc)
term_known scope limit around (joined o a b) h is =
    joined_known (joint o) (term_of scope a) (term_of scope b) is
    ∙ both_known scope a b (is_some (term_of scope a)) (is_some (term_of scope b))
    (term_known scope limit around a h.5 (term_operand o a is h.2)) (term_known scope limit (opens o + around) b h.6 (term_operand o b is h.3))
term_known scope limit around (closed a) h is = term_known scope limit (suc around) a h.1 is

formula_known : (scope : Bindings) (limit around : ℕ) (a : Text) → Fits limit around a → is_some (formula_of scope a) ≡ list_all is_known (names_in scope a)
formula_known scope limit around (truth b) h = refl
formula_known scope limit around falsity h = refl
formula_known scope limit around (name bytes) h = some_map formula.holds (meaning_of scope bytes) ∙ alone (is_some (meaning_of scope bytes))
formula_known scope limit around (number n) h = refl
formula_known scope limit around (led (prefix prefixes.Tilde) a) h = some_map formula.not_so (formula_of scope a) ∙ formula_known scope limit (suc around) a h.3
formula_known scope limit around (led (prefix prefixes.Not) a) h =
    some_map formula.holds (term_of scope (led (prefix prefixes.Not) a)) ∙ term_known scope limit around (led (prefix prefixes.Not) a) h refl
formula_known scope limit around (led (prefix prefixes.Minus) a) h =
    some_map formula.holds (term_of scope (led (prefix prefixes.Minus) a)) ∙ term_known scope limit around (led (prefix prefixes.Minus) a) h refl
formula_known scope limit around (led (binder q bytes s) a) h =
    some_map (formula.quantified (quantifier_of q) (sort_or_int s)) (formula_of (under bytes scope) a) ∙ formula_known (under bytes scope) limit (suc around) a h.3
formula_known scope limit around (joined o a b) h =
    by (joint o) refl (formula_known scope limit around a h.5) (formula_known scope limit (opens o + around) b h.6) (term_known scope limit around (joined o a b) h) where
      by : (j : Joint) → joint o ≡ j → is_some (formula_of scope a) ≡ list_all is_known (names_in scope a) → is_some (formula_of scope b) ≡ list_all is_known (names_in scope b)
          → (on_terms o ≡ true → is_some (term_of scope (joined o a b)) ≡ list_all is_known (names_in scope a ++ names_in scope b))
          → is_some (joined_formula j (formula_of scope a) (formula_of scope b) (term_of scope (joined o a b))) ≡ list_all is_known (names_in scope a ++ names_in scope b)
      by (formulas c) e f g k = some_both (formula.joined c) (formula_of scope a) (formula_of scope b) ∙ both_known scope a b (is_some (formula_of scope a)) (is_some (formula_of scope b)) f g
      by (terms s) e f g k = some_map formula.holds (term_of scope (joined o a b)) ∙ k (ap joins_terms e)
formula_known scope limit around (closed a) h = formula_known scope limit (suc around) a h.1

pub term_means : TermMeans
term_means limit scope a h = term_known scope limit 0 a h.0 h.1

pub formula_means : FormulaMeans
formula_means limit scope a h = formula_known scope limit 0 a h.0
