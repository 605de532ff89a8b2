-- What is kept of a text: the levels that it has, counted to one more than the most, and where it has no more, the tree that it means.
use Rattle.std.proofs.Common.{◌≡◌, ℕ, suc, ◌+◌, ◌≤◌, max, min, true, refl, sym, subst, ap, ap₂, ◌∙◌, arith, Option, Some, None, nat_le, ℤ, pos, neg_ℤ, if◌then◌else◌}
use Rattle.std.proofs.lemmas.Bool.{cond_both, leb-true, leb-false, le-leb}
use Rattle.std.specs.Option.{option_map}
use Rattle.sorted_terms.specs.Tree.{TermTree, UnarySign, BinarySign}
use Rattle.sorted_terms.specs.Tree as term
use Rattle.formulas.specs.Tree.{FormulaTree, Connective}
use Rattle.formulas.specs.Tree as formula
use Rattle.ck_text.specs.declared.token.Sign.{Sign}
use Rattle.ck_text.specs.declared.token.Prefix.TheVariants as prefixes
use Rattle.ck_text.specs.Texts.{Joint, formulas, terms, joint, joins_terms, prefix, binder, Text, truth, falsity, name, number, led, joined, closed, level, on_terms, is_term, suits, opens, Fits, Bindings, under, meaning_of, both_of, negated, joined_term, term_of, quantifier_of, sort_or_int, joined_formula, formula_of}
use Rattle.ck_text.specs.Reading.{negated_levels, term_levels, joined_levels, formula_levels, Tree, of_term, of_formula}
use Rattle.ck_text.specs.Items.{Item, is_term_tree, grown, as_term, as_formula, formula_height, height, term_item, formula_item, name_item, negated_item, joint_item}
use Rattle.ck_text.proofs.Shown.{item_of, form_shown}

-- a number alone has a literal with `-` before it
abbrev negative_of : Text → Option ℤ
negative_of (number n) = Some (neg_ℤ (pos n))
negative_of a = None

name_negative : (o : Option TermTree) → (name_item o).negative ≡ None
name_negative (Some t) = refl
name_negative None = refl

negated_negative : (most : ℕ) (n : Option ℤ) (i : Item) → (negated_item most n i).negative ≡ None
negated_negative most (Some n) i = refl
negated_negative most None i = refl

joint_negative : (most : ℕ) (j : Joint) (r : ℕ) (a b : Item) → (joint_item most j r a b).negative ≡ None
joint_negative most (formulas c) r a b = refl
joint_negative most (terms s) r a b = refl

negative_shown : (most : ℕ) (scope : Bindings) (a : Text) → (item_of most scope a).negative ≡ negative_of a
negative_shown most scope (truth b) = refl
negative_shown most scope falsity = refl
negative_shown most scope (name bytes) = name_negative (meaning_of scope bytes)
negative_shown most scope (number n) = refl
negative_shown most scope (led (prefix prefixes.Tilde) a) = refl
negative_shown most scope (led (prefix prefixes.Not) a) = refl
negative_shown most scope (led (prefix prefixes.Minus) a) = negated_negative most (item_of most scope a).negative (item_of most scope a)
negative_shown most scope (led (binder q bytes s) a) = refl
negative_shown most scope (joined o a b) = joint_negative most (joint o) (level o) (item_of most scope a) (item_of most scope b)
negative_shown most scope (closed a) = refl

-- the tree of the item is the one that the text means, where it means one
abbrev pub IsTerm : Option TermTree → Tree → Type 0
IsTerm (Some t) tree = tree ≡ of_term t
IsTerm None tree = Unit {0}

abbrev pub IsFormula : Option FormulaTree → Tree → Type 0
IsFormula (Some a) tree = as_formula tree ≡ a
IsFormula None tree = Unit {0}

module _ (most : ℕ) where
  -- an item of a text with so many levels
  abbrev pub TermKept : ℕ → Item → Option TermTree → Type 0
  TermKept n i o = (i.levels ≡ min n (suc most)) × (n ≤ most → IsTerm o i.tree)

  abbrev pub FormulaKept : ℕ → Item → Option FormulaTree → Type 0
  FormulaKept n i o = (height most i ≡ min n (suc most)) × (n ≤ most → IsFormula o i.tree)

  grown_is : (m n : ℕ) → m ≡ min n (suc most) → grown most m ≡ min (1 + n) (suc most)
  grown_is m n e = cond_both (nat_le m most) (suc m) (suc most) (λ (x : ℕ). x ≡ min (1 + n) (suc most)) (λ t. omega (arith, e, leb-true m most t)) (λ t. omega (arith, e, leb-false m most t))

  max_is : (k l m n : ℕ) → k ≡ min m (suc most) → l ≡ min n (suc most) → max k l ≡ min (max m n) (suc most)
  max_is k l m n e f = omega (arith, e, f)

  -- a text with no more than the most levels is small
  small : (m n : ℕ) → m ≡ min n (suc most) → n ≤ most → nat_le m most ≡ true
  small m n e h = le-leb m most (omega (arith, e, h))

  left_small : (m n : ℕ) → 1 + max m n ≤ most → m ≤ most
  left_small m n h = omega (arith, h)

  right_small : (m n : ℕ) → 1 + max m n ≤ most → n ≤ most
  right_small m n h = omega (arith, h)

  less_small : (n : ℕ) → 1 + n ≤ most → n ≤ most
  less_small n h = omega (arith, h)

  -- terms
  term_made : (rank levels n : ℕ) (made : TermTree) (o : Option TermTree) → levels ≡ min n (suc most) → (n ≤ most → IsTerm o (of_term made)) → TermKept n (term_item most rank levels made) o
  term_made rank levels n made o e h = (e, (λ k. subst (λ b. IsTerm o (of_term (if b then made else term.index 0))) (sym (small levels n e k)) (h k)))

  unary_is : (s : UnarySign) (o : Option TermTree) (tree : Tree) → IsTerm o tree → IsTerm (option_map (term.unary s) o) (of_term (term.unary s (as_term tree)))
  unary_is s (Some t) tree h = ap (λ x. of_term (term.unary s (as_term x))) h
  unary_is s None tree h = tt

  unary_kept : (s : UnarySign) (rank n : ℕ) (i : Item) (o : Option TermTree) → TermKept n i o → TermKept (1 + n) (term_item most rank (grown most i.levels) (term.unary s (as_term i.tree))) (option_map (term.unary s) o)
  unary_kept s rank n i o h =
      term_made rank (grown most i.levels) (1 + n) (term.unary s (as_term i.tree)) (option_map (term.unary s) o) (grown_is i.levels n h.0) (λ k. unary_is s o i.tree (h.1 (less_small n k)))

  binary_is : (s : BinarySign) (o p : Option TermTree) (tree other : Tree) → IsTerm o tree → IsTerm p other → IsTerm (both_of (term.binary s) o p) (of_term (term.binary s (as_term tree) (as_term other)))
  binary_is s (Some t) (Some u) tree other h k = ap₂ (λ x y. of_term (term.binary s (as_term x) (as_term y))) h k
  binary_is s (Some t) None tree other h k = tt
  binary_is s None p tree other h k = tt

  binary_kept : (s : BinarySign) (rank m n : ℕ) (i j : Item) (o p : Option TermTree) → TermKept m i o → TermKept n j p
      → TermKept (1 + max m n) (joint_item most (terms s) rank i j) (both_of (term.binary s) o p)
  binary_kept s rank m n i j o p h k =
      term_made rank (grown most (max i.levels j.levels)) (1 + max m n) (term.binary s (as_term i.tree) (as_term j.tree)) (both_of (term.binary s) o p)
      (grown_is (max i.levels j.levels) (max m n) (max_is i.levels j.levels m n h.0 k.0))
      (λ l. binary_is s o p i.tree j.tree (h.1 (left_small m n l)) (k.1 (right_small m n l)))

  leaf_levels : 1 ≡ min 1 (suc most)
  leaf_levels = omega arith

  name_kept : (o : Option TermTree) → TermKept 1 (name_item o) o
  name_kept (Some t) = (leaf_levels, (λ k. refl))
  name_kept None = (leaf_levels, (λ k. tt))

  negated_kept : (scope : Bindings) (a : Text) (i : Item) → TermKept (term_levels a) i (term_of scope a) → TermKept (negated_levels a (term_levels a)) (negated_item most (negative_of a) i) (negated a (term_of scope a))
  negated_kept scope (number n) i h = (leaf_levels, (λ k. refl))
  negated_kept scope a i h = unary_kept term.minus 10 (term_levels a) i (term_of scope a) h

  joint_kept : (j : Joint) (rank m n : ℕ) (i k : Item) (o p : Option TermTree) → joins_terms j ≡ true → TermKept m i o → TermKept n k p → TermKept (1 + max m n) (joint_item most j rank i k) (joined_term j o p)
  joint_kept (formulas c) rank m n i k o p on h e = absurd (cc)
  joint_kept (terms s) rank m n i k o p on h e = binary_kept s rank m n i k o p h e

  term_operand : (o : Sign) (a : Text) → on_terms o ≡ true → suits (on_terms o) (is_term a) ≡ true → is_term a ≡ true
  term_operand o a on h = subst (λ b. suits b (is_term a) ≡ true) on h

  pub term_kept : (scope : Bindings) (limit around : ℕ) (a : Text) → Fits limit around a → is_term a ≡ true → TermKept (term_levels a) (item_of most scope a) (term_of scope a)
  term_kept scope limit around (truth b) h is = (leaf_levels, (λ k. refl))
  term_kept scope limit around falsity h is = absurd (cc)
  term_kept scope limit around (name bytes) h is = name_kept (meaning_of scope bytes)
  term_kept scope limit around (number n) h is = (leaf_levels, (λ k. refl))
  term_kept scope limit around (led (prefix prefixes.Tilde) a) h is = absurd (cc)
  term_kept scope limit around (led (prefix prefixes.Not) a) h is = unary_kept term.denial 6 (term_levels a) (item_of most scope a) (term_of scope a) (term_kept scope limit (suc around) a h.3 h.1)
  term_kept scope limit around (led (prefix prefixes.Minus) a) h is =
      subst (λ n. TermKept (negated_levels a (term_levels a)) (negated_item most n (item_of most scope a)) (negated a (term_of scope a))) (sym (negative_shown most scope a))
      (negated_kept scope a (item_of most scope a) (term_kept scope limit (suc around) a h.3 h.1))
  term_kept scope limit around (led (binder q bytes s) a) h is = absurd (cc)
  term_kept scope limit around (joined o a b) h is =
      joint_kept (joint o) (level o) (term_levels a) (term_levels b) (item_of most scope a) (item_of most scope b) (term_of scope a) (term_of scope b) is
      (term_kept scope limit around a h.5 (term_operand o a is h.2)) (term_kept scope limit (opens o + around) b h.6 (term_operand o b is h.3))
  term_kept scope limit around (closed a) h is = term_kept scope limit (suc around) a h.1 is

  -- formulas
  formula_made : (rank levels n : ℕ) (made : FormulaTree) (o : Option FormulaTree) → levels ≡ min n (suc most) → (n ≤ most → IsFormula o (of_formula made)) → FormulaKept n (formula_item most rank levels made) o
  formula_made rank levels n made o e h = (e, (λ k. subst (λ b. IsFormula o (of_formula (if b then made else formula.bottom))) (sym (small levels n e k)) (h k)))

  holds_height : (tree : Tree) (levels : ℕ) → is_term_tree tree ≡ true → formula_height most tree levels ≡ grown most levels
  holds_height (of_term t) levels is = refl
  holds_height (of_formula a) levels is = absurd (cc)

  holds_is : (o : Option TermTree) (tree : Tree) → IsTerm o tree → IsFormula (option_map formula.holds o) tree
  holds_is (Some t) tree h = ap as_formula h
  holds_is None tree h = tt

  holds_kept : (n : ℕ) (i : Item) (o : Option TermTree) → is_term_tree i.tree ≡ true → TermKept n i o → FormulaKept (1 + n) i (option_map formula.holds o)
  holds_kept n i o is h = (holds_height i.tree i.levels is ∙ grown_is i.levels n h.0, (λ k. holds_is o i.tree (h.1 (less_small n k))))

  wrapped_is : (f : FormulaTree → FormulaTree) (o : Option FormulaTree) (tree : Tree) → IsFormula o tree → IsFormula (option_map f o) (of_formula (f (as_formula tree)))
  wrapped_is f (Some a) tree h = ap f h
  wrapped_is f None tree h = tt

  wrapped_kept : (f : FormulaTree → FormulaTree) (rank n : ℕ) (i : Item) (o : Option FormulaTree) → FormulaKept n i o → FormulaKept (1 + n) (formula_item most rank (grown most (height most i)) (f (as_formula i.tree))) (option_map f o)
  wrapped_kept f rank n i o h =
      formula_made rank (grown most (height most i)) (1 + n) (f (as_formula i.tree)) (option_map f o) (grown_is (height most i) n h.0) (λ k. wrapped_is f o i.tree (h.1 (less_small n k)))

  both_is : (c : Connective) (o p : Option FormulaTree) (tree other : Tree) → IsFormula o tree → IsFormula p other → IsFormula (both_of (formula.joined c) o p) (of_formula (formula.joined c (as_formula tree) (as_formula other)))
  both_is c (Some a) (Some b) tree other h k = ap₂ (formula.joined c) h k
  both_is c (Some a) None tree other h k = tt
  both_is c None p tree other h k = tt

  both_kept : (c : Connective) (rank m n : ℕ) (i j : Item) (o p : Option FormulaTree) → FormulaKept m i o → FormulaKept n j p → FormulaKept (1 + max m n) (joint_item most (formulas c) rank i j) (both_of (formula.joined c) o p)
  both_kept c rank m n i j o p h k =
      formula_made rank (grown most (max (height most i) (height most j))) (1 + max m n) (formula.joined c (as_formula i.tree) (as_formula j.tree)) (both_of (formula.joined c) o p)
      (grown_is (max (height most i) (height most j)) (max m n) (max_is (height most i) (height most j) m n h.0 k.0))
      (λ l. both_is c o p i.tree j.tree (h.1 (left_small m n l)) (k.1 (right_small m n l)))

  -- a term that stands as a formula
  as_formula_kept : (scope : Bindings) (limit around : ℕ) (a : Text) → Fits limit around a → is_term a ≡ true → FormulaKept (1 + term_levels a) (item_of most scope a) (option_map formula.holds (term_of scope a))
  as_formula_kept scope limit around a h is = holds_kept (term_levels a) (item_of most scope a) (term_of scope a) (form_shown most scope a ∙ is) (term_kept scope limit around a h is)

  pub formula_kept : (scope : Bindings) (limit around : ℕ) (a : Text) → Fits limit around a → FormulaKept (formula_levels a) (item_of most scope a) (formula_of scope a)
  formula_kept scope limit around (truth b) h = as_formula_kept scope limit around (truth b) h refl
  formula_kept scope limit around falsity h = (leaf_levels, (λ k. refl))
  formula_kept scope limit around (name bytes) h = as_formula_kept scope limit around (name bytes) h refl
  formula_kept scope limit around (number n) h = as_formula_kept scope limit around (number n) h refl
  formula_kept scope limit around (led (prefix prefixes.Tilde) a) h =
      wrapped_kept formula.not_so 3 (formula_levels a) (item_of most scope a) (formula_of scope a) (formula_kept scope limit (suc around) a h.3)
  formula_kept scope limit around (led (prefix prefixes.Not) a) h = as_formula_kept scope limit around (led (prefix prefixes.Not) a) h refl
  formula_kept scope limit around (led (prefix prefixes.Minus) a) h = as_formula_kept scope limit around (led (prefix prefixes.Minus) a) h refl
  formula_kept scope limit around (led (binder q bytes s) a) h =
      wrapped_kept (formula.quantified (quantifier_of q) (sort_or_int s)) 0 (formula_levels a) (item_of most (under bytes scope) a) (formula_of (under bytes scope) a) (formula_kept (under bytes scope) limit (suc around) a h.3)
  formula_kept scope limit around (joined o a b) h =
      by (joint o) refl (formula_kept scope limit around a h.5) (formula_kept scope limit (opens o + around) b h.6) (as_formula_kept scope limit around (joined o a b) h) where
        by : (j : Joint) → joint o ≡ j → FormulaKept (formula_levels a) (item_of most scope a) (formula_of scope a) → FormulaKept (formula_levels b) (item_of most scope b) (formula_of scope b)
            → (on_terms o ≡ true → FormulaKept (1 + term_levels (joined o a b)) (joint_item most (joint o) (level o) (item_of most scope a) (item_of most scope b)) (option_map formula.holds (term_of scope (joined o a b))))
            → FormulaKept (joined_levels j (formula_levels a) (formula_levels b) (term_levels (joined o a b))) (joint_item most j (level o) (item_of most scope a) (item_of most scope b))
            (joined_formula j (formula_of scope a) (formula_of scope b) (term_of scope (joined o a b)))
        by (formulas c) e f g k = both_kept c (level o) (formula_levels a) (formula_levels b) (item_of most scope a) (item_of most scope b) (formula_of scope a) (formula_of scope b) f g
        by (terms s) e f g k =
            subst (λ j. FormulaKept (1 + term_levels (joined o a b)) (joint_item most j (level o) (item_of most scope a) (item_of most scope b)) (option_map formula.holds (term_of scope (joined o a b)))) e (k (ap joins_terms e))
  formula_kept scope limit around (closed a) h = formula_kept scope limit (suc around) a h.1
