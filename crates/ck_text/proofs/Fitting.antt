-- The text of a tree is built by the grammar, and nests at most twice as deep as the tree.
use Rattle.std.proofs.Common.{arith, ◌≡◌, ℕ, suc, ◌+◌, ◌≤◌, max, pos, negsuc, Bool, true, false, nat_le, List, Some, refl, ap, ◌∙◌}
use Rattle.std.proofs.lemmas.Bool.{cond_both, leb-true}
use Rattle.std.proofs.Math.Nat.{le-max_left, le-max_right}
use Rattle.ck_base.specs.declared.decl.Decl.{Decl}
use Rattle.sorted_terms.specs.Tree.{TermTree, BinarySign}
use Rattle.sorted_terms.specs.Tree as term
use Rattle.sorted_terms.specs.Sorts.{term_depth}
use Rattle.formulas.specs.Tree.{FormulaTree, Connective}
use Rattle.formulas.specs.Tree as formula
use Rattle.formulas.specs.Sorts.{depth}
use Rattle.ck_text.specs.declared.token.Sign.{Sign}
use Rattle.ck_text.specs.declared.token.Sign.TheVariants as sign
use Rattle.ck_text.specs.declared.token.Prefix.TheVariants as prefixes
use Rattle.ck_text.specs.Texts.{Lead, prefix, binder, Text, led, closed, left_want, right_want, lead_level, rank, on_terms, lead_on_terms, is_term, suits, opens, Fits}
use Rattle.ck_text.specs.Printing.{at_level, with_lead, with_sign, variable_name, minus_operand, term_sign, term_text, connective_sign, joined_text, quantifier_word, formula_text}
use Rattle.ck_text.specs.Laws.{TermTextIs, FormulaTextIs}
use Rattle.ck_text.proofs.Tables.{right_most, lead_most}

-- # Parts

level_rank : (wanted : ℕ) (a : Text) → wanted ≤ 11 → wanted ≤ rank (at_level wanted a)
level_rank wanted a h = cond_both (nat_le wanted (rank a)) a (closed a) (λ x. wanted ≤ rank x) (λ e. leb-true wanted (rank a) e) (λ e. h)

level_kind : (wanted : ℕ) (a : Text) → is_term (at_level wanted a) ≡ is_term a
level_kind wanted a = cond_both (nat_le wanted (rank a)) a (closed a) (λ x. is_term x ≡ is_term a) (λ e. refl) (λ e. refl)

-- at so many levels around, a part of depth k has room for itself, and for parentheses around it
abbrev Roomy : (limit k : ℕ) → Text → Type 0
Roomy limit k a = (around : ℕ) → around + (k + k) ≤ limit → Fits limit around a

left_bound : (o : Sign) → left_want o ≤ 11
left_bound sign.Implies = omega arith
left_bound o = omega arith

opens_most : (o : Sign) → opens o ≤ 1
opens_most o = cond_both (on_terms o) 0 1 (λ n. n ≤ 1) (λ e. omega arith) (λ e. omega arith)

-- what a sign before a term takes, and what it takes of an integer
pub minus_both : (P : Text → Type 0) (t : TermTree) (a : Text) → P (closed a) → P (at_level 10 a) → P (minus_operand t a)
minus_both P (term.name x) a h k = k
minus_both P (term.index x) a h k = k
minus_both P (term.integer n) a h k = h
minus_both P (term.boolean b) a h k = k
minus_both P (term.unary s t) a h k = k
minus_both P (term.binary s t u) a h k = k

-- two formulas joined are written with `~`, or with the sign of the connective
pub joined_both : (P : Text → Type 0) (c : Connective) (right : FormulaTree) (a b : Text) → P (with_lead (prefix prefixes.Tilde) a) → P (with_sign (connective_sign c) a b) → P (joined_text c right a b)
joined_both P formula.implies formula.bottom a b h k = h
joined_both P formula.implies (formula.holds t) a b h k = k
joined_both P formula.implies (formula.joined c x y) a b h k = k
joined_both P formula.implies (formula.quantified q s x) a b h k = k
joined_both P formula.and_also right a b h k = k
joined_both P formula.or_else right a b h k = k

module _ (limit : ℕ) where
  level_fits : (wanted k around : ℕ) (a : Text) → Roomy limit k a → suc (around + (k + k)) ≤ limit → Fits limit around (at_level wanted a)
  level_fits wanted k around a room h =
      cond_both (nat_le wanted (rank a)) a (closed a) (Fits limit around) (λ e. room around (omega (arith, h))) (λ e. (omega (arith, h), room (suc around) (omega (arith, h))))

  lead_roomy : (l : Lead) (k : ℕ) (a : Text) → suits (lead_on_terms l) (is_term a) ≡ true → Roomy limit k a → Roomy limit (1 + k) (with_lead l a)
  lead_roomy l k a kind room around h = (
    level_rank (lead_level l) a (lead_most l),
    ap (suits (lead_on_terms l)) (level_kind (lead_level l) a) ∙ kind,
    omega (arith, h),
    level_fits (lead_level l) k (suc around) a room (omega (arith, h)),
  )

  minus_roomy : (t : TermTree) (k : ℕ) (a : Text) → is_term a ≡ true → Roomy limit k a → Roomy limit (1 + k) (led (prefix prefixes.Minus) (minus_operand t a))
  minus_roomy t k a kind room around h =
      minus_both (λ x. Fits limit around (led (prefix prefixes.Minus) x)) t a
      (omega arith, kind, omega (arith, h), (omega (arith, h), room (suc (suc around)) (omega (arith, h))))
      (lead_roomy (prefix prefixes.Minus) k a kind room around h)

  sign_roomy : (o : Sign) (j k : ℕ) (a b : Text) → suits (on_terms o) (is_term a) ≡ true → suits (on_terms o) (is_term b) ≡ true → Roomy limit j a → Roomy limit k b → Roomy limit (1 + max j k) (with_sign o a b)
  sign_roomy o j k a b kind kind' room room' around h =
      let x : j ≤ max j k = le-max_left j k in
      let y : k ≤ max j k = le-max_right j k in
      let z : opens o ≤ 1 = opens_most o in (
        level_rank (left_want o) a (left_bound o),
        level_rank (right_want o) b (right_most o),
        ap (suits (on_terms o)) (level_kind (left_want o) a) ∙ kind,
        ap (suits (on_terms o)) (level_kind (right_want o) b) ∙ kind',
        omega (arith, h, z),
        level_fits (left_want o) j around a room (omega (arith, h, x)),
        level_fits (right_want o) k (opens o + around) b room' (omega (arith, h, y, z)),
      )

-- # Trees

sign_terms : (s : BinarySign) → on_terms (term_sign s) ≡ true
sign_terms term.plus = refl
sign_terms term.difference = refl
sign_terms term.times = refl
sign_terms term.equal = refl
sign_terms term.less = refl
sign_terms term.at_most = refl
sign_terms term.both = refl
sign_terms term.either = refl

connective_formulas : (c : Connective) → on_terms (connective_sign c) ≡ false
connective_formulas formula.implies = refl
connective_formulas formula.and_also = refl
connective_formulas formula.or_else = refl

pub term_kind : (names : List Decl) (around : ℕ) (t : TermTree) → is_term (term_text names around t) ≡ true
term_kind names around (term.name x) = refl
term_kind names around (term.index k) = refl
term_kind names around (term.integer (pos n)) = refl
term_kind names around (term.integer (negsuc n)) = refl
term_kind names around (term.boolean b) = refl
term_kind names around (term.unary term.minus t) = refl
term_kind names around (term.unary term.denial t) = refl
term_kind names around (term.binary s t u) = sign_terms s

suits_term : (on kind : Bool) → kind ≡ true → suits on kind ≡ true
suits_term true kind e = e
suits_term false kind e = refl

suits_formula : (on kind : Bool) → on ≡ false → suits on kind ≡ true
suits_formula on kind e = ap (λ b. suits b kind) e

module _ (names : List Decl) (limit : ℕ) where
  term_roomy : (t : TermTree) (around : ℕ) → Roomy limit (term_depth t) (term_text names around t)
  term_roomy (term.name x) around n h = tt
  term_roomy (term.index k) around n h = tt
  term_roomy (term.integer (pos m)) around n h = tt
  term_roomy (term.integer (negsuc m)) around n h = (omega arith, refl, omega (arith, h), tt)
  term_roomy (term.boolean b) around n h = tt
  term_roomy (term.unary term.minus t) around n h = minus_roomy limit t (term_depth t) (term_text names around t) (term_kind names around t) (term_roomy t around) n h
  term_roomy (term.unary term.denial t) around n h = lead_roomy limit (prefix prefixes.Not) (term_depth t) (term_text names around t) (term_kind names around t) (term_roomy t around) n h
  term_roomy (term.binary s t u) around n h =
      sign_roomy limit (term_sign s) (term_depth t) (term_depth u) (term_text names around t) (term_text names around u)
      (suits_term (on_terms (term_sign s)) _ (term_kind names around t)) (suits_term (on_terms (term_sign s)) _ (term_kind names around u)) (term_roomy t around) (term_roomy u around) n h

  formula_roomy : (a : FormulaTree) (around : ℕ) → Roomy limit (depth a) (formula_text names around a)
  formula_roomy formula.bottom around n h = tt
  formula_roomy (formula.holds t) around n h = term_roomy t around n (omega (arith, h))
  formula_roomy (formula.joined c a b) around n h =
      let x : depth a ≤ max (depth a) (depth b) = le-max_left (depth a) (depth b) in
      joined_both (Fits limit n) c b (formula_text names around a) (formula_text names around b)
      (lead_roomy limit (prefix prefixes.Tilde) (depth a) (formula_text names around a) refl (formula_roomy a around) n (omega (arith, h, x)))
      (sign_roomy limit (connective_sign c) (depth a) (depth b) (formula_text names around a) (formula_text names around b)
      (suits_formula _ _ (connective_formulas c)) (suits_formula _ _ (connective_formulas c)) (formula_roomy a around) (formula_roomy b around) n h)
  formula_roomy (formula.quantified q s a) around n h =
      lead_roomy limit (binder (quantifier_word q) (variable_name around) (Some s)) (depth a) (formula_text names (suc around) a) refl (formula_roomy a (suc around)) n h

pub term_text_is : TermTextIs
term_text_is names around t h = (term_roomy names 512 t around 0 (omega (arith, h)), term_kind names around t)

pub formula_text_is : FormulaTextIs
formula_text_is names around a h = (formula_roomy names 512 a around 0 (omega (arith, h)), refl)
