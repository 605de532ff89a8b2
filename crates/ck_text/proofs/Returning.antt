-- The text of a tree means the tree, its tokens can be written, and its printed bytes are read back.
use Rattle.std.proofs.Common.{arith, ◌≡◌, ℕ, suc, ◌+◌, ◌-◌, ◌^◌, ◌≤◌, ◌<◌, max, pos, negsuc, Bool, true, false, nat_le, List, [], ◌∷◌, ◌++◌, length, Option, Some, refl, sym, ap, ap₂, ◌∙◌, subst}
use Rattle.std.specs.Option.{option_map}
use Rattle.std.proofs.lemmas.Bool.{cond_both}
use Rattle.std.proofs.Math.Nat.{le-max_left, le-max_right}
use Rattle.ck_base.specs.Names.{AreNames}
use Rattle.ck_base.specs.declared.decl.Decl.{Decl}
use Rattle.sorted_terms.specs.Tree.{TermTree, BinarySign}
use Rattle.sorted_terms.specs.Tree as term
use Rattle.formulas.specs.Tree.{FormulaTree, Connective, not_so}
use Rattle.formulas.specs.Tree as formula
use Rattle.formulas.specs.Sorts.{depth}
use Rattle.ck_text.specs.declared.token.Sign.{Sign}
use Rattle.ck_text.specs.declared.token.Prefix.TheVariants as prefixes
use Rattle.ck_text.specs.declared.token.Mark.TheVariants as marks
use Rattle.ck_text.specs.Tokens.{Token, AreTokens, bare, scan}
use Rattle.ck_text.specs.Tokens as token
use Rattle.ck_text.specs.Texts.{formulas, terms, joint, prefix, Text, truth, falsity, name, number, led, joined, closed, left_want, right_want, rank, tokens, IsText, Bindings, under, both_of, negated, joined_term, term_of, quantifier_of, joined_formula, formula_of, whole_scope}
use Rattle.ck_text.specs.Machine.{read}
use Rattle.ck_text.specs.Printing.{at_level, with_sign, variable_name, minus_operand, term_sign, term_text, connective_sign, joined_text, quantifier_word, formula_text, printed, TermHasText, FormulaHasText}
use Rattle.ck_text.specs.Laws.{TermTextMeans, FormulaTextMeans, ReadsAs, TermReadsBack, FormulaReadsBack}
use Rattle.ck_text.proofs.Rereading.{whole_read}
use Rattle.ck_text.proofs.Rescanning.{printed_scans}
use Rattle.ck_text.proofs.Fitting.{minus_both, joined_both, term_text_is, formula_text_is}
use Rattle.ck_text.proofs.Naming.{printed_scope, name_means, index_means, variable_is_word, name_word}

-- # Parts

level_term : (scope : Bindings) (wanted : ℕ) (a : Text) → term_of scope (at_level wanted a) ≡ term_of scope a
level_term scope wanted a = cond_both (nat_le wanted (rank a)) a (closed a) (λ x. term_of scope x ≡ term_of scope a) (λ e. refl) (λ e. refl)

level_formula : (scope : Bindings) (wanted : ℕ) (a : Text) → formula_of scope (at_level wanted a) ≡ formula_of scope a
level_formula scope wanted a = cond_both (nat_le wanted (rank a)) a (closed a) (λ x. formula_of scope x ≡ formula_of scope a) (λ e. refl) (λ e. refl)

term_joint : (s : BinarySign) → joint (term_sign s) ≡ terms s
term_joint term.plus = refl
term_joint term.difference = refl
term_joint term.times = refl
term_joint term.equal = refl
term_joint term.less = refl
term_joint term.at_most = refl
term_joint term.both = refl
term_joint term.either = refl

connective_joint : (c : Connective) → joint (connective_sign c) ≡ formulas c
connective_joint formula.implies = refl
connective_joint formula.and_also = refl
connective_joint formula.or_else = refl

quantifier_back : (q : formula.Quantifier) → quantifier_of (quantifier_word q) ≡ q
quantifier_back formula.for_all = refl
quantifier_back formula.there_is = refl

-- a text that is no number alone
abbrev IsNoNumber : Text → Type 0
IsNoNumber (number n) = ⊥
IsNoNumber a = Unit {0}

negated_is : (a : Text) (t : Option TermTree) → IsNoNumber a → negated a t ≡ option_map (term.unary term.minus) t
negated_is (number n) t h = absurd h
negated_is (truth b) t h = refl
negated_is falsity t h = refl
negated_is (name bytes) t h = refl
negated_is (led l a) t h = refl
negated_is (joined o a b) t h = refl
negated_is (closed a) t h = refl

level_no_number : (wanted : ℕ) (a : Text) → IsNoNumber a → IsNoNumber (at_level wanted a)
level_no_number wanted a h = cond_both (nat_le wanted (rank a)) a (closed a) IsNoNumber (λ e. h) (λ e. tt)

-- what stands after `-` is no number, as an integer is in parentheses
operand_no_number : (names : List Decl) (around : ℕ) (t : TermTree) → IsNoNumber (minus_operand t (term_text names around t))
operand_no_number names around (term.name x) = level_no_number 10 (term_text names around (term.name x)) tt
operand_no_number names around (term.index k) = level_no_number 10 (term_text names around (term.index k)) tt
operand_no_number names around (term.integer n) = tt
operand_no_number names around (term.boolean b) = level_no_number 10 (term_text names around (term.boolean b)) tt
operand_no_number names around (term.unary term.minus t) = level_no_number 10 (term_text names around (term.unary term.minus t)) tt
operand_no_number names around (term.unary term.denial t) = level_no_number 10 (term_text names around (term.unary term.denial t)) tt
operand_no_number names around (term.binary s t u) = level_no_number 10 (term_text names around (term.binary s t u)) tt

-- # Terms

module _ (names : List Decl) (are : AreNames names) (variables n : ℕ) (few : n + variables < 10 ^ 64) where
  abbrev pub within : Bindings
  within = printed_scope names variables n

  pub term_returns : (t : TermTree) → TermHasText (length names) (n + variables) t → term_of within (term_text names (n + variables) t) ≡ Some t
  term_returns (term.name x) h = name_means names variables n x are h
  term_returns (term.index k) h = index_means names variables n k few h
  term_returns (term.integer (pos m)) h = refl
  term_returns (term.integer (negsuc m)) h = refl
  term_returns (term.boolean b) h = refl
  term_returns (term.unary term.minus t) h =
      let a : Text = term_text names (n + variables) t in
      negated_is (minus_operand t a) (term_of within (minus_operand t a)) (operand_no_number names (n + variables) t)
      ∙ ap (option_map (term.unary term.minus)) (minus_both (λ x. term_of within x ≡ term_of within a) t a refl (level_term within 10 a) ∙ term_returns t h)
  term_returns (term.unary term.denial t) h =
      ap (option_map (term.unary term.denial)) (level_term within 6 (term_text names (n + variables) t) ∙ term_returns t h)
  term_returns (term.binary s t u) h =
      let a : Text = term_text names (n + variables) t in
      let b : Text = term_text names (n + variables) u in
      let o : Sign = term_sign s in
      ap (λ j. joined_term j (term_of within (at_level (left_want o) a)) (term_of within (at_level (right_want o) b))) (term_joint s)
      ∙ ap₂ (both_of (term.binary s)) (level_term within (left_want o) a ∙ term_returns t h.0) (level_term within (right_want o) b ∙ term_returns u h.1)

-- the same, where the number of variables around is given in another way
pub term_around : (names : List Decl) → AreNames names → (variables n around : ℕ) → around ≡ n + variables → around < 10 ^ 64 → (t : TermTree) → TermHasText (length names) around t
    → term_of (printed_scope names variables n) (term_text names around t) ≡ Some t
term_around names are variables n around same few t h =
    subst (λ k. term_of (printed_scope names variables n) (term_text names k t) ≡ Some t) (sym same)
    (term_returns names are variables n (omega (arith, few, same)) t (subst (λ k. TermHasText (length names) k t) same h))

-- a term means as a formula that it holds
holds_means : (scope : Bindings) (names : List Decl) (around : ℕ) (t : TermTree) → formula_of scope (term_text names around t) ≡ option_map formula.holds (term_of scope (term_text names around t))
holds_means scope names around (term.name x) = refl
holds_means scope names around (term.index k) = refl
holds_means scope names around (term.integer (pos m)) = refl
holds_means scope names around (term.integer (negsuc m)) = refl
holds_means scope names around (term.boolean b) = refl
holds_means scope names around (term.unary term.minus t) = refl
holds_means scope names around (term.unary term.denial t) = refl
holds_means scope names around (term.binary s t u) =
    let x : Text = term_text names around (term.binary s t u) in
    let o : Sign = term_sign s in
    ap (λ j. joined_formula j (formula_of scope (at_level (left_want o) (term_text names around t))) (formula_of scope (at_level (right_want o) (term_text names around u))) (term_of scope x)) (term_joint s)

-- # Formulas

module _ (names : List Decl) (are : AreNames names) (variables : ℕ) where
  joined_returns : (scope : Bindings) (c : Connective) (a b : FormulaTree) (x y : Text) → formula_of scope x ≡ Some a → formula_of scope y ≡ Some b → formula_of scope (joined_text c b x y) ≡ Some (formula.joined c a b)
  joined_returns scope formula.implies a formula.bottom x y h k = ap (option_map not_so) (level_formula scope 3 x ∙ h)
  joined_returns scope formula.implies a (formula.holds t) x y h k = ap₂ (both_of (formula.joined formula.implies)) (level_formula scope 1 x ∙ h) (level_formula scope 0 y ∙ k)
  joined_returns scope formula.implies a (formula.joined c d e) x y h k = ap₂ (both_of (formula.joined formula.implies)) (level_formula scope 1 x ∙ h) (level_formula scope 0 y ∙ k)
  joined_returns scope formula.implies a (formula.quantified q s d) x y h k = ap₂ (both_of (formula.joined formula.implies)) (level_formula scope 1 x ∙ h) (level_formula scope 0 y ∙ k)
  joined_returns scope formula.and_also a b x y h k = ap₂ (both_of (formula.joined formula.and_also)) (level_formula scope 3 x ∙ h) (level_formula scope 2 y ∙ k)
  joined_returns scope formula.or_else a b x y h k = ap₂ (both_of (formula.joined formula.or_else)) (level_formula scope 2 x ∙ h) (level_formula scope 1 y ∙ k)

  pub formula_returns : (a : FormulaTree) (n around : ℕ) → around ≡ n + variables → around + depth a < 10 ^ 64 → FormulaHasText (length names) around a
      → formula_of (printed_scope names variables n) (formula_text names around a) ≡ Some a
  formula_returns formula.bottom n around same few h = refl
  formula_returns (formula.holds t) n around same few h =
      holds_means (printed_scope names variables n) names around t ∙ ap (option_map formula.holds) (term_around names are variables n around same (omega (arith, few)) t h)
  formula_returns (formula.joined c a b) n around same few h =
      let x : depth a ≤ max (depth a) (depth b) = le-max_left (depth a) (depth b) in
      let y : depth b ≤ max (depth a) (depth b) = le-max_right (depth a) (depth b) in
      joined_returns (printed_scope names variables n) c a b (formula_text names around a) (formula_text names around b)
      (formula_returns a n around same (omega (arith, few, x)) h.0) (formula_returns b n around same (omega (arith, few, y)) h.1)
  formula_returns (formula.quantified q s a) n around same few h =
      ap₂ (λ q o. option_map (formula.quantified q s) o) (quantifier_back q)
      (ap (λ k. formula_of (under (variable_name k) (printed_scope names variables n)) (at_level 0 (formula_text names (suc around) a))) same
      ∙ level_formula (printed_scope names variables (suc n)) 0 (formula_text names (suc around) a)
      ∙ formula_returns a (suc n) (suc around) (omega (arith, same)) (omega (arith, few)) h)

pub term_text_means : TermTextMeans
term_text_means names variables t are few h = term_around names are variables 0 variables (omega arith) (omega (arith, few)) t h

pub formula_text_means : FormulaTextMeans
formula_text_means names variables a are few low h = formula_returns names are variables a 0 variables (omega arith) (omega (arith, few, low)) h

-- # Tokens

pub joined_are : (ts us : List Token) → AreTokens ts → AreTokens us → AreTokens (ts ++ us)
joined_are [] us h k = k
joined_are (t ∷ ts) us h k = (h.0, joined_are ts us h.1 k)

closed_are : (a : Text) → AreTokens (tokens a) → AreTokens (tokens (closed a))
closed_are a h = (tt, joined_are (tokens a) (token.mark marks.Close ∷ []) h (tt, tt))

level_are : (wanted : ℕ) (a : Text) → AreTokens (tokens a) → AreTokens (tokens (at_level wanted a))
level_are wanted a h = cond_both (nat_le wanted (rank a)) a (closed a) (λ x. AreTokens (tokens x)) (λ e. h) (λ e. closed_are a h)

sign_are : (o : Sign) (a b : Text) → AreTokens (tokens a) → AreTokens (tokens b) → AreTokens (tokens (with_sign o a b))
sign_are o a b h k =
    joined_are (tokens (at_level (left_want o) a)) (token.joining o ∷ tokens (at_level (right_want o) b)) (level_are (left_want o) a h) (tt, level_are (right_want o) b k)

module _ (names : List Decl) (are : AreNames names) where
  pub term_are : (t : TermTree) (around : ℕ) → around < 10 ^ 64 → TermHasText (length names) around t → AreTokens (tokens (term_text names around t))
  term_are (term.name x) around few h = (name_word names x are h, tt)
  term_are (term.index k) around few h = (variable_is_word (around - 1 - k) (omega (arith, few)), tt)
  term_are (term.integer (pos n)) around few h = (h, tt)
  term_are (term.integer (negsuc n)) around few h = (tt, (h, tt))
  term_are (term.boolean b) around few h = (tt, tt)
  term_are (term.unary term.minus t) around few h =
      let x : AreTokens (tokens (term_text names around t)) = term_are t around few h in
      minus_both (λ x. AreTokens (tokens (led (prefix prefixes.Minus) x))) t (term_text names around t)
      (tt, closed_are (term_text names around t) x) (tt, level_are 10 (term_text names around t) x)
  term_are (term.unary term.denial t) around few h = (tt, level_are 6 (term_text names around t) (term_are t around few h))
  term_are (term.binary s t u) around few h = sign_are (term_sign s) (term_text names around t) (term_text names around u) (term_are t around few h.0) (term_are u around few h.1)

  pub formula_are : (a : FormulaTree) (around : ℕ) → around + depth a < 10 ^ 64 → FormulaHasText (length names) around a → AreTokens (tokens (formula_text names around a))
  formula_are formula.bottom around few h = (tt, tt)
  formula_are (formula.holds t) around few h = term_are t around (omega (arith, few)) h
  formula_are (formula.joined c a b) around few h =
      let x : depth a ≤ max (depth a) (depth b) = le-max_left (depth a) (depth b) in
      let y : depth b ≤ max (depth a) (depth b) = le-max_right (depth a) (depth b) in
      let p : AreTokens (tokens (formula_text names around a)) = formula_are a around (omega (arith, few, x)) h.0 in
      let q : AreTokens (tokens (formula_text names around b)) = formula_are b around (omega (arith, few, y)) h.1 in
      joined_both (λ x. AreTokens (tokens x)) c b (formula_text names around a) (formula_text names around b)
      (tt, level_are 3 (formula_text names around a) p) (sign_are (connective_sign c) (formula_text names around a) (formula_text names around b) p q)
  formula_are (formula.quantified q s a) around few h =
      (tt, (variable_is_word around (omega (arith, few)), (tt, (tt, (tt, level_are 0 (formula_text names (suc around) a) (formula_are a (suc around) (omega (arith, few)) h))))))

-- # Together

reads : {A : Type 0} (kind : Bool) (meaning : Text → A) (a : Text) (x : A) → AreTokens (tokens a) → IsText 512 kind a → meaning a ≡ x → ReadsAs kind meaning (printed a) x
reads kind meaning a x are is means = (a, ap (read 512 kind) (printed_scans a are) ∙ whole_read 512 kind a is, means)

pub term_reads_back : TermReadsBack
term_reads_back names variables t are few low h =
    reads true (term_of (whole_scope names variables)) (term_text names variables t) (Some t)
    (term_are names are t variables (omega (arith, few)) h) (term_text_is names variables t low) (term_text_means names variables t are few h)

pub formula_reads_back : FormulaReadsBack
formula_reads_back names variables a are few low h =
    reads false (formula_of (whole_scope names variables)) (formula_text names variables a) (Some a)
    (formula_are names are a variables (omega (arith, few, low)) h) (formula_text_is names variables a low) (formula_text_means names variables a are few low h)
