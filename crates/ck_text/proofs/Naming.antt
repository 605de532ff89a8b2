-- The names that are printed: which one each is, and what it means in its scope.
use Rattle.std.proofs.Common.{arith, ◌≡◌, ℕ, zero, suc, ◌+◌, ◌-◌, ◌^◌, ◌≤◌, ◌<◌, ◌==◌, Bool, true, false, not, ◌&&◌, ◌||◌, nat_le, List, [], ◌∷◌, length, slice_get, Some, None, decimal, refl, sym, ap, ◌∙◌, subst, ⊎_elim}
use Rattle.std.specs.List.{list_all, list_any}
use Rattle.std.specs.Str.{bytes_eq}
use Rattle.std.proofs.lemmas.Bool.{true≢false, and_parts, or_left, false_from_ne_true, leb-true, lt-ltb, ne_eqb, cases_lt}
use Rattle.std.proofs.lemmas.Slice.Eq.{bytes_eq-Decides}
use Rattle.ck_base.specs.Names.{is_letter, is_digit, is_name_byte, is_name, is_new, AreNames, number_of, reserved_words}
use Rattle.ck_base.specs.declared.decl.Decl.{Decl}
use Rattle.sorted_terms.specs.Tree as term
use Rattle.ck_text.specs.Tokens.{is_word, value_from}
use Rattle.ck_text.specs.Texts.{Bindings, place_of, variable_of, meaning_of}
use Rattle.ck_text.specs.Printing.{variable_name, name_of}
use Rattle.ck_text.proofs.Decimals.{plain}

same_bytes : (a : List ℕ) → bytes_eq a a ≡ true
same_bytes a = (bytes_eq-Decides a a).1 refl

apart : (a b : List ℕ) → (a ≡ b → ⊥) → bytes_eq a b ≡ false
apart a b h = false_from_ne_true (bytes_eq a b) (λ e. h ((bytes_eq-Decides a b).0 e))

-- # Variables

-- numbers of variables with different decimals have different names
decimals_differ : (j k : ℕ) → j < 10 ^ 64 → k < 10 ^ 64 → (j ≡ k → ⊥) → decimal j ≡ decimal k → ⊥
decimals_differ j k h i n e = n (sym (plain j h).value ∙ ap (value_from 0) e ∙ (plain k i).value)

variables_differ : (j k : ℕ) → j < 10 ^ 64 → k < 10 ^ 64 → (j ≡ k → ⊥) → bytes_eq (variable_name j) (variable_name k) ≡ false
variables_differ j k h i n = apart (decimal j) (decimal k) (decimals_differ j k h i n)

variables_same : (k : ℕ) → bytes_eq (variable_name k) (variable_name k) ≡ true
variables_same k = same_bytes (decimal k)

-- the names that so many quantifiers bind around a place, the innermost first
abbrev pub bound_names : (variables quantifiers : ℕ) → List (List ℕ)
bound_names variables zero = []
bound_names variables (suc n) = variable_name (n + variables) ∷ bound_names variables n

-- a variable in scope has the name of no quantifier
scope_unbound : (variables n j : ℕ) → n + variables < 10 ^ 64 → j < variables → place_of (variable_name j) (bound_names variables n) ≡ None
scope_unbound variables zero j few h = refl
scope_unbound variables (suc n) j few h =
    rw (variables_differ j (n + variables) (omega (arith, few, h)) (omega (arith, few)) (λ e. omega (arith, e, h)), scope_unbound variables n j (omega (arith, few)) h) refl

-- and a variable that a quantifier binds has its name
bound_at : (variables n j k : ℕ) → n + variables < 10 ^ 64 → j + suc k ≡ n + variables → k < n → place_of (variable_name j) (bound_names variables n) ≡ Some k
bound_at variables zero j k few e h = absurd (omega (arith, h))
bound_at variables (suc n) j zero few e h =
    let same : j ≡ n + variables = omega (arith, e) in
    subst (λ j. place_of (variable_name j) (bound_names variables (suc n)) ≡ Some 0) (sym same) (rw (variables_same (n + variables)) refl)
bound_at variables (suc n) j (suc k) few e h =
    rw (variables_differ j (n + variables) (omega (arith, few, e)) (omega (arith, few)) (λ d. omega (arith, d, e)), bound_at variables n j k (omega (arith, few)) (omega (arith, e)) (omega (arith, h))) refl

variable_is : (variables k : ℕ) → k < 10 ^ 64 → k < variables → variable_of variables (variable_name k) ≡ Some k
variable_is variables k few h = let p = plain k few in rw (p.without, p.value, lt-ltb k variables h) refl

-- # Declared names

-- a letter comes first, and the whole is a word
letter_first : (w : List ℕ) → is_name w ≡ true → (b : ℕ) × (more : List ℕ) × (w ≡ b ∷ more) × (is_letter b ≡ true)
unfolding is_name
letter_first [] h = absurd (cc)
letter_first (b ∷ bytes) h =
    let p = and_parts (is_letter b && list_all is_name_byte bytes && nat_le (length bytes) 31) (not (list_any (bytes_eq (b ∷ bytes)) reserved_words)) h in
    let q = and_parts (is_letter b && list_all is_name_byte bytes) (nat_le (length bytes) 31) p.0 in
    (b, bytes, refl, (and_parts (is_letter b) (list_all is_name_byte bytes) q.0).0)

name_is_word : (w : List ℕ) → is_name w ≡ true → is_word w ≡ true
unfolding is_name
name_is_word [] h = absurd (cc)
name_is_word (b ∷ bytes) h =
    let p = and_parts (is_letter b && list_all is_name_byte bytes && nat_le (length bytes) 31) (not (list_any (bytes_eq (b ∷ bytes)) reserved_words)) h in
    let q = and_parts (is_letter b && list_all is_name_byte bytes) (nat_le (length bytes) 31) p.0 in
    let r = and_parts (is_letter b) (list_all is_name_byte bytes) q.0 in
    rw (r.0, r.1, p.1) refl

no_underscore : (b : ℕ) → is_letter b ≡ true → (b == 95) ≡ false
no_underscore b h = let l : 97 ≤ b = leb-true 97 b (and_parts (nat_le 97 b) (nat_le b 122) h).0 in ne_eqb b 95 (λ e. omega (arith, e, l))

-- it is no name of a variable
name_unbound : (b : ℕ) (more : List ℕ) (variables n : ℕ) → (b == 95) ≡ false → place_of (b ∷ more) (bound_names variables n) ≡ None
name_unbound b more variables zero h = refl
name_unbound b more variables (suc n) h = rw (h, name_unbound b more variables n h) refl

no_variable : (b : ℕ) (more : List ℕ) (variables : ℕ) → (b == 95) ≡ false → variable_of variables (b ∷ more) ≡ None
no_variable b more variables h = rw h refl

name_at : (names : List Decl) (x : ℕ) → AreNames names → x < length names → is_name (name_of (slice_get names x)) ≡ true
name_at [] x h l = absurd (omega (arith, l))
name_at (d ∷ names) zero h l = h.0
name_at (d ∷ names) (suc x) h l = name_at names x h.2 (omega (arith, l))

both_parts : (b c : Bool) → (not b && c) ≡ true → (b ≡ false) × (c ≡ true)
both_parts false c e = (refl, e)
both_parts true c e = absurd (cc)

new_apart : (w : List ℕ) (names : List Decl) (x : ℕ) → is_new w names ≡ true → x < length names → bytes_eq (name_of (slice_get names x)) w ≡ false
new_apart w [] x h l = absurd (omega (arith, l))
new_apart w (d ∷ names) zero h l = apart d.name w (λ e. apart_from (both_parts (bytes_eq w d.name) (is_new w names) h).0 (sym e)) where
  apart_from : bytes_eq w d.name ≡ false → w ≡ d.name → ⊥
  apart_from f e = true≢false (sym ((bytes_eq-Decides w d.name).1 e) ∙ f)
new_apart w (d ∷ names) (suc x) h l = new_apart w names x (both_parts (bytes_eq w d.name) (is_new w names) h).1 (omega (arith, l))

-- and it has its number
numbered : (names : List Decl) (x : ℕ) → AreNames names → x < length names → number_of (name_of (slice_get names x)) names ≡ Some x
numbered [] x h l = absurd (omega (arith, l))
numbered (d ∷ names) zero h l = rw (same_bytes d.name) refl
numbered (d ∷ names) (suc x) h l = rw (new_apart d.name names x h.1 (omega (arith, l)), numbered names x h.2 (omega (arith, l))) refl

-- # Meaning

-- the scope under so many quantifiers with printed names
abbrev pub printed_scope : List Decl → (variables quantifiers : ℕ) → Bindings
printed_scope names variables n = record { names = names; variables = variables; bound = bound_names variables n }

length_bound : (variables n : ℕ) → length (bound_names variables n) ≡ n
length_bound variables zero = refl
length_bound variables (suc n) = ap suc (length_bound variables n)

module _ (names : List Decl) (variables n : ℕ) where
  pub name_means : (x : ℕ) → AreNames names → x < length names → meaning_of (printed_scope names variables n) (name_of (slice_get names x)) ≡ Some (term.name x)
  name_means x h l =
      let p = letter_first (name_of (slice_get names x)) (name_at names x h l) in
      let e = no_underscore p.0 p.3 in
      let unbound : place_of (name_of (slice_get names x)) (bound_names variables n) ≡ None = ap (λ w. place_of w (bound_names variables n)) p.2 ∙ name_unbound p.0 p.1 variables n e in
      let free : variable_of variables (name_of (slice_get names x)) ≡ None = ap (variable_of variables) p.2 ∙ no_variable p.0 p.1 variables e in
      rw (unbound, free, numbered names x h l) refl

  pub index_means : (k : ℕ) → n + variables < 10 ^ 64 → k < n + variables → meaning_of (printed_scope names variables n) (variable_name (n + variables - 1 - k)) ≡ Some (term.index k)
  index_means k few h = ⊎_elim inner outer (cases_lt k n) where
    inner : k < n → meaning_of (printed_scope names variables n) (variable_name (n + variables - 1 - k)) ≡ Some (term.index k)
    inner l = rw (bound_at variables n (n + variables - 1 - k) k few (omega (arith, h)) l) refl

    outer : n ≤ k → meaning_of (printed_scope names variables n) (variable_name (n + variables - 1 - k)) ≡ Some (term.index k)
    outer l =
        let j : ℕ = n + variables - 1 - k in
        let inside : j < variables = omega (arith, h, l) in
        let back : n + (variables - 1 - j) ≡ k = omega (arith, h, l) in
        rw (scope_unbound variables n j few inside, variable_is variables j (omega (arith, few, inside)) inside, length_bound variables n, back) refl

-- # Words

digits_bytes : (digits : List ℕ) → list_all is_digit digits ≡ true → list_all is_name_byte digits ≡ true
digits_bytes [] h = refl
digits_bytes (b ∷ digits) h = let p = and_parts (is_digit b) (list_all is_digit digits) h in rw (middle (is_letter b) (is_digit b) (b == 95) p.0, digits_bytes digits p.1) refl where
  middle : (x y z : Bool) → y ≡ true → (x || y || z) ≡ true
  middle true y z e = refl
  middle false y z e = or_left y z e

pub variable_is_word : (k : ℕ) → k < 10 ^ 64 → is_word (variable_name k) ≡ true
variable_is_word k h = let p = plain k h in ap (λ l. is_word (95 ∷ l)) p.whole ∙ by (p.first) (p.more) p.digit p.digits where
  by : (b : ℕ) (more : List ℕ) → is_digit b ≡ true → list_all is_digit more ≡ true → is_word (95 ∷ b ∷ more) ≡ true
  by b more e f = rw (digits_bytes (b ∷ more) (rw (e, f) refl)) refl

pub name_word : (names : List Decl) (x : ℕ) → AreNames names → x < length names → is_word (name_of (slice_get names x)) ≡ true
name_word names x h l = name_is_word (name_of (slice_get names x)) (name_at names x h l)
