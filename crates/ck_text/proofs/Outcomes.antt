-- What the reader over items answers is what reading comes to.
use Rattle.std.proofs.Common.{◌≡◌, ⊎_elim, ℕ, zero, suc, ◌≤◌, ◌<◌, min, Bool, true, false, List, [], ◌∷◌, ◌++◌, length, take, drop, refl, sym, subst, ap, ◌∙◌, arith, append_assoc, append-nil, Option, Some, None, Ok, Err}
use Rattle.std.specs.Prelude.{is_none}
use Rattle.std.specs.declared.result.Result.{Result}
use Rattle.std.specs.Option.{option_map, is_some}
use Rattle.std.proofs.lemmas.Bool.{le-leb, lt-leb, cases_lt}
use Rattle.std.proofs.lemmas.List.{length-append, length-drop, take-append-drop}
use Rattle.std.proofs.Math.Seq.{take-append_seam}
use Rattle.formulas.specs.Tree.{FormulaTree}
use Rattle.sorted_terms.specs.Tree.{TermTree}
use Rattle.ck_text.specs.Tokens.{Token, Placed, scan, bare}
use Rattle.ck_text.specs.Texts.{Text, IsText, Bindings, term_of, formula_of}
use Rattle.ck_text.specs.Machine as texts
use Rattle.ck_text.specs.Laws.{Begins, StopsAt}
use Rattle.ck_text.specs.Reading.{text_levels, Tree, of_term, of_formula, tree_of, unknown_at, left_of, column_of, column_at, tokens_of, IsWritten, Fault, by_syntax, by_depth, by_name, IsOutcome}
use Rattle.ck_text.specs.ReadingLaws.{OneOutcome, ReadsOutcomes}
use Rattle.ck_text.specs.Items.{as_term, as_formula, levels_asked, tree_asked, or_unknown, answered, read_bytes}
use Rattle.ck_text.proofs.Exactness.{exactly}
use Rattle.ck_text.proofs.Meanings.{term_means, formula_means}
use Rattle.ck_text.proofs.Unknowns.{unknown_names}
use Rattle.ck_text.proofs.Shown.{item_of}
use Rattle.ck_text.proofs.Kept.{IsTerm, IsFormula, term_kept, formula_kept}
use Rattle.ck_text.proofs.Following.{place, run_kept, run_stops}

-- # Lists

pub bare_length : (placed : List Placed) → length (bare placed) ≡ length placed
bare_length [] = refl
bare_length (p ∷ placed) = ap suc (bare_length placed)

-- what is not there in tokens is not there in places
none_left : (k : ℕ) (placed : List Placed) → drop k (bare placed) ≡ [] → drop k placed ≡ []
none_left zero [] e = refl
none_left zero (p ∷ placed) e = absurd (cc)
none_left (suc k) [] e = refl
none_left (suc k) (p ∷ placed) e = none_left k placed e

none_later : (k l : ℕ) (placed : List Placed) → k < l → drop k placed ≡ [] → drop l placed ≡ []
none_later k zero placed h e = absurd (omega (arith, h))
none_later zero (suc l) [] h e = refl
none_later zero (suc l) (p ∷ placed) h e = absurd (cc)
none_later (suc k) (suc l) [] h e = refl
none_later (suc k) (suc l) (p ∷ placed) h e = none_later k l placed (omega (arith, h)) e

-- more tokens from the front begin with fewer, and the next
begins_with : (k l : ℕ) (ts : List Token) (t : Token) (rest : List Token) → k < l → drop k ts ≡ t ∷ rest → (more : List Token) × (take l ts ≡ take k ts ++ (t ∷ more))
begins_with k zero ts t rest h e = absurd (omega (arith, h))
begins_with zero (suc l) [] t rest h e = absurd (cc)
begins_with zero (suc l) (u ∷ ts) t rest h e = let same : u ≡ t = cc in (take l ts, ap (λ x. x ∷ take l ts) same)
begins_with (suc k) (suc l) [] t rest h e = absurd (cc)
begins_with (suc k) (suc l) (u ∷ ts) t rest h e = let m = begins_with k l ts t rest (omega (arith, h)) e in (m.0, ap (λ ts. u ∷ ts) m.1)

-- the front of a list that ends with so much of it
pub front_is : (k : ℕ) (ts front rest : List Token) → k ≤ length ts → ts ≡ front ++ rest → rest ≡ drop k ts → front ≡ take k ts
front_is k ts front rest h e r =
    let n : length front ≡ k = omega (arith, h, ap length e ∙ length-append front rest, ap length r ∙ length-drop k ts) in
    sym (take-append_seam front rest) ∙ ap (take (length front)) (sym e) ∙ ap (λ n. take n ts) n

is_there : {A : Type 0} (o : Option A) → is_some o ≡ true → (a : A) × (o ≡ Some a)
is_there (Some a) e = (a, refl)
is_there None e = absurd (cc)

not_there : {A : Type 0} (o : Option A) → is_none o ≡ true → o ≡ None
not_there None e = refl
not_there (Some a) e = absurd (cc)

some_map : {A B : Type 0} (f : A → B) (o : Option A) → is_some (option_map f o) ≡ is_some o
some_map f (Some a) = refl
some_map f None = refl

-- # Texts

-- what is kept of a text of the asked form
abbrev pub AskedKept : ℕ → Bool → Bindings → Text → Type 0
AskedKept most asked scope a =
    (levels_asked most asked (item_of most scope a) ≡ min (text_levels asked a) (suc most))
    × ((tree : Tree) → text_levels asked a ≤ most → tree_of asked scope a ≡ Some tree → tree_asked asked (item_of most scope a) ≡ tree)

term_asked : (o : Option TermTree) (made tree : Tree) → IsTerm o made → option_map of_term o ≡ Some tree → of_term (as_term made) ≡ tree
term_asked (Some t) made tree h e = let same : of_term t ≡ tree = cc in ap (λ x. of_term (as_term x)) h ∙ same
term_asked None made tree h e = absurd (cc)

formula_asked : (o : Option FormulaTree) (made tree : Tree) → IsFormula o made → option_map of_formula o ≡ Some tree → of_formula (as_formula made) ≡ tree
formula_asked (Some a) made tree h e = let same : of_formula a ≡ tree = cc in ap of_formula h ∙ same
formula_asked None made tree h e = absurd (cc)

pub asked_kept : (limit most : ℕ) (asked : Bool) (scope : Bindings) (a : Text) → IsText limit asked a → AskedKept most asked scope a
asked_kept limit most true scope a h =
    let k = term_kept most scope limit 0 a h.0 h.1 in
    (k.0, (λ tree l e. term_asked (term_of scope a) (item_of most scope a).tree tree (k.1 l) e))
asked_kept limit most false scope a h =
    let k = formula_kept most scope limit 0 a h.0 in
    (k.0, (λ tree l e. formula_asked (formula_of scope a) (item_of most scope a).tree tree (k.1 l) e))

-- a text means a tree exactly where no name of it is the first that means nothing
means_known : (limit : ℕ) (asked : Bool) (scope : Bindings) (a : Text) → IsText limit asked a → is_some (tree_of asked scope a) ≡ is_none (unknown_at 0 scope a)
means_known limit true scope a h = some_map of_term (term_of scope a) ∙ term_means limit scope a h ∙ sym (unknown_names 0 scope a)
means_known limit false scope a h = some_map of_formula (formula_of scope a) ∙ formula_means limit scope a h ∙ sym (unknown_names 0 scope a)

module _ (limit most : ℕ) (asked : Bool) (scope : Bindings) (bytes : List ℕ) where
  abbrev all : List Placed
  all = scan 0 bytes

  abbrev answer : Result Tree Fault
  answer = read_bytes limit most asked scope bytes

  is_read : (a : Text) → IsWritten limit asked bytes a → texts.read limit asked (tokens_of bytes) ≡ Ok a
  is_read a w = ap (texts.read limit asked) (sym w.1) ∙ (exactly limit asked).1 a w.0

  -- the answer by what is kept of a text
  of_text : (a : Text) → IsWritten limit asked bytes a → answer ≡ answered most asked bytes (Ok (item_of most scope a, option_map (place most asked scope all) (unknown_at 0 scope a)))
  of_text a w = ap (answered most asked bytes) (run_kept most asked scope limit all all (texts.wanting []) None a tt refl refl (is_read a w))

  deep_answer : (a : Text) → IsWritten limit asked bytes a → most < text_levels asked a → answer ≡ Err (by_depth (column_at bytes 0))
  deep_answer a w h =
      let k = asked_kept limit most asked scope a w.0 in
      of_text a w ∙ rw (lt-leb (levels_asked most asked (item_of most scope a)) most (omega (arith, k.0, h))) refl

  small_answer : (a : Text) → IsWritten limit asked bytes a → text_levels asked a ≤ most
      → answer ≡ or_unknown bytes (tree_asked asked (item_of most scope a)) (option_map (place most asked scope all) (unknown_at 0 scope a))
  small_answer a w h =
      let k = asked_kept limit most asked scope a w.0 in
      of_text a w ∙ rw (le-leb (levels_asked most asked (item_of most scope a)) most (omega (arith, k.0, h))) refl

  name_answer : (a : Text) (k : ℕ) → IsWritten limit asked bytes a → text_levels asked a ≤ most → unknown_at 0 scope a ≡ Some k → answer ≡ Err (by_name (column_at bytes k))
  name_answer a k w h e = small_answer a w h ∙ ap (λ o. or_unknown bytes (tree_asked asked (item_of most scope a)) (option_map (place most asked scope all) o)) e

  tree_answer : (a : Text) (tree : Tree) → IsWritten limit asked bytes a → text_levels asked a ≤ most → tree_of asked scope a ≡ Some tree → answer ≡ Ok tree
  tree_answer a tree w h e =
      let none : unknown_at 0 scope a ≡ None = not_there (unknown_at 0 scope a) (sym (means_known limit asked scope a w.0) ∙ ap is_some e) in
      small_answer a w h
      ∙ ap (λ o. or_unknown bytes (tree_asked asked (item_of most scope a)) (option_map (place most asked scope all) o)) none
      ∙ ap Ok ((asked_kept limit most asked scope a w.0).1 tree h e)

  -- # Where the reader stops

  record Stops : Type 0 where
    k : ℕ
    stands : StopsAt limit asked (take k (tokens_of bytes)) (drop k (tokens_of bytes))
    is : answer ≡ Err (by_syntax (column_at bytes k))

  stops : (rest : List Token) → texts.read limit asked (tokens_of bytes) ≡ Err rest → Stops
  stops rest e =
      let s = (exactly limit asked).2 (tokens_of bytes) rest e in
      let r = run_stops most asked scope limit all (texts.wanting []) None rest e in
      let most_k : r.0 ≤ length (tokens_of bytes) = omega (arith, r.1, bare_length all) in
      record {
        k = r.0;
        stands = subst (λ x. StopsAt limit asked (take r.0 (tokens_of bytes)) x) r.2
            (subst (λ x. StopsAt limit asked x rest) (front_is r.0 (tokens_of bytes) s.0 rest most_k s.1 r.2) s.2);
        is = ap (answered most asked bytes) r.3;
      }

  begins_of : (front rest : List Token) → StopsAt limit asked front rest → Begins limit asked front
  begins_of front [] s = s.0
  begins_of front (t ∷ rest) s = s.0

  -- no text of the asked form begins with tokens of which some have none
  no_more : (k l : ℕ) → k < l → StopsAt limit asked (take k (tokens_of bytes)) (drop k (tokens_of bytes)) → Begins limit asked (take l (tokens_of bytes)) → drop k (tokens_of bytes) ≡ []
  no_more k l h s b = by (drop k (tokens_of bytes)) refl s where
    by : (rest : List Token) → drop k (tokens_of bytes) ≡ rest → StopsAt limit asked (take k (tokens_of bytes)) rest → rest ≡ []
    by [] e s = refl
    by (t ∷ rest) e s =
        let m = begins_with k l (tokens_of bytes) t rest h e in
        absurd (s.1 b.0 (m.0 ++ b.1) b.2 (b.3 ∙ ap (λ x. x ++ b.1) m.1 ∙ append_assoc (take k (tokens_of bytes)) (t ∷ m.0) b.1
        ∙ sym (append_assoc (take k (tokens_of bytes)) (t ∷ []) (m.0 ++ b.1))))

  same_end : (k l : ℕ) → k < l → drop k (tokens_of bytes) ≡ [] → column_at bytes k ≡ column_at bytes l
  same_end k l h e =
      let none : drop k all ≡ [] = none_left k all e in
      ap (λ x. column_of bytes (left_of x)) (none ∙ sym (none_later k l all h none))

  no_text : (a : Text) (k : ℕ) → IsWritten limit asked bytes a → StopsAt limit asked (take k (tokens_of bytes)) (drop k (tokens_of bytes)) → ⊥
  no_text a k w s = by (drop k (tokens_of bytes)) refl s where
    by : (rest : List Token) → drop k (tokens_of bytes) ≡ rest → StopsAt limit asked (take k (tokens_of bytes)) rest → ⊥
    by [] e s = s.1 a w.0 (w.1 ∙ sym (take-append-drop k (tokens_of bytes)) ∙ ap (λ x. take k (tokens_of bytes) ++ x) e ∙ append-nil (take k (tokens_of bytes)))
    by (t ∷ rest) e s =
        s.1 a rest w.0 (w.1 ∙ sym (take-append-drop k (tokens_of bytes)) ∙ ap (λ x. take k (tokens_of bytes) ++ x) e ∙ sym (append_assoc (take k (tokens_of bytes)) (t ∷ []) rest))

  same_column : (k l : ℕ) → StopsAt limit asked (take k (tokens_of bytes)) (drop k (tokens_of bytes)) → StopsAt limit asked (take l (tokens_of bytes)) (drop l (tokens_of bytes)) → column_at bytes k ≡ column_at bytes l
  same_column k l s t =
      ⊎_elim (λ (h : k < l). same_end k l h (no_more k l h s (begins_of (take l (tokens_of bytes)) (drop l (tokens_of bytes)) t)))
      (λ (h : l ≤ k). ⊎_elim (λ (i : l < k). sym (same_end l k i (no_more l k i t (begins_of (take k (tokens_of bytes)) (drop k (tokens_of bytes)) s))))
      (λ (i : k ≤ l). let same : k ≡ l = omega (arith, h, i) in ap (column_at bytes) same) (cases_lt l k)) (cases_lt k l)

  -- # Both ways

  of_small : (a : Text) → IsWritten limit asked bytes a → text_levels asked a ≤ most → (o : Option ℕ) → unknown_at 0 scope a ≡ o → IsOutcome limit most asked scope bytes answer
  of_small a w h (Some k) e = subst (λ x. IsOutcome limit most asked scope bytes x) (sym (name_answer a k w h e)) (a, w, h, k, e, refl)
  of_small a w h None e =
      let t = is_there (tree_of asked scope a) (means_known limit asked scope a w.0 ∙ ap is_none e) in
      subst (λ x. IsOutcome limit most asked scope bytes x) (sym (tree_answer a t.0 w h t.1)) (a, w, h, t.1)

  answers : (r : Result Text (List Token)) → texts.read limit asked (tokens_of bytes) ≡ r → IsOutcome limit most asked scope bytes answer
  answers (Ok a) e =
      let w : IsWritten limit asked bytes a = (exactly limit asked).0 (tokens_of bytes) a e in
      ⊎_elim (λ (h : most < text_levels asked a). subst (λ x. IsOutcome limit most asked scope bytes x) (sym (deep_answer a w h)) (a, w, h, refl))
      (λ (h : text_levels asked a ≤ most). of_small a w h (unknown_at 0 scope a) refl) (cases_lt most (text_levels asked a))
  answers (Err rest) e = let s = stops rest e in subst (λ x. IsOutcome limit most asked scope bytes x) (sym s.is) (s.k, s.stands, refl)

  syntax_answer : (k : ℕ) → StopsAt limit asked (take k (tokens_of bytes)) (drop k (tokens_of bytes)) → (r : Result Text (List Token)) → texts.read limit asked (tokens_of bytes) ≡ r → answer ≡ Err (by_syntax (column_at bytes k))
  syntax_answer k s (Ok a) e = absurd (no_text a k ((exactly limit asked).0 (tokens_of bytes) a e) s)
  syntax_answer k s (Err rest) e = let t = stops rest e in t.is ∙ ap (λ c. Err (by_syntax c)) (same_column t.k k t.stands s)

  only_answer : (outcome : Result Tree Fault) → IsOutcome limit most asked scope bytes outcome → answer ≡ outcome
  only_answer (Ok tree) o = tree_answer o.0 tree o.1 o.2 o.3
  only_answer (Err (by_syntax column)) o = syntax_answer o.0 o.1 (texts.read limit asked (tokens_of bytes)) refl ∙ ap (λ c. Err (by_syntax c)) (sym o.2)
  only_answer (Err (by_depth column)) o = deep_answer o.0 o.1 o.2 ∙ ap (λ c. Err (by_depth c)) (sym o.3)
  only_answer (Err (by_name column)) o = name_answer o.0 o.3 o.1 o.2 o.4 ∙ ap (λ c. Err (by_name c)) (sym o.5)

pub reads_outcomes : ReadsOutcomes
reads_outcomes limit most asked scope bytes outcome = (
  (λ e. subst (λ x. IsOutcome limit most asked scope bytes x) e (answers limit most asked scope bytes (texts.read limit asked (tokens_of bytes)) refl)),
  (λ o. only_answer limit most asked scope bytes outcome o),
)

pub one_outcome : OneOutcome
one_outcome limit most asked scope bytes = (
  read_bytes limit most asked scope bytes,
  answers limit most asked scope bytes (texts.read limit asked (tokens_of bytes)) refl,
  (λ other o. sym (only_answer limit most asked scope bytes other o)),
)
