-- Where the first subterm without a sort is, from where it is in the parts.
use Rattle.std.proofs.Common.{◌≡◌, ℕ, ◌+◌, Bool, true, false, ◌&&◌, cond, if◌then◌else◌, List, [], ◌∷◌, ◌++◌, length, Option, Some, None, is_none, arith, ap, sym, ◌∙◌, refl, add-zero}
use Rattle.std.specs.List.{position_from}
use Rattle.std.proofs.lemmas.List.{length-append}
use Rattle.ck_base.specs.declared.decl.Sort.{Sort}
use Rattle.ck_base.specs.declared.decl.Decl.{Decl}
use Rattle.sorted_terms.specs.Tree.{UnarySign, BinarySign, TermTree, name, index, integer, boolean, unary, binary}
use Rattle.sorted_terms.specs.Sorts.{sort_of, has_sort, same_sort, unary_takes, binary_takes, binary_gives, term_size, subterms, bad_place_from}

-- an item that is found in the front of a list is the one that is found in the list
append_found : {A : Type 0} (p : A → Bool) (i : ℕ) (xs ys : List A) (k : ℕ) → position_from p i xs ≡ Some k → position_from p i (xs ++ ys) ≡ Some k
append_found p i [] ys k e = absurd (cc)
append_found p i (x ∷ xs) ys k e = by (append_found p (i + 1) xs ys k) (p x) e where
  by : (position_from p (i + 1) xs ≡ Some k → position_from p (i + 1) (xs ++ ys) ≡ Some k) → (b : Bool) → cond b (Some i) (position_from p (i + 1) xs) ≡ Some k → cond b (Some i) (position_from p (i + 1) (xs ++ ys)) ≡ Some k
  by later true e = e
  by later false e = later e

-- where the front has no such item, the search goes on behind it
append_missed : {A : Type 0} (p : A → Bool) (i : ℕ) (xs ys : List A) → position_from p i xs ≡ None → position_from p i (xs ++ ys) ≡ position_from p (i + length xs) ys
append_missed p i [] ys e = ap (λ n. position_from p n ys) (sym (add-zero i))
append_missed p i (x ∷ xs) ys e = by (append_missed p (i + 1) xs ys) (p x) e where
  by : (position_from p (i + 1) xs ≡ None → position_from p (i + 1) (xs ++ ys) ≡ position_from p (i + 1 + length xs) ys) → (b : Bool) → cond b (Some i) (position_from p (i + 1) xs) ≡ None → cond b (Some i) (position_from p (i + 1) (xs ++ ys)) ≡ position_from p (i + length (x ∷ xs)) ys
  by later true e = absurd (cc)
  by later false e =
      let same : i + 1 + length xs ≡ i + length (x ∷ xs) = omega arith in
      later e ∙ ap (λ n. position_from p n ys) same

length_subterms : (t : TermTree) → length (subterms t) ≡ term_size t
length_subterms (name x) = refl
length_subterms (index k) = refl
length_subterms (integer n) = refl
length_subterms (boolean b) = refl
length_subterms (unary sign t) =
    rw (length-append (subterms t) (unary sign t ∷ []), length_subterms t) (omega arith)
length_subterms (binary sign s t) =
    rw (length-append (subterms s) (subterms t ++ binary sign s t ∷ []), length-append (subterms t) (binary sign s t ∷ []), length_subterms s, length_subterms t) (omega arith)

unary_sorted : (o : Option Sort) (takes s : Sort) → (if has_sort o takes then Some takes else None) ≡ Some s → (r : Sort) × (o ≡ Some r)
unary_sorted None takes s e = absurd (cc)
unary_sorted (Some r) takes s e = (r, refl)

binary_sorted : (o q : Option Sort) (takes gives s : Sort) → (if has_sort o takes && has_sort q takes then Some gives else None) ≡ Some s → ((r : Sort) × (o ≡ Some r)) × ((r : Sort) × (q ≡ Some r))
binary_sorted None q takes gives s e = absurd (cc)
binary_sorted (Some r) None takes gives s e = by (same_sort r takes) e where
  by : (b : Bool) → (if b && false then Some gives else None) ≡ Some s → ((r' : Sort) × (Some r ≡ Some r')) × ((r' : Sort) × (None ≡ Some r'))
  by true e = absurd (cc)
  by false e = absurd (cc)
binary_sorted (Some r) (Some r') takes gives s e = ((r, refl), (r', refl))

module _ (names : List Decl) (variables : List Sort) where
  lacks_sort : TermTree → Bool
  lacks_sort t = is_none (sort_of names variables t)

  itself_sorted : (t : TermTree) (i : ℕ) (s : Sort) → sort_of names variables t ≡ Some s → position_from lacks_sort i (t ∷ []) ≡ None
  unfolding lacks_sort
  itself_sorted t i s e = rw e refl

  itself_unsorted : (t : TermTree) (i : ℕ) → sort_of names variables t ≡ None → position_from lacks_sort i (t ∷ []) ≡ Some i
  unfolding lacks_sort
  itself_unsorted t i e = rw e refl

  -- a term with a sort has no part without one
  all_sorted : (t : TermTree) (i : ℕ) (s : Sort) → sort_of names variables t ≡ Some s → position_from lacks_sort i (subterms t) ≡ None
  all_sorted (name x) i s e = itself_sorted (name x) i s e
  all_sorted (index k) i s e = itself_sorted (index k) i s e
  all_sorted (integer n) i s e = itself_sorted (integer n) i s e
  all_sorted (boolean b) i s e = itself_sorted (boolean b) i s e
  all_sorted (unary sign t) i s e =
      let part = unary_sorted (sort_of names variables t) (unary_takes sign) s e in
      append_missed lacks_sort i (subterms t) (unary sign t ∷ []) (all_sorted t i part.0 part.1)
      ∙ itself_sorted (unary sign t) (i + length (subterms t)) s e
  all_sorted (binary sign u t) i s e =
      let parts = binary_sorted (sort_of names variables u) (sort_of names variables t) (binary_takes sign) (binary_gives sign) s e in
      append_missed lacks_sort i (subterms u) (subterms t ++ binary sign u t ∷ []) (all_sorted u i parts.0.0 parts.0.1)
      ∙ append_missed lacks_sort (i + length (subterms u)) (subterms t) (binary sign u t ∷ []) (all_sorted t (i + length (subterms u)) parts.1.0 parts.1.1)
      ∙ itself_sorted (binary sign u t) (i + length (subterms u) + length (subterms t)) s e

  pub name_itself : (x i : ℕ) → sort_of names variables (name x) ≡ None → bad_place_from names variables i (name x) ≡ Some i
  unfolding bad_place_from lacks_sort
  name_itself x i e = itself_unsorted (name x) i e

  pub index_itself : (k i : ℕ) → sort_of names variables (index k) ≡ None → bad_place_from names variables i (index k) ≡ Some i
  unfolding bad_place_from lacks_sort
  index_itself k i e = itself_unsorted (index k) i e

  pub unary_part : (sign : UnarySign) (t : TermTree) (i k : ℕ) → bad_place_from names variables i t ≡ Some k → bad_place_from names variables i (unary sign t) ≡ Some k
  unfolding bad_place_from
  unary_part sign t i k e = append_found _ i (subterms t) (unary sign t ∷ []) k e

  pub unary_itself : (sign : UnarySign) (t : TermTree) (s : Sort) (i : ℕ) → sort_of names variables t ≡ Some s → sort_of names variables (unary sign t) ≡ None → bad_place_from names variables i (unary sign t) ≡ Some (i + term_size t)
  unfolding bad_place_from lacks_sort
  unary_itself sign t s i h e =
      append_missed lacks_sort i (subterms t) (unary sign t ∷ []) (all_sorted t i s h)
      ∙ itself_unsorted (unary sign t) (i + length (subterms t)) e
      ∙ ap (λ n. Some (i + n)) (length_subterms t)

  pub binary_left : (sign : BinarySign) (s t : TermTree) (i k : ℕ) → bad_place_from names variables i s ≡ Some k → bad_place_from names variables i (binary sign s t) ≡ Some k
  unfolding bad_place_from
  binary_left sign s t i k e = append_found _ i (subterms s) (subterms t ++ binary sign s t ∷ []) k e

  pub binary_right : (sign : BinarySign) (s t : TermTree) (r : Sort) (i k : ℕ) → sort_of names variables s ≡ Some r → bad_place_from names variables (i + term_size s) t ≡ Some k → bad_place_from names variables i (binary sign s t) ≡ Some k
  unfolding bad_place_from lacks_sort
  binary_right sign s t r i k h e =
      append_missed lacks_sort i (subterms s) (subterms t ++ binary sign s t ∷ []) (all_sorted s i r h)
      ∙ ap (λ n. position_from lacks_sort (i + n) (subterms t ++ binary sign s t ∷ [])) (length_subterms s)
      ∙ append_found lacks_sort (i + term_size s) (subterms t) (binary sign s t ∷ []) k e

  pub binary_itself : (sign : BinarySign) (s t : TermTree) (r r' : Sort) (i : ℕ) → sort_of names variables s ≡ Some r → sort_of names variables t ≡ Some r' → sort_of names variables (binary sign s t) ≡ None → bad_place_from names variables i (binary sign s t) ≡ Some (i + term_size s + term_size t)
  unfolding bad_place_from lacks_sort
  binary_itself sign s t r r' i h h' e =
      append_missed lacks_sort i (subterms s) (subterms t ++ binary sign s t ∷ []) (all_sorted s i r h)
      ∙ append_missed lacks_sort (i + length (subterms s)) (subterms t) (binary sign s t ∷ []) (all_sorted t (i + length (subterms s)) r' h')
      ∙ itself_unsorted (binary sign s t) (i + length (subterms s) + length (subterms t)) e
      ∙ ap Some (rw (length_subterms s, length_subterms t) refl)
