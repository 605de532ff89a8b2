-- The files of an origin in memory: the first of a name, and reading on in one.
use Rattle.std.proofs.Common.{arith, ◌≡◌, ℕ, ◌+◌, ◌<◌, ◌≤◌, min, Bool, true, false, cond, List, [], ◌∷◌, ◌++◌, length, take, drop, slice_get, Some, None, nat_lt, refl, sym, ap, ◌∙◌, suc, zero}
use Rattle.std.specs.List.{position, position_or_len}
use Rattle.std.specs.Option.{option_map}
use Rattle.std.specs.declared.option.Option.{Option}
use Rattle.std.specs.Str.{bytes_eq}
use Rattle.std.proofs.lemmas.Bool.Decides.{nat_tests}
use Rattle.std.proofs.lemmas.List.{take-append-drop, drop-drop}
use Rattle.ck_base.specs.declared.outside.NamedBytes.{NamedBytes}
use Rattle.ck_base.specs.Outside.{content}
use Rattle.ck_base.specs.Memory.{bytes_of}

pub same_test : (a b : ℕ) → nat_lt (suc a) (suc b) ≡ nat_lt a b
same_test a b = grind (arith, nat_tests)

pub starts : (n : ℕ) → nat_lt 0 (suc n) ≡ true
starts n = grind (arith, nat_tests)

pub one_more : (n : ℕ) → 1 + n ≡ suc n
one_more n = omega arith

-- a name's bytes are those of the file at its first position
pub content_at : (files : List NamedBytes) (name : List ℕ) → content files name ≡ option_map (λ i. bytes_of (slice_get files i)) (position (λ named. bytes_eq named.name name) files)
content_at [] name = refl
content_at (f ∷ fs) name = by (content_at fs name) (bytes_eq f.name name) refl where
  later : (c d : Bool) (n m : ℕ) → c ≡ d → m ≡ suc n → option_map (λ i. bytes_of (slice_get fs i)) (cond d (Some n) None) ≡ option_map (λ i. bytes_of (slice_get (f ∷ fs) i)) (cond c (Some m) None)
  later true true n m e k = rw k refl
  later true false n m e k = absurd (cc)
  later false true n m e k = absurd (cc)
  later false false n m e k = refl

  by : content fs name ≡ option_map (λ i. bytes_of (slice_get fs i)) (position (λ named. bytes_eq named.name name) fs) → (b : Bool) → bytes_eq f.name name ≡ b → content (f ∷ fs) name ≡ option_map (λ i. bytes_of (slice_get (f ∷ fs) i)) (position (λ named. bytes_eq named.name name) (f ∷ fs))
  by ih true e = rw (e, starts (length fs)) refl
  by ih false e = rw (e, ih, one_more (position_or_len (λ named. bytes_eq named.name name) fs)) (later _ _ (position_or_len (λ named. bytes_eq named.name name) fs) _ (same_test (position_or_len (λ named. bytes_eq named.name name) fs) (length fs)) refl)

-- what was moved to the front is there
taken : (n : ℕ) (xs rest : List ℕ) → n ≤ length xs → take n (take n xs ++ rest) ≡ take n xs
taken zero xs rest h = refl
taken (suc n) [] rest h = absurd (omega arith)
taken (suc n) (x ∷ xs) rest h = ap (λ w. x ∷ w) (taken n xs rest (omega arith))

-- the bytes from a place on begin with those that a read moves, and go on from the place after them
pub read_on : (n at : ℕ) (bytes rest : List ℕ) → n ≤ length (drop at bytes) → drop at bytes ≡ take n (take n (drop at bytes) ++ rest) ++ drop (at + n) bytes
read_on n at bytes rest h = rw (taken n (drop at bytes) rest h, ← drop-drop n at bytes) (sym (take-append-drop n (drop at bytes)))

-- a read that moves nothing although there is room stands at the end
pub at_end : (n at piece room : ℕ) (bytes : List ℕ) → n ≡ min piece (min room (length (drop at bytes))) → 0 < piece → 0 < room → n ≡ 0 → drop (at + n) bytes ≡ []
at_end n at piece room bytes e p r z = rw (← drop-drop n at bytes) (none n (drop at bytes) z (omega arith)) where
  none : (n : ℕ) (xs : List ℕ) → n ≡ 0 → length xs ≡ 0 → drop n xs ≡ []
  none n [] z e = rw z refl
  none n (x ∷ xs) z e = absurd (omega arith)

-- no file has a name that is at no position
pub missing : (files : List NamedBytes) (name : List ℕ) (place : Option ℕ) → place ≡ position (λ named. bytes_eq named.name name) files → place ≡ None → content files name ≡ None
missing files name place e n = content_at files name ∙ ap (option_map (λ i. bytes_of (slice_get files i))) (sym e ∙ n)

-- a file has the name that is at a position
pub there : (files : List NamedBytes) (name : List ℕ) (place : Option ℕ) (i : ℕ) → place ≡ position (λ named. bytes_eq named.name name) files → place ≡ Some i → content files name ≡ None → ⊥
there files name place i e s n =
    let k : Some (bytes_of (slice_get files i)) ≡ None = sym (ap (option_map (λ i. bytes_of (slice_get files i))) (sym e ∙ s)) ∙ sym (content_at files name) ∙ n in
    cc
