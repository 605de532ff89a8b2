-- What a reader owes to a spelling, and that readers put together keep it.
use Rattle.std.proofs.Common.{◌≡◌, ℕ, zero, suc, ◌+◌, ◌≤◌, Bool, true, false, cond, List, [], ◌∷◌, ◌++◌, length, get_or, take, drop, replicate, Result, Ok, Err, refl, sym, ap, subst, ◌∙◌, append_assoc, arith, inl, inr, ◌⊎◌, ◌==◌}
use Rattle.std.specs.List.{AllByRecursion}
use Rattle.std.proofs.lemmas.List.{take-append-le, length-append}
use lib.Seq.{take-append-add}
use Rattle.std.proofs.lemmas.Bool.Decides.{eqb_tells}
use Rattle.cert_codec.specs.Reading.{Read, ◌>>=◌, give, one, both, after, choose}

-- ---- results

abbrev done : {A : Type 0} → A → Result A (List ℕ)
done x = Ok x

abbrev stopped : {A : Type 0} → List ℕ → Result A (List ℕ)
stopped rest = Err rest

pub ok_is : {A : Type 0} (x y : A) → done x ≡ done y → x ≡ y
ok_is x y e = cc

pub err_is : {A : Type 0} (x y : List ℕ) → stopped {A = A} x ≡ stopped {A = A} y → x ≡ y
err_is x y e = cc

pub apart : {A : Type 0} (x : A) (rest : List ℕ) → done x ≡ stopped {A = A} rest → ⊥
apart x rest e = absurd cc

-- the value of a step that did not fail
pub bind_ok : {A B : Type 0} (r : Result A (List ℕ)) (f : A → Result B (List ℕ)) (y : B) → (r >>= f) ≡ Ok y → (x : A) × (r ≡ Ok x) × (f x ≡ Ok y)
bind_ok (Ok x) f y e = (x, refl, e)
bind_ok (Err d) f y e = absurd cc

-- the step that failed
pub bind_err : {A B : Type 0} (r : Result A (List ℕ)) (f : A → Result B (List ℕ)) (rest : List ℕ) → (r >>= f) ≡ Err rest → (r ≡ Err rest) ⊎ ((x : A) × (r ≡ Ok x) × (f x ≡ Err rest))
bind_err (Ok x) f rest e = inr (x, refl, e)
bind_err {A} {B} (Err d) f rest e = inl (ap stopped (err_is {A = B} d rest e))

-- ---- lists

cons_head : (x y : ℕ) (xs ys : List ℕ) → x ∷ xs ≡ y ∷ ys → x ≡ y
cons_head x y xs ys e = ap (λ l. get_or l 0 0) e

cons_tail : (x y : ℕ) (xs ys : List ℕ) → x ∷ xs ≡ y ∷ ys → xs ≡ ys
cons_tail x y xs ys e = ap (drop 1) e

-- a front of two lists ends in the first or in the second
split : (xs ys front : List ℕ) (y : ℕ) (more : List ℕ) → xs ++ ys ≡ front ++ y ∷ more → ((z : ℕ) × (m : List ℕ) × (xs ≡ front ++ z ∷ m)) ⊎ ((f : List ℕ) × (front ≡ xs ++ f) × (ys ≡ f ++ y ∷ more))
split [] ys front y more e = inr (front, refl, e)
split (x ∷ xs) ys [] y more e = inl (x, xs, refl)
split (x ∷ xs) ys (z ∷ front) y more e =
    let head : x ≡ z = cons_head x z (xs ++ ys) (front ++ y ∷ more) e in
    elim (split xs ys front y more (cons_tail x z (xs ++ ys) (front ++ y ∷ more) e)) [
      | inl h ↦ inl (h.0, h.1, (λ i. head i ∷ h.2 i))
      | inr h ↦ inr (h.0, (λ i. sym head i ∷ h.1 i), h.2)
    ]

-- ---- levels

-- each byte stands within its bound
abbrev pub Shallow : List Bool → Type 0
Shallow = AllByRecursion (λ is_within. is_within ≡ true)

pub shallow_both : (xs ys : List Bool) → Shallow xs → Shallow ys → Shallow (xs ++ ys)
shallow_both [] ys h k = k
shallow_both (x ∷ xs) ys h k = (h.0, shallow_both xs ys h.1 k)

pub shallow_left : (xs ys : List Bool) → Shallow (xs ++ ys) → Shallow xs
shallow_left [] ys h = tt
shallow_left (x ∷ xs) ys h = (h.0, shallow_left xs ys h.1)

pub shallow_right : (xs ys : List Bool) → Shallow (xs ++ ys) → Shallow ys
shallow_right [] ys h = h
shallow_right (x ∷ xs) ys h = shallow_right xs ys h.1

pub shallow_replicate : (n : ℕ) (w : Bool) → w ≡ true → Shallow (replicate n w)
shallow_replicate zero w is = tt
shallow_replicate (suc n) w is = (is, shallow_replicate n w is)

-- ---- what a reader owes

-- a front of a spelling
pub record Begins {A : Type 0} (Good : A → Type 0) (spelling : A → List ℕ) (levels : A → List Bool) (front : List ℕ) : Type 0 where
  pub tree : A
  pub good : Good tree
  pub more : List ℕ
  pub begins : spelling tree ≡ front ++ more
  pub shallow : Shallow (take (length front) (levels tree))

-- A fault: the bytes before it begin a spelling, and what follows its byte does not matter.
pub record Stops {A : Type 0} (Good : A → Type 0) (spelling : A → List ℕ) (levels : A → List Bool) (read : List ℕ → Read A) (bytes rest : List ℕ) : Type 0 where
  pub front : List ℕ
  pub whole : bytes ≡ front ++ rest
  pub begins : Begins Good spelling levels front
  pub local : (x : ℕ) (left other : List ℕ) → rest ≡ x ∷ left → read (front ++ x ∷ other) ≡ Err (x ∷ other)

-- Good trees with each byte within its bound are read, and nothing else. `levels` says for each byte whether it is.
pub record Laws {A : Type 0} (Good : A → Type 0) (spelling : A → List ℕ) (levels : A → List Bool) (read : List ℕ → Read A) : Type 0 where
  pub some : A
  pub some_good : Good some
  pub even : (a : A) → Good a → length (levels a) ≡ length (spelling a)
  pub takes : (bytes : List ℕ) (a : A) (rest : List ℕ) → read bytes ≡ Ok (a, rest) → (bytes ≡ spelling a ++ rest) × Good a × Shallow (levels a)
  pub again : (a : A) → Good a → Shallow (levels a) → (rest : List ℕ) → read (spelling a ++ rest) ≡ Ok (a, rest)
  -- a front of a spelling is read to its end
  pub short : (a : A) → Good a → (front : List ℕ) (y : ℕ) (more : List ℕ) → spelling a ≡ front ++ y ∷ more → Shallow (take (length front) (levels a)) → read front ≡ Err []
  pub fault : (bytes rest : List ℕ) → read bytes ≡ Err rest → Stops Good spelling levels read bytes rest

-- ---- the same reader, in other words

pub like : {A : Type 0} {G H : A → Type 0} {sp sp' : A → List ℕ} {lv lv' : A → List Bool} {read : List ℕ → Read A} → Laws G sp lv read → ((a : A) → G a → H a) → ((a : A) → H a → G a) → ((a : A) → G a → sp' a ≡ sp a) → ((a : A) → G a → lv' a ≡ lv a) → Laws H sp' lv' read
like {A} {G} {H} {sp} {sp'} {lv} {lv'} {read} l to from words heights = record {
  some = l.some;
  some_good = to l.some l.some_good;
  even = λ a h. ap length (heights a (from a h)) ∙ l.even a (from a h) ∙ sym (ap length (words a (from a h)));
  takes = λ bytes a rest e.
      let t = l.takes bytes a rest e in
      (t.0 ∙ ap (λ w. w ++ rest) (sym (words a t.1)), to a t.1, subst Shallow (sym (heights a t.1)) t.2);
  again = λ a h deep rest. ap (λ w. read (w ++ rest)) (words a (from a h)) ∙ l.again a (from a h) (subst Shallow (heights a (from a h)) deep) rest;
  short = λ a h front y more e deep. l.short a (from a h) front y more (sym (words a (from a h)) ∙ e) (subst (λ w. Shallow (take (length front) w)) (heights a (from a h)) deep);
  fault = λ bytes rest e.
      let s = l.fault bytes rest e in
      let b = s.begins in
      record {
        front = s.front;
        whole = s.whole;
        begins = record {
          tree = b.tree;
          good = to b.tree b.good;
          more = b.more;
          begins = words b.tree b.good ∙ b.begins;
          shallow = subst (λ w. Shallow (take (length s.front) w)) (sym (heights b.tree b.good)) b.shallow;
        };
        local = s.local;
      };
}

-- ---- a value that has no bytes

pub give_laws : {A : Type 0} (a : A) → Laws (λ x. x ≡ a) (λ x. []) (λ x. []) (give a)
give_laws {A} a = record {
  some = a;
  some_good = refl;
  even = λ x h. refl;
  takes = λ bytes x rest e.
      let k = ok_is (a, bytes) (x, rest) e in
      (ap (λ (p : A × List ℕ). p.1) k, sym (ap (λ (p : A × List ℕ). p.0) k), tt);
  again = λ x h deep rest. ap (λ (z : A). done (z, rest)) (sym h);
  short = λ x h front y more e deep. absurd (no_more front y more e);
  fault = λ bytes rest e. absurd (apart (a, bytes) rest e);
}
  where
    no_more : (front : List ℕ) (y : ℕ) (more : List ℕ) → [] ≡ front ++ y ∷ more → ⊥
    no_more [] y more e = absurd cc
    no_more (x ∷ front) y more e = absurd cc

-- ---- one byte

one_ok : (test : ℕ → Bool) (bytes : List ℕ) (x : ℕ) (rest : List ℕ) → one test bytes ≡ Ok (x, rest) → (bytes ≡ x ∷ rest) × (test x ≡ true)
one_ok test [] x rest e = absurd cc
one_ok test (z ∷ bytes) x rest e = by (test z) refl e
  where
    by : (b : Bool) → test z ≡ b → cond b (done {A = ℕ × List ℕ} (z, bytes)) (Err (z ∷ bytes)) ≡ Ok (x, rest) → (z ∷ bytes ≡ x ∷ rest) × (test x ≡ true)
    by true t e =
        let k = ok_is (z, bytes) (x, rest) e in
        let head : z ≡ x = ap (λ (p : ℕ × List ℕ). p.0) k in
        ((λ i. head i ∷ (k i).1), subst (λ w. test w ≡ true) head t)
    by false t e = absurd cc

one_err : (test : ℕ → Bool) (bytes rest : List ℕ) → one test bytes ≡ Err rest → (bytes ≡ rest) × ((x : ℕ) (left other : List ℕ) → rest ≡ x ∷ left → one test (x ∷ other) ≡ Err (x ∷ other))
one_err test [] rest e =
    let k = err_is {A = ℕ × List ℕ} [] rest e in
    (k, λ x left other f. absurd (nothing x left (k ∙ f)))
  where
    nothing : (x : ℕ) (left : List ℕ) → [] ≡ x ∷ left → ⊥
    nothing x left e = absurd cc
one_err test (z ∷ bytes) rest e = by (test z) refl e
  where
    by : (b : Bool) → test z ≡ b → cond b (done {A = ℕ × List ℕ} (z, bytes)) (Err (z ∷ bytes)) ≡ Err rest → (z ∷ bytes ≡ rest) × ((x : ℕ) (left other : List ℕ) → rest ≡ x ∷ left → one test (x ∷ other) ≡ Err (x ∷ other))
    by true t e = absurd cc
    by false t e =
        let k = err_is {A = ℕ × List ℕ} (z ∷ bytes) rest e in
        (k, λ x left other f. rw (subst (λ w. test w ≡ false) (cons_head z x bytes left (k ∙ f)) t) refl)

pub one_laws : (level : Bool) → level ≡ true → (test : ℕ → Bool) (x : ℕ) → test x ≡ true → Laws (λ n. test n ≡ true) (λ n. n ∷ []) (λ n. level ∷ []) (one test)
one_laws level low test x passes = record {
  some = x;
  some_good = passes;
  even = λ n h. refl;
  takes = λ bytes n rest e. let t = one_ok test bytes n rest e in (t.0, t.1, (low, tt));
  again = λ n h deep rest. rw h refl;
  short = λ n h front y more e deep. at_start n front y more e;
  fault = λ bytes rest e.
      let t = one_err test bytes rest e in
      record {
        front = [];
        whole = t.0;
        begins = record { tree = x; good = passes; more = x ∷ []; begins = refl; shallow = tt };
        local = t.1;
      };
}
  where
    no_more : (front : List ℕ) (y : ℕ) (more : List ℕ) → [] ≡ front ++ y ∷ more → ⊥
    no_more [] y more e = absurd cc
    no_more (x ∷ front) y more e = absurd cc

    at_start : (n : ℕ) (front : List ℕ) (y : ℕ) (more : List ℕ) → n ∷ [] ≡ front ++ y ∷ more → one test front ≡ Err []
    at_start n [] y more e = refl
    at_start n (z ∷ front) y more e = absurd (no_more front y more (cons_tail n z [] (front ++ y ∷ more) e))

-- ---- no byte at all, where the first one is not within its bound

pub closed_laws : {A : Type 0} (Good : A → Type 0) (spelling : A → List ℕ) (levels : A → List Bool) (some : A) → Good some → ((a : A) → Good a → length (levels a) ≡ length (spelling a)) → ((a : A) → Good a → (more : List Bool) × (levels a ≡ false ∷ more)) → Laws Good spelling levels (λ bytes. Err bytes)
closed_laws {A} Good spelling levels some some_good even too_deep = record {
  some = some;
  some_good = some_good;
  even = even;
  takes = λ bytes a rest e. absurd (apart (a, rest) bytes (sym e));
  again = λ a h deep rest. absurd (never a h deep);
  short = λ a h front y more e deep. at_start a h front deep;
  fault = λ bytes rest e. record {
    front = [];
    whole = err_is {A = A × List ℕ} bytes rest e;
    begins = record { tree = some; good = some_good; more = spelling some; begins = refl; shallow = tt };
    local = λ x left other f. refl;
  };
}
  where
    differ : false ≡ true → ⊥
    differ e = absurd cc

    never : (a : A) → Good a → Shallow (levels a) → ⊥
    never a h deep =
        let k = subst Shallow (too_deep a h).1 deep in
        differ k.0

    at_start : (a : A) → Good a → (front : List ℕ) → Shallow (take (length front) (levels a)) → stopped {A = A × List ℕ} front ≡ Err []
    at_start a h [] deep = refl
    at_start a h (z ∷ front) deep =
        let k = subst (λ w. Shallow (take (suc (length front)) w)) (too_deep a h).1 deep in
        absurd (differ k.0)

-- ---- one after the other

-- the first's and the second's
abbrev pub IsBoth : {A B C : Type 0} → (A → B → C) → (A → Type 0) → (B → Type 0) → C → Type 0
IsBoth {A} {B} f G H c = (a : A) × (b : B) × (c ≡ f a b) × G a × H b

module _ {A B C : Type 0} (f : A → B → C) {G : A → Type 0} {H : B → Type 0} {spa : A → List ℕ} {lva : A → List Bool} {spb : B → List ℕ} {lvb : B → List Bool} (spc : C → List ℕ) (lvc : C → List Bool) {r : List ℕ → Read A} {s : List ℕ → Read B} (l : Laws G spa lva r) (m : Laws H spb lvb s) (words : (a : A) (b : B) → G a → H b → spc (f a b) ≡ spa a ++ spb b) (heights : (a : A) (b : B) → G a → H b → lvc (f a b) ≡ lva a ++ lvb b) where
  abbrev then_second : A × List ℕ → Read C
  then_second a = s a.1 >>= (λ b. Ok (f a.0 b.0, b.1))

  both_even : (c : C) → IsBoth f G H c → length (lvc c) ≡ length (spc c)
  both_even c h =
      ap (λ x. length (lvc x)) h.2 ∙ ap length (heights h.0 h.1 h.3 h.4) ∙ length-append (lva h.0) (lvb h.1) ∙ (λ i. l.even h.0 h.3 i + m.even h.1 h.4 i) ∙ sym (length-append (spa h.0) (spb h.1)) ∙ sym (ap length (words h.0 h.1 h.3 h.4)) ∙ sym (ap (λ x. length (spc x)) h.2)

  both_takes : (bytes : List ℕ) (c : C) (rest : List ℕ) → both f r s bytes ≡ Ok (c, rest) → (bytes ≡ spc c ++ rest) × IsBoth f G H c × Shallow (lvc c)
  both_takes bytes c rest e =
      let p = bind_ok (r bytes) then_second (c, rest) e in
      let q = bind_ok (s p.0.1) (λ b. done (f p.0.0 b.0, b.1)) (c, rest) p.2 in
      let t = l.takes bytes p.0.0 p.0.1 p.1 in
      let u = m.takes p.0.1 q.0.0 q.0.1 q.1 in
      let k = ok_is (f p.0.0 q.0.0, q.0.1) (c, rest) q.2 in
      let is : c ≡ f p.0.0 q.0.0 = sym (ap (λ (x : C × List ℕ). x.0) k) in
      let end : q.0.1 ≡ rest = ap (λ (x : C × List ℕ). x.1) k in
      let whole : bytes ≡ spc (f p.0.0 q.0.0) ++ rest = t.0 ∙ ap (λ w. spa p.0.0 ++ w) (u.0 ∙ ap (λ w. spb q.0.0 ++ w) end) ∙ sym (append_assoc (spa p.0.0) (spb q.0.0) rest) ∙ ap (λ w. w ++ rest) (sym (words p.0.0 q.0.0 t.1 u.1)) in
      (whole ∙ ap (λ x. spc x ++ rest) (sym is), (p.0.0, q.0.0, is, t.1, u.1), subst (λ x. Shallow (lvc x)) (sym is) (subst Shallow (sym (heights p.0.0 q.0.0 t.1 u.1)) (shallow_both (lva p.0.0) (lvb q.0.0) t.2 u.2)))

  both_again : (c : C) → IsBoth f G H c → Shallow (lvc c) → (rest : List ℕ) → both f r s (spc c ++ rest) ≡ Ok (c, rest)
  both_again c h deep rest =
      let low : Shallow (lva h.0 ++ lvb h.1) = subst Shallow (ap lvc h.2 ∙ heights h.0 h.1 h.3 h.4) deep in
      let is : spc c ++ rest ≡ spa h.0 ++ (spb h.1 ++ rest) = ap (λ w. w ++ rest) (ap spc h.2 ∙ words h.0 h.1 h.3 h.4) ∙ append_assoc (spa h.0) (spb h.1) rest in
      rw (is, l.again h.0 h.3 (shallow_left (lva h.0) (lvb h.1) low) (spb h.1 ++ rest), m.again h.1 h.4 (shallow_right (lva h.0) (lvb h.1) low) rest, h.2) refl

  -- the levels of a front within the first
  levels_first : (a : A) (b : B) → G a → H b → (n : ℕ) → n ≤ length (lva a) → take n (lvc (f a b)) ≡ take n (lva a)
  levels_first a b g h n le = ap (take n) (heights a b g h) ∙ take-append-le n (lva a) (lvb b) le

  -- the levels of a front that ends in the second
  levels_second : (a : A) (b : B) → G a → H b → (front : List ℕ) → take (length (spa a ++ front)) (lvc (f a b)) ≡ lva a ++ take (length front) (lvb b)
  levels_second a b g h front =
      let long : length (spa a ++ front) ≡ length (lva a) + length front = length-append (spa a) front ∙ ap (λ n. n + length front) (sym (l.even a g)) in
      (λ i. take (long i) (heights a b g h i)) ∙ take-append-add (lva a) (lvb b) (length front)

  both_short : (c : C) → IsBoth f G H c → (front : List ℕ) (y : ℕ) (more : List ℕ) → spc c ≡ front ++ y ∷ more → Shallow (take (length front) (lvc c)) → both f r s front ≡ Err []
  both_short c h front y more e deep =
      let low : Shallow (take (length front) (lvc (f h.0 h.1))) = subst (λ x. Shallow (take (length front) (lvc x))) h.2 deep in
      elim (split (spa h.0) (spb h.1) front y more (sym (ap spc h.2 ∙ words h.0 h.1 h.3 h.4) ∙ e)) [
        | inl k ↦
            let long : length (lva h.0) ≡ length front + suc (length k.1) = l.even h.0 h.3 ∙ ap length k.2 ∙ length-append front (k.0 ∷ k.1) in
            rw (l.short h.0 h.3 front k.0 k.1 k.2 (subst Shallow (levels_first h.0 h.1 h.3 h.4 (length front) (omega (arith, long))) low)) refl
        | inr k ↦
            let parts : Shallow (lva h.0 ++ take (length k.0) (lvb h.1)) = subst Shallow ((λ i. take (length (k.1 i)) (lvc (f h.0 h.1))) ∙ levels_second h.0 h.1 h.3 h.4 k.0) low in
            rw (k.1, l.again h.0 h.3 (shallow_left (lva h.0) (take (length k.0) (lvb h.1)) parts) k.0, m.short h.1 h.4 k.0 y more k.2 (shallow_right (lva h.0) (take (length k.0) (lvb h.1)) parts)) refl
      ]

  fault_first : (bytes rest : List ℕ) → r bytes ≡ Err rest → Stops (IsBoth f G H) spc lvc (both f r s) bytes rest
  fault_first bytes rest e =
      let p = l.fault bytes rest e in
      let b = p.begins in
      let long : length (lva b.tree) ≡ length p.front + length b.more = l.even b.tree b.good ∙ ap length b.begins ∙ length-append p.front b.more in
      record {
        front = p.front;
        whole = p.whole;
        begins = record {
          tree = f b.tree m.some;
          good = (b.tree, m.some, refl, b.good, m.some_good);
          more = b.more ++ spb m.some;
          begins = words b.tree m.some b.good m.some_good ∙ ap (λ w. w ++ spb m.some) b.begins ∙ append_assoc p.front b.more (spb m.some);
          shallow = subst Shallow (sym (levels_first b.tree m.some b.good m.some_good (length p.front) (omega (arith, long)))) b.shallow;
        };
        local = λ x left other k. rw (p.local x left other k) refl;
      }

  fault_second : (bytes rest : List ℕ) (a : A) (mid : List ℕ) → r bytes ≡ Ok (a, mid) → s mid ≡ Err rest → Stops (IsBoth f G H) spc lvc (both f r s) bytes rest
  fault_second bytes rest a mid d e =
      let t = l.takes bytes a mid d in
      let p = m.fault mid rest e in
      let b = p.begins in
      record {
        front = spa a ++ p.front;
        whole = t.0 ∙ ap (λ w. spa a ++ w) p.whole ∙ sym (append_assoc (spa a) p.front rest);
        begins = record {
          tree = f a b.tree;
          good = (a, b.tree, refl, t.1, b.good);
          more = b.more;
          begins = words a b.tree t.1 b.good ∙ ap (λ w. spa a ++ w) b.begins ∙ sym (append_assoc (spa a) p.front b.more);
          shallow = subst Shallow (sym (levels_second a b.tree t.1 b.good p.front)) (shallow_both (lva a) (take (length p.front) (lvb b.tree)) t.2 b.shallow);
        };
        local = λ x left other k. rw (append_assoc (spa a) p.front (x ∷ other), l.again a t.1 t.2 (p.front ++ x ∷ other), p.local x left other k) refl;
      }

  both_fault : (bytes rest : List ℕ) → both f r s bytes ≡ Err rest → Stops (IsBoth f G H) spc lvc (both f r s) bytes rest
  both_fault bytes rest e =
      elim (bind_err (r bytes) then_second rest e) [
        | inl k ↦ fault_first bytes rest k
        | inr k ↦ elim (bind_err (s k.0.1) (λ b. done (f k.0.0 b.0, b.1)) rest k.2) [
          | inl j ↦ fault_second bytes rest k.0.0 k.0.1 k.1 j
          | inr j ↦ absurd (apart (f k.0.0 j.0.0, j.0.1) rest j.2)
        ]
      ]

  pub both_laws : Laws (IsBoth f G H) spc lvc (both f r s)
  both_laws = record {
    some = f l.some m.some;
    some_good = (l.some, m.some, refl, l.some_good, m.some_good);
    even = both_even;
    takes = both_takes;
    again = both_again;
    short = both_short;
    fault = both_fault;
  }

-- ---- a tag, and then fields

abbrev pub IsAfter : {A C : Type 0} → (A → C) → (A → Type 0) → C → Type 0
IsAfter {A} f G c = (a : A) × (c ≡ f a) × G a

is_tag : (tag x : ℕ) → (x == tag) ≡ true → x ≡ tag
is_tag tag x e = elim (eqb_tells x tag) [
  | inl k ↦ k.1
  | inr k ↦ absurd (differ (sym e ∙ k.0))
]
  where
    differ : true ≡ false → ⊥
    differ e = absurd cc

pub tag_is : (tag : ℕ) → (tag == tag) ≡ true
tag_is tag = elim (eqb_tells tag tag) [
  | inl k ↦ k.0
  | inr k ↦ absurd (k.1 refl)
]

pub after_laws : {A C : Type 0} (level : Bool) → level ≡ true → (tag : ℕ) (f : A → C) {G : A → Type 0} {spa : A → List ℕ} {lva : A → List Bool} (spc : C → List ℕ) (lvc : C → List Bool) {r : List ℕ → Read A} → Laws G spa lva r → ((a : A) → G a → spc (f a) ≡ tag ∷ spa a) → ((a : A) → G a → lvc (f a) ≡ level ∷ lva a) → Laws (IsAfter f G) spc lvc (after tag f r)
after_laws {A} {C} level low tag f {G} {spa} {lva} spc lvc {r} l words heights =
    let first = one_laws level low (λ x. x == tag) tag (tag_is tag) in
    let l' = both_laws (λ (x : ℕ) (a : A). f a) spc lvc first l (λ x a e g. words a g ∙ (λ i. sym (is_tag tag x e) i ∷ spa a)) (λ x a e g. heights a g) in
    like l' (λ c h. (h.1, h.2, h.4)) (λ c h. (tag, h.0, h.1, tag_is tag, h.2)) (λ c h. refl) (λ c h. refl)

-- ---- one reader or the other, by the first byte

abbrev pub StartsSo : {A : Type 0} → (ℕ → Bool) → Bool → (A → List ℕ) → (A → Type 0) → Type 0
StartsSo {A} test b spelling G = (a : A) → G a → (x : ℕ) × (more : List ℕ) × (spelling a ≡ x ∷ more) × (test x ≡ b)

module _ {A : Type 0} (test : ℕ → Bool) {G H : A → Type 0} {sp : A → List ℕ} {lv : A → List Bool} {r s : List ℕ → Read A} (l : Laws G sp lv r) (m : Laws H sp lv s) (yes : StartsSo test true sp G) (no : StartsSo test false sp H) where
  choose_takes : (bytes : List ℕ) (a : A) (rest : List ℕ) → choose test r s bytes ≡ Ok (a, rest) → (bytes ≡ sp a ++ rest) × (G a ⊎ H a) × Shallow (lv a)
  choose_takes [] a rest e = let t = m.takes [] a rest e in (t.0, inr t.1, t.2)
  choose_takes (x ∷ bytes) a rest e = by (test x) e
    where
      by : (b : Bool) → cond b (r (x ∷ bytes)) (s (x ∷ bytes)) ≡ Ok (a, rest) → (x ∷ bytes ≡ sp a ++ rest) × (G a ⊎ H a) × Shallow (lv a)
      by true e = let t = l.takes (x ∷ bytes) a rest e in (t.0, inl t.1, t.2)
      by false e = let t = m.takes (x ∷ bytes) a rest e in (t.0, inr t.1, t.2)

  -- which of the two reads what begins so
  first_reads : (x : ℕ) (more : List ℕ) → test x ≡ true → choose test r s (x ∷ more) ≡ r (x ∷ more)
  first_reads x more e = rw e refl

  second_reads : (x : ℕ) (more : List ℕ) → test x ≡ false → choose test r s (x ∷ more) ≡ s (x ∷ more)
  second_reads x more e = rw e refl

  choose_again : (a : A) → G a ⊎ H a → Shallow (lv a) → (rest : List ℕ) → choose test r s (sp a ++ rest) ≡ Ok (a, rest)
  choose_again a (inl g) deep rest =
      let y = yes a g in
      ap (λ w. choose test r s (w ++ rest)) y.2 ∙ first_reads y.0 (y.1 ++ rest) y.3 ∙ ap (λ w. r (w ++ rest)) (sym y.2) ∙ l.again a g deep rest
  choose_again a (inr h) deep rest =
      let n = no a h in
      ap (λ w. choose test r s (w ++ rest)) n.2 ∙ second_reads n.0 (n.1 ++ rest) n.3 ∙ ap (λ w. s (w ++ rest)) (sym n.2) ∙ m.again a h deep rest

  choose_short : (a : A) → G a ⊎ H a → (front : List ℕ) (y : ℕ) (more : List ℕ) → sp a ≡ front ++ y ∷ more → Shallow (take (length front) (lv a)) → choose test r s front ≡ Err []
  choose_short a g [] y more e deep = m.short m.some m.some_good [] (no m.some m.some_good).0 (no m.some m.some_good).1 (no m.some m.some_good).2 tt
  choose_short a (inl g) (x ∷ front) y more e deep =
      let k = yes a g in
      first_reads x front (subst (λ w. test w ≡ true) (cons_head k.0 x k.1 (front ++ y ∷ more) (sym k.2 ∙ e)) k.3) ∙ l.short a g (x ∷ front) y more e deep
  choose_short a (inr h) (x ∷ front) y more e deep =
      let k = no a h in
      second_reads x front (subst (λ w. test w ≡ false) (cons_head k.0 x k.1 (front ++ y ∷ more) (sym k.2 ∙ e)) k.3) ∙ m.short a h (x ∷ front) y more e deep

  -- a good front of either is one of both
  begins_first : (front : List ℕ) → Begins G sp lv front → Begins (λ a. G a ⊎ H a) sp lv front
  begins_first front b = record { tree = b.tree; good = inl b.good; more = b.more; begins = b.begins; shallow = b.shallow }

  begins_second : (front : List ℕ) → Begins H sp lv front → Begins (λ a. G a ⊎ H a) sp lv front
  begins_second front b = record { tree = b.tree; good = inr b.good; more = b.more; begins = b.begins; shallow = b.shallow }

  -- the byte that stops the first passes the test or stands after one that does
  local_first : (x : ℕ) (bytes rest front : List ℕ) → test x ≡ true → x ∷ bytes ≡ front ++ rest → ((z : ℕ) (left other : List ℕ) → rest ≡ z ∷ left → r (front ++ z ∷ other) ≡ Err (z ∷ other)) → (z : ℕ) (left other : List ℕ) → rest ≡ z ∷ left → choose test r s (front ++ z ∷ other) ≡ Err (z ∷ other)
  local_first x bytes rest [] t e local z left other f = first_reads z other (subst (λ w. test w ≡ true) (cons_head x z bytes left (e ∙ f)) t) ∙ local z left other f
  local_first x bytes rest (v ∷ front) t e local z left other f = first_reads v (front ++ z ∷ other) (subst (λ w. test w ≡ true) (cons_head x v bytes (front ++ rest) e) t) ∙ local z left other f

  local_second : (x : ℕ) (bytes rest front : List ℕ) → test x ≡ false → x ∷ bytes ≡ front ++ rest → ((z : ℕ) (left other : List ℕ) → rest ≡ z ∷ left → s (front ++ z ∷ other) ≡ Err (z ∷ other)) → (z : ℕ) (left other : List ℕ) → rest ≡ z ∷ left → choose test r s (front ++ z ∷ other) ≡ Err (z ∷ other)
  local_second x bytes rest [] t e local z left other f = second_reads z other (subst (λ w. test w ≡ false) (cons_head x z bytes left (e ∙ f)) t) ∙ local z left other f
  local_second x bytes rest (v ∷ front) t e local z left other f = second_reads v (front ++ z ∷ other) (subst (λ w. test w ≡ false) (cons_head x v bytes (front ++ rest) e) t) ∙ local z left other f

  -- no byte is left where there was none
  none_left : (front rest : List ℕ) (z : ℕ) (left : List ℕ) → [] ≡ front ++ rest → rest ≡ z ∷ left → ⊥
  none_left [] rest z left e f = nothing z left (e ∙ f)
    where
      nothing : (z : ℕ) (left : List ℕ) → [] ≡ z ∷ left → ⊥
      nothing z left e = absurd cc
  none_left (x ∷ front) rest z left e f = absurd cc

  choose_fault : (bytes rest : List ℕ) → choose test r s bytes ≡ Err rest → Stops (λ a. G a ⊎ H a) sp lv (choose test r s) bytes rest
  choose_fault [] rest e =
      let p = m.fault [] rest e in
      record { front = p.front; whole = p.whole; begins = begins_second p.front p.begins; local = λ z left other f. absurd (none_left p.front rest z left p.whole f) }
  choose_fault (x ∷ bytes) rest e = by (test x) refl e
    where
      by : (b : Bool) → test x ≡ b → cond b (r (x ∷ bytes)) (s (x ∷ bytes)) ≡ Err rest → Stops (λ a. G a ⊎ H a) sp lv (choose test r s) (x ∷ bytes) rest
      by true t e =
          let p = l.fault (x ∷ bytes) rest e in
          record { front = p.front; whole = p.whole; begins = begins_first p.front p.begins; local = local_first x bytes rest p.front t p.whole p.local }
      by false t e =
          let p = m.fault (x ∷ bytes) rest e in
          record { front = p.front; whole = p.whole; begins = begins_second p.front p.begins; local = local_second x bytes rest p.front t p.whole p.local }

  choose_even : (a : A) → G a ⊎ H a → length (lv a) ≡ length (sp a)
  choose_even a (inl g) = l.even a g
  choose_even a (inr h) = m.even a h

  pub choose_laws : Laws (λ a. G a ⊎ H a) sp lv (choose test r s)
  choose_laws = record {
    some = l.some;
    some_good = inl l.some_good;
    even = choose_even;
    takes = choose_takes;
    again = choose_again;
    short = choose_short;
    fault = choose_fault;
  }
