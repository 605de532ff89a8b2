-- What the table of an interner tells, and that it stays when one more node stands behind the others.
use Rattle.std.proofs.Common.{◌≡◌, Bool, true, false, true≢false, ℕ, zero, suc, ◌+◌, ◌<◌, List, [], ◌∷◌, ◌++◌, length, slice_get, Some, None, Option, IfSome, ◌⊎◌, inl, inr, cond, not, position, le-ltb, lt-ltb, arith, refl, sym, ap, subst, ◌∙◌}
use Rattle.std.specs.List.{AllByRecursion, IsDistinct, position_or_len}
use Rattle.std.specs.Map.{keys_of}
use Rattle.std.specs.Ordering.{on}
use Rattle.indexmap.specs.IndexMap.{insert_entry}
use Rattle.indexmap.proofs.MapLemmas.{insert_entry-absent}
use Rattle.formulas.specs.Tree.{FormulaTree, formula_tree, bottom, holds, joined, quantified}
use Rattle.formulas.specs.declared.formula.Formula.{Formula}
use Rattle.type_checker.specs.declared.hashed.Node.{Node}
use Rattle.type_checker.specs.declared.interner.Extent.{Extent}
use Rattle.formulas.specs.Sorts.{size, depth}
use Rattle.type_checker.specs.Interner.{IsAt, HasParts, or_bottom, formula_at}
use Rattle.type_checker.specs.Keys.{head_of, key_of, same_key}
use Rattle.type_checker.specs.Linked.{formulas_of, IsLinked, AreLinked}
use Rattle.type_checker.specs.KeyLaws.{key_is, key_same}

abbrev Item : Type 0
Item = Node × Extent

abbrev tree_of : Item → FormulaTree
tree_of e = formula_tree e.0.formula.now

-- the item stands at that place
abbrev Stands : List Item → ℕ → Item → Type 0
Stands [] n e = ⊥
Stands (d ∷ entries) zero e = d ≡ e
Stands (d ∷ entries) (suc n) e = Stands entries n e

count : (entries : List Item) → length (formulas_of entries) ≡ length entries
count [] = refl
count (e ∷ entries) = ap suc (count entries)

none_first : (n : ℕ) → n < 0 → ⊥
none_first n h = absurd (omega (arith, h))

stands : (entries : List Item) (n : ℕ) (a : FormulaTree) → IsAt (formulas_of entries) n a → (e : Item) × Stands entries n e × (tree_of e ≡ a)
stands [] n a h = absurd (none_first n h.0)
stands (e ∷ entries) zero a h = (e, refl, h.1)
stands (e ∷ entries) (suc n) a h = stands entries n a (omega (arith, h.0), h.1)

is_at : (entries : List Item) (n : ℕ) (e : Item) → Stands entries n e → IsAt (formulas_of entries) n (tree_of e)
is_at [] n e h = absurd h
is_at (d ∷ entries) zero e h = (omega arith, ap tree_of h)
is_at (d ∷ entries) (suc n) e h = let p = is_at entries n e h in (omega (arith, p.0), p.1)

linked_at : (formulas : List Formula) (entries : List Item) (n : ℕ) (e : Item) → Stands entries n e → AreLinked formulas entries → IsLinked formulas e
linked_at formulas [] n e h linked = absurd h
linked_at formulas (d ∷ entries) zero e h linked = subst (λ x. IsLinked formulas x) h linked.0
linked_at formulas (d ∷ entries) (suc n) e h linked = linked_at formulas entries n e h linked.1

-- what an item that was read tells
read_at : (entries : List Item) (n : ℕ) (e : Item) → slice_get entries n ≡ Some e → Stands entries n e
read_at [] n e h = absurd (cc)
read_at (d ∷ entries) zero e h = cc
read_at (d ∷ entries) (suc n) e h = read_at entries n e h

none_at : (entries : List Item) (n : ℕ) → slice_get entries n ≡ None → or_bottom (slice_get (formulas_of entries) n) ≡ bottom
none_at [] n h = refl
none_at (e ∷ entries) zero h = absurd (cc)
none_at (e ∷ entries) (suc n) h = none_at entries n h

module _ (formulas : List Formula) (entries : List Item) (n : ℕ) (whole : formulas_of entries ≡ formulas) where
  pub parts_read : (e : Item) → AreLinked (formulas_of entries) entries → slice_get entries n ≡ Some e → HasParts formulas (tree_of e) e.0.left e.0.right
  parts_read e linked h = subst (λ fs. HasParts fs (tree_of e) e.0.left e.0.right) whole (linked_at (formulas_of entries) entries n e (read_at entries n e h) linked).0

  pub extent_read : (e : Item) → AreLinked (formulas_of entries) entries → slice_get entries n ≡ Some e → (e.1.nodes ≡ size (formula_at formulas n)) × (e.1.levels ≡ depth (formula_at formulas n))
  extent_read e linked h =
      let place = read_at entries n e h in
      let is : formula_at formulas n ≡ tree_of e = subst (λ fs. formula_at fs n ≡ tree_of e) whole (is_at entries n e place).1 in
      let link = linked_at (formulas_of entries) entries n e place linked in
      (link.1 ∙ sym (ap size is), link.2 ∙ sym (ap depth is))

  pub bottom_read : slice_get entries n ≡ None → formula_at formulas n ≡ bottom
  bottom_read h = subst (λ fs. formula_at fs n ≡ bottom) whole (none_at entries n h)

-- ---- no two nodes of a table are equal, so no formula has two numbers

apart_after : (entries : List Item) (d : Node) (n : ℕ) (e : Item) → AllByRecursion (λ y. on key_of same_key d y ≡ false) (keys_of entries) → Stands entries n e → key_of d ≡ key_of e.0 → ⊥
apart_after [] d n e h s k = s
apart_after (f ∷ entries) d zero e h s k = true≢false (sym (subst (λ x. same_key (key_of d) x ≡ true) (k ∙ ap (λ x. key_of x.0) (sym s)) (key_same (key_of d))) ∙ h.0)
apart_after (f ∷ entries) d (suc n) e h s k = apart_after entries d n e h.1 s k

one_place : (entries : List Item) (m n : ℕ) (d e : Item) → IsDistinct (on key_of same_key) (keys_of entries) → Stands entries m d → Stands entries n e → key_of d.0 ≡ key_of e.0 → m ≡ n
unfolding IsDistinct
one_place [] m n d e h s t k = absurd s
one_place (f ∷ entries) zero zero d e h s t k = refl
one_place (f ∷ entries) zero (suc n) d e h s t k = absurd (apart_after entries f.0 n e h.0 t (ap (λ x. key_of x.0) s ∙ k))
one_place (f ∷ entries) (suc m) zero d e h s t k = absurd (apart_after entries f.0 m d h.0 s (ap (λ x. key_of x.0) t ∙ sym k))
one_place (f ∷ entries) (suc m) (suc n) d e h s t k = ap suc (one_place entries m n d e h.1 s t k)

module _ (entries : List Item) (linked : AreLinked (formulas_of entries) entries) (distinct : IsDistinct (on key_of same_key) (keys_of entries)) where
  abbrev Agree : FormulaTree → Type 0
  Agree a = (l r l' r' : ℕ) → HasParts (formulas_of entries) a l r → HasParts (formulas_of entries) a l' r' → (l ≡ l') × (r ≡ r')

  one_key : (a : FormulaTree) (d e : Node) → Agree a → formula_tree d.formula.now ≡ a → formula_tree e.formula.now ≡ a → HasParts (formulas_of entries) a d.left d.right → HasParts (formulas_of entries) a e.left e.right → key_of d ≡ key_of e
  one_key a d e agree x y h k = let both = agree d.left d.right e.left e.right h k in (λ i. (head_of ((x ∙ sym y) i), (both.0 i, both.1 i)))

  one_number : (a : FormulaTree) (m n : ℕ) → Agree a → IsAt (formulas_of entries) m a → IsAt (formulas_of entries) n a → m ≡ n
  one_number a m n agree h k =
      let d = stands entries m a h in
      let e = stands entries n a k in
      let d_parts = subst (λ x. HasParts (formulas_of entries) x d.0.0.left d.0.0.right) d.2 (linked_at (formulas_of entries) entries m d.0 d.1 linked).0 in
      let e_parts = subst (λ x. HasParts (formulas_of entries) x e.0.0.left e.0.0.right) e.2 (linked_at (formulas_of entries) entries n e.0 e.1 linked).0 in
      one_place entries m n d.0 e.0 distinct d.1 e.1 (one_key a d.0.0 e.0.0 agree d.2 e.2 d_parts e_parts)

  parts_agree : (a : FormulaTree) → Agree a
  parts_agree bottom l r l' r' h k = (h.0 ∙ sym k.0, h.1 ∙ sym k.1)
  parts_agree (holds t) l r l' r' h k = (h.0 ∙ sym k.0, h.1 ∙ sym k.1)
  parts_agree (joined c a b) l r l' r' h k = (one_number a l l' (parts_agree a) h.0 k.0, one_number b r r' (parts_agree b) h.1 k.1)
  parts_agree (quantified q s a) l r l' r' h k = (one_number a l l' (parts_agree a) h.0 k.0, h.1 ∙ sym k.1)

  -- a node that no key of the table equals is of a formula without a number
  no_number : (q : Node) → HasParts (formulas_of entries) (formula_tree q.formula.now) q.left q.right → AllByRecursion (λ y. on key_of same_key q y ≡ false) (keys_of entries) → (n : ℕ) → IsAt (formulas_of entries) n (formula_tree q.formula.now) → ⊥
  no_number q parts absent n h =
      let e = stands entries n (formula_tree q.formula.now) h in
      let e_parts = subst (λ x. HasParts (formulas_of entries) x e.0.0.left e.0.0.right) e.2 (linked_at (formulas_of entries) entries n e.0 e.1 linked).0 in
      apart_after entries q n e.0 absent e.1 (one_key (formula_tree q.formula.now) q e.0.0 (parts_agree (formula_tree q.formula.now)) refl e.2 parts e_parts)

-- where a part has no number, the formula has none
no_part : (entries : List Item) → AreLinked (formulas_of entries) entries → (a b : FormulaTree) → ((l r : ℕ) → HasParts (formulas_of entries) a l r → (m : ℕ) × IsAt (formulas_of entries) m b) → ((m : ℕ) → IsAt (formulas_of entries) m b → ⊥) → (n : ℕ) → IsAt (formulas_of entries) n a → ⊥
no_part entries linked a b part none n h =
    let e = stands entries n a h in
    let m = part e.0.0.left e.0.0.right (subst (λ x. HasParts (formulas_of entries) x e.0.0.left e.0.0.right) e.2 (linked_at (formulas_of entries) entries n e.0 e.1 linked).0) in
    none m.0 m.1

pub no_part_in : (formulas : List Formula) (entries : List Item) → formulas_of entries ≡ formulas → AreLinked (formulas_of entries) entries → (a b : FormulaTree) → ((l r : ℕ) → HasParts formulas a l r → (m : ℕ) × IsAt formulas m b) → ((m : ℕ) → IsAt formulas m b → ⊥) → (n : ℕ) → IsAt formulas n a → ⊥
no_part_in formulas entries whole linked = subst (λ fs. (a b : FormulaTree) → ((l r : ℕ) → HasParts fs a l r → (m : ℕ) × IsAt fs m b) → ((m : ℕ) → IsAt fs m b → ⊥) → (n : ℕ) → IsAt fs n a → ⊥) whole (no_part entries linked)

-- ---- a node that is found

same_at : (formulas : List Formula) (n : ℕ) (a b : FormulaTree) → IsAt formulas n a → IsAt formulas n b → a ≡ b
same_at formulas n a b h k = sym h.1 ∙ k.1

whole : (formulas : List Formula) (a b : FormulaTree) (l r : ℕ) → HasParts formulas a l r → HasParts formulas b l r → head_of a ≡ head_of b → a ≡ b
whole formulas bottom bottom l r h k e = refl
whole formulas (holds s) (holds t) l r h k e = e
whole formulas (joined c a b) (joined d x y) l r h k e = let left = same_at formulas l a x h.0 k.0 in let right = same_at formulas r b y h.1 k.1 in cc
whole formulas (quantified q s a) (quantified p t x) l r h k e = let left = same_at formulas l a x h.0 k.0 in cc
whole formulas a b l r h k e = absurd (cc)

found_is_at : (entries : List Item) (q : Node) (n : ℕ) (e : Item) → AreLinked (formulas_of entries) entries → HasParts (formulas_of entries) (formula_tree q.formula.now) q.left q.right → Stands entries n e → same_key (key_of q) (key_of e.0) ≡ true → IsAt (formulas_of entries) n (formula_tree q.formula.now)
found_is_at entries q n e linked parts s k =
    let keys = key_is (key_of q) (key_of e.0) k in
    let e_parts = (linked_at (formulas_of entries) entries n e s linked).0 in
    let e_same = subst (λ l. HasParts (formulas_of entries) (tree_of e) l q.right) (sym (ap (λ x. x.1.0) keys)) (subst (λ r. HasParts (formulas_of entries) (tree_of e) e.0.left r) (sym (ap (λ x. x.1.1) keys)) e_parts) in
    let same : formula_tree q.formula.now ≡ tree_of e = whole (formulas_of entries) (formula_tree q.formula.now) (tree_of e) q.left q.right parts e_same (ap (λ x. x.0) keys) in
    subst (λ x. IsAt (formulas_of entries) n x) (sym same) (is_at entries n e s)

-- ---- the first node that passes a test

pub none_some : (n : ℕ) → None ≡ Some n → ⊥
none_some n e = absurd (cc)

keys_count : (entries : List Item) → length (keys_of entries) ≡ length entries
keys_count [] = refl
keys_count (e ∷ entries) = ap suc (keys_count entries)

module _ (test : Node → Bool) where
  abbrev Absent : List Item → Type 0
  Absent entries = AllByRecursion (λ y. test y ≡ false) (keys_of entries) × (position_or_len test (keys_of entries) ≡ length entries)

  abbrev First : List Item → Type 0
  First entries = (i : ℕ) × (e : Item) × Stands entries i e × (test e.0 ≡ true) × (position_or_len test (keys_of entries) ≡ i) × (i < length entries)

  first_of : (entries : List Item) → Absent entries ⊎ First entries
  first_of [] = inl (tt, refl)
  first_of (d ∷ entries) = by (test d.0) refl (first_of entries) where
    by : (b : Bool) → test d.0 ≡ b → Absent entries ⊎ First entries → Absent (d ∷ entries) ⊎ First (d ∷ entries)
    by true p f = inr (0, d, refl, p, ap (λ b. cond (not b) (1 + position_or_len test (keys_of entries)) 0) p, omega arith)
    by false p (inl a) =
        let step : position_or_len test (keys_of (d ∷ entries)) ≡ 1 + position_or_len test (keys_of entries) = ap (λ b. cond (not b) (1 + position_or_len test (keys_of entries)) 0) p in
        inl ((p, a.0), omega (arith, step, a.1))
    by false p (inr f) =
        let step : position_or_len test (keys_of (d ∷ entries)) ≡ 1 + position_or_len test (keys_of entries) = ap (λ b. cond (not b) (1 + position_or_len test (keys_of entries)) 0) p in
        inr (suc f.0, f.1, f.2, f.3, omega (arith, step, f.4), omega (arith, f.5))

  absent_none : (entries : List Item) → Absent entries → position test (keys_of entries) ≡ None
  absent_none entries a = ap (λ b. cond b (Some (position_or_len test (keys_of entries))) None) (le-ltb (position_or_len test (keys_of entries)) (length (keys_of entries)) (omega (arith, a.1, keys_count entries)))

  first_some : (entries : List Item) (f : First entries) → position test (keys_of entries) ≡ Some f.0
  first_some entries f =
      ap (λ b. cond b (Some (position_or_len test (keys_of entries))) None) (lt-ltb (position_or_len test (keys_of entries)) (length (keys_of entries)) (omega (arith, f.4, f.5, keys_count entries)))
      ∙ ap (λ n. Some n) f.4

  absent_from : (entries : List Item) → position test (keys_of entries) ≡ None → Absent entries
  absent_from entries p = elim (first_of entries) [ inl a ↦ a | inr f ↦ absurd (none_some f.0 (sym p ∙ first_some entries f)) ]

module _ (formulas : List Formula) (entries : List Item) (whole : formulas_of entries ≡ formulas) (linked : AreLinked (formulas_of entries) entries) (q : Node) (parts : HasParts formulas (formula_tree q.formula.now) q.left q.right) where
  own_parts : HasParts (formulas_of entries) (formula_tree q.formula.now) q.left q.right
  own_parts = subst (λ fs. HasParts fs (formula_tree q.formula.now) q.left q.right) (sym whole) parts

  -- what the search for an equal node tells, where it finds one
  pub found : (r : Option ℕ) → r ≡ position (on key_of same_key q) (keys_of entries) → IfSome r (λ n. IsAt formulas n (formula_tree q.formula.now))
  found r is = elim (first_of (on key_of same_key q) entries) [
    | inl a ↦ subst (λ o. IfSome o (λ n. IsAt formulas n (formula_tree q.formula.now))) (sym (is ∙ absent_none (on key_of same_key q) entries a)) tt
    | inr f ↦ subst (λ o. IfSome o (λ n. IsAt formulas n (formula_tree q.formula.now))) (sym (is ∙ first_some (on key_of same_key q) entries f))
        (subst (λ fs. IsAt fs f.0 (formula_tree q.formula.now)) whole (found_is_at entries q f.0 f.1 linked own_parts f.2 f.3))
  ]

  -- and that no other number is that of the formula
  pub only : IsDistinct (on key_of same_key) (keys_of entries) → (r : Option ℕ) → r ≡ position (on key_of same_key q) (keys_of entries) → (n : ℕ) → IsAt formulas n (formula_tree q.formula.now) → r ≡ Some n
  only distinct r is n h =
      let own = subst (λ fs. IsAt fs n (formula_tree q.formula.now)) (sym whole) h in
      elim (first_of (on key_of same_key q) entries) [
        | inl a ↦ absurd (no_number entries linked distinct q own_parts a.0 n own)
        | inr f ↦
            let first = found_is_at entries q f.0 f.1 linked own_parts f.2 f.3 in
            let one : f.0 ≡ n = one_number entries linked distinct (formula_tree q.formula.now) f.0 n (parts_agree entries linked distinct (formula_tree q.formula.now)) first own in
            is ∙ first_some (on key_of same_key q) entries f ∙ ap (λ m. Some m) one
      ]

-- ---- one more node, behind all

longer : (formulas : List Formula) (g : Formula) → length (formulas ++ g ∷ []) ≡ suc (length formulas)
longer [] g = refl
longer (f ∷ formulas) g = ap suc (longer formulas g)

get_kept : (formulas : List Formula) (g : Formula) (n : ℕ) → n < length formulas → slice_get (formulas ++ g ∷ []) n ≡ slice_get formulas n
get_kept [] g n h = absurd (omega (arith, h))
get_kept (f ∷ formulas) g zero h = refl
get_kept (f ∷ formulas) g (suc n) h = get_kept formulas g n (omega (arith, h))

get_end : (formulas : List Formula) (g : Formula) → slice_get (formulas ++ g ∷ []) (length formulas) ≡ Some g
get_end [] g = refl
get_end (f ∷ formulas) g = get_end formulas g

is_at_kept : (formulas : List Formula) (g : Formula) (n : ℕ) (a : FormulaTree) → IsAt formulas n a → IsAt (formulas ++ g ∷ []) n a
is_at_kept formulas g n a h = (omega (arith, h.0, longer formulas g), ap or_bottom (get_kept formulas g n h.0) ∙ h.1)

is_at_end : (formulas : List Formula) (g : Formula) → IsAt (formulas ++ g ∷ []) (length formulas) (formula_tree g)
is_at_end formulas g = (omega (arith, longer formulas g), ap or_bottom (get_end formulas g))

parts_kept : (formulas : List Formula) (g : Formula) (a : FormulaTree) (left right : ℕ) → HasParts formulas a left right → HasParts (formulas ++ g ∷ []) a left right
parts_kept formulas g bottom left right h = h
parts_kept formulas g (holds t) left right h = h
parts_kept formulas g (joined c a b) left right h = (is_at_kept formulas g left a h.0, is_at_kept formulas g right b h.1)
parts_kept formulas g (quantified q s a) left right h = (is_at_kept formulas g left a h.0, h.1)

linked_pushed : (formulas : List Formula) (g : Formula) (entries : List Item) (e : Item) → AreLinked formulas entries → IsLinked (formulas ++ g ∷ []) e → AreLinked (formulas ++ g ∷ []) (entries ++ e ∷ [])
linked_pushed formulas g [] e linked h = (h, tt)
linked_pushed formulas g (d ∷ entries) e linked h =
    ((parts_kept formulas g (tree_of d) d.0.left d.0.right linked.0.0, linked.0.1, linked.0.2), linked_pushed formulas g entries e linked.1 h)

formulas_pushed : (entries : List Item) (e : Item) → formulas_of (entries ++ e ∷ []) ≡ formulas_of entries ++ e.0.formula.now ∷ []
formulas_pushed [] e = refl
formulas_pushed (d ∷ entries) e = ap (λ fs. d.0.formula.now ∷ fs) (formulas_pushed entries e)

-- a node that equals none goes behind all
module _ (q : Node) (extent : Extent) (entries after : List Item) (none : None ≡ position (on key_of same_key q) (keys_of entries)) (is : after ≡ insert_entry (on key_of same_key) entries q extent) where
  absent : Absent (on key_of same_key q) entries
  absent = absent_from (on key_of same_key q) entries (sym none)

  put_last : after ≡ entries ++ (q, extent) ∷ []
  put_last = is ∙ insert_entry-absent (on key_of same_key) q extent entries absent.0

  formulas_after : formulas_of after ≡ formulas_of entries ++ q.formula.now ∷ []
  formulas_after = ap formulas_of put_last ∙ formulas_pushed entries (q, extent)

  pub kept_after : (formulas : List Formula) → formulas_of entries ≡ formulas → (n : ℕ) (a : FormulaTree) → IsAt formulas n a → IsAt (formulas_of after) n a
  kept_after formulas whole n a h = subst (λ fs. IsAt fs n a) (sym formulas_after) (is_at_kept (formulas_of entries) q.formula.now n a (subst (λ fs. IsAt fs n a) (sym whole) h))

  pub number_after : (n : ℕ) → n ≡ position_or_len (on key_of same_key q) (keys_of entries) → IsAt (formulas_of after) n (formula_tree q.formula.now)
  number_after n h =
      let end : n ≡ length (formulas_of entries) = h ∙ absent.1 ∙ sym (count entries) in
      subst (λ fs. IsAt fs n (formula_tree q.formula.now)) (sym formulas_after) (subst (λ m. IsAt (formulas_of entries ++ q.formula.now ∷ []) m (formula_tree q.formula.now)) (sym end) (is_at_end (formulas_of entries) q.formula.now))

  pub linked_after : (formulas : List Formula) → formulas_of entries ≡ formulas → AreLinked (formulas_of entries) entries → IsLinked formulas (q, extent) → AreLinked (formulas_of after) after
  linked_after formulas whole linked h =
      let own = subst (λ fs. IsLinked fs (q, extent)) (sym whole) h in
      let pushed : IsLinked (formulas_of entries ++ q.formula.now ∷ []) (q, extent) = (parts_kept (formulas_of entries) q.formula.now (formula_tree q.formula.now) q.left q.right own.0, own.1, own.2) in
      subst (λ fs. AreLinked fs after) (sym formulas_after) (subst (λ es. AreLinked (formulas_of entries ++ q.formula.now ∷ []) es) (sym put_last) (linked_pushed (formulas_of entries) q.formula.now entries (q, extent) linked pushed))
