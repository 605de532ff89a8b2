-- The table of declarations: what a new declaration at its end keeps, and which names are among those before it.
use Rattle.std.proofs.Common.{arith, ◌≡◌, ℕ, suc, ◌+◌, ◌<◌, ◌≤◌, Bool, true, false, not, ◌&&◌, cond, if◌then◌else◌, List, [], ◌∷◌, ◌++◌, length, map, nat_lt, position, String, Option, Some, None, refl, sym, ap, ◌∙◌, subst}
use Rattle.std.specs.List.{position_or_len}
use Rattle.std.specs.Option.{option_map}
use Rattle.std.specs.String.{string_bytes, string_eq}
use Rattle.std.specs.Str.{bytes_eq}
use Rattle.std.specs.Map.{keys_of}
use Rattle.std.proofs.lemmas.Cmp.{nat_list_eq_equiv}
use Rattle.std.proofs.lemmas.List.{map-append, length-append}
use Rattle.indexmap.specs.IndexMap.{insert_entry}
use Rattle.ck_base.proofs.Files.{same_test, starts, one_more}
use Rattle.ck_base.specs.declared.decl.Decl.{Decl}
use Rattle.ck_base.specs.Names.{is_name, is_new, number_of, AreKeyed, AreNames}

-- the declarations of a table's entries
abbrev pub decls_of : {A : Type 0} → List (String A × Decl) → List Decl
decls_of entries = map (λ e. e.1) entries

position_more : {X : Type 0} (p : X → Bool) (x : X) (xs : List X) → position p (x ∷ xs) ≡ cond (p x) (Some 0) (option_map suc (position p xs))
position_more p x xs = by (p x) refl where
  later : (c : Bool) (n : ℕ) → cond c (Some (suc n)) None ≡ option_map suc (cond c (Some n) None)
  later true n = refl
  later false n = refl

  by : (b : Bool) → p x ≡ b → position p (x ∷ xs) ≡ cond (p x) (Some 0) (option_map suc (position p xs))
  by true e = rw (e, starts (length xs)) refl
  by false e = rw (e, one_more (position_or_len p xs), same_test (position_or_len p xs) (length xs)) (later (nat_lt (position_or_len p xs) (length xs)) (position_or_len p xs))

-- the index of the key of these bytes is the number of the name
pub number_at_key : {A : Type 0} (name : List ℕ) (es : List (String A × Decl)) → AreKeyed es → position (λ k. bytes_eq name (string_bytes k)) (keys_of es) ≡ number_of name (decls_of es)
number_at_key name [] h = refl
number_at_key name (e ∷ es) h = position_more (λ k. bytes_eq name (string_bytes k)) e.0 (keys_of es) ∙ (λ i. cond (bytes_eq name (h.0 i)) (Some 0) (option_map suc (number_at_key name es h.1 i)))

-- a name without a number is not the first one, nor among the others
none_parts : (b : Bool) (r : Option ℕ) → cond b (Some 0) (option_map suc r) ≡ None → (b ≡ false) × (r ≡ None)
none_parts true r e = absurd (cc)
none_parts false None e = (refl, refl)
none_parts false (Some n) e = absurd (cc)

and_parts : (b c : Bool) → (not b && c) ≡ true → (b ≡ false) × (c ≡ true)
and_parts false c e = (refl, e)
and_parts true c e = absurd (cc)

-- a new name's entry goes last
put_last : {A : Type 0} (es : List (String A × Decl)) (k : String A) (d : Decl) → AreKeyed es → string_bytes k ≡ d.name → number_of d.name (decls_of es) ≡ None → insert_entry string_eq es k d ≡ es ++ (k, d) ∷ []
put_last [] k d h e n = refl
put_last (x ∷ xs) k d h e n =
    let p = none_parts _ _ n in
    ap (λ b. if b then (x.0, d) ∷ xs else x ∷ insert_entry string_eq xs k d) ((λ i. bytes_eq (e i) (h.0 i)) ∙ p.0) ∙ ap (λ l. x ∷ l) (put_last xs k d h.1 e p.1)

keyed_more : {A : Type 0} (es : List (String A × Decl)) (k : String A) (d : Decl) → AreKeyed es → string_bytes k ≡ d.name → AreKeyed (es ++ (k, d) ∷ [])
keyed_more [] k d h e = (e, tt)
keyed_more (x ∷ xs) k d h e = (h.0, keyed_more xs k d h.1 e)

new_more : (name : List ℕ) (ds : List Decl) (d : Decl) → is_new name ds ≡ true → bytes_eq name d.name ≡ false → is_new name (ds ++ d ∷ []) ≡ true
new_more name [] d h e = rw e refl
new_more name (x ∷ xs) d h e = let p = and_parts (bytes_eq name x.name) (is_new name xs) h in rw (p.0, new_more name xs d p.1 e) refl

names_more : (ds : List Decl) (d : Decl) → AreNames ds → is_name d.name ≡ true → number_of d.name ds ≡ None → AreNames (ds ++ d ∷ [])
names_more [] d h r n = (r, refl, tt)
names_more (x ∷ xs) d h r n =
    let p = none_parts _ _ n in
    (h.0, new_more x.name xs d h.1 (nat_list_eq_equiv.symm x.name d.name ∙ p.0), names_more xs d h.2 r p.1)

-- the declarations after a new entry
pub decls_more : {A : Type 0} (es : List (String A × Decl)) (k : String A) (d : Decl) (new : List (String A × Decl)) → new ≡ insert_entry string_eq es k d → AreKeyed es → string_bytes k ≡ d.name → number_of d.name (decls_of es) ≡ None → decls_of new ≡ decls_of es ++ d ∷ []
decls_more es k d new i h e n = ap decls_of (i ∙ put_last es k d h e n) ∙ map-append _ es ((k, d) ∷ [])

-- a new entry keeps the table in order
pub table_more : {A : Type 0} (es : List (String A × Decl)) (k : String A) (d : Decl) (new : List (String A × Decl)) → new ≡ insert_entry string_eq es k d → AreKeyed es × AreNames (decls_of es) × (length (decls_of es) ≤ 64) → string_bytes k ≡ d.name → is_name d.name ≡ true → number_of d.name (decls_of es) ≡ None → length (decls_of es) < 64 → AreKeyed new × AreNames (decls_of new) × (length (decls_of new) ≤ 64)
table_more es k d new i h e r n room =
    let all : decls_of new ≡ decls_of es ++ d ∷ [] = decls_more es k d new i h.0 e n in
    let longer : length (decls_of new) ≡ length (decls_of es) + 1 = ap length all ∙ length-append (decls_of es) (d ∷ []) in
    (subst AreKeyed (sym (i ∙ put_last es k d h.0 e n)) (keyed_more es k d h.0 e), subst AreNames (sym all) (names_more (decls_of es) d h.1 r n), omega (arith, longer, room))

-- a declaration's name keeps the rule
rule_within : (before : List Decl) (d : Decl) (after : List Decl) → AreNames (before ++ d ∷ after) → is_name d.name ≡ true
rule_within [] d after h = h.0
rule_within (x ∷ before) d after h = rule_within before d after h.2

new_within : (name : List ℕ) (before : List Decl) (d : Decl) (after : List Decl) → is_new name (before ++ d ∷ after) ≡ true → bytes_eq name d.name ≡ false
new_within name [] d after h = (and_parts _ _ h).0
new_within name (x ∷ before) d after h = new_within name before d after (and_parts _ _ h).1

-- and it is none of those before it
fresh_within : (before : List Decl) (d : Decl) (after : List Decl) → AreNames (before ++ d ∷ after) → number_of d.name before ≡ None
fresh_within [] d after h = refl
fresh_within (x ∷ before) d after h = rw (nat_list_eq_equiv.symm d.name x.name ∙ new_within x.name before d after h.1, fresh_within before d after h.2) refl

-- where the first declarations of a table are copied, the next one's name keeps the rule and is not among them
module _ {A : Type 0} (copied : List Decl) (rest es : List (String A × Decl)) (names : AreNames (decls_of es)) (whole : copied ++ decls_of rest ≡ decls_of es) (keyed : AreKeyed rest)
    (k : String A) (d : Decl) (more : List (String A × Decl)) (starts_with : rest ≡ (k, d) ∷ more) (name : List ℕ) (is : name ≡ string_bytes k) where
  parted : AreNames (copied ++ d ∷ decls_of more)
  parted = subst AreNames (sym whole ∙ ap (λ r. copied ++ decls_of r) starts_with) names

  own_name : name ≡ d.name
  own_name = is ∙ (subst AreKeyed starts_with keyed).0

  pub next_rule : is_name name ≡ true
  next_rule = ap is_name own_name ∙ rule_within copied d (decls_of more) parted

  pub next_fresh : number_of name copied ≡ None
  next_fresh = ap (λ n. number_of n copied) own_name ∙ fresh_within copied d (decls_of more) parted
