-- The number of a declared name, declaration by declaration.
use Rattle.std.proofs.Common.{◌≡◌, ℕ, zero, suc, ◌+◌, ◌<◌, ◌≤◌, true, false, List, [], ◌∷◌, length, drop, refl, sym, ap, ◌∙◌, arith, slice_get, Option, Some, None}
use Rattle.std.specs.Option.{option_map}
use Rattle.std.proofs.Math.ListN.{drop_of_length-le}
use Rattle.std.specs.Str.{bytes_eq}
use Rattle.ck_base.specs.Names.{number_of}
use Rattle.ck_base.specs.declared.decl.Decl.{Decl}

-- what is left from a declaration on
pub drop_at : (names : List Decl) (k : ℕ) (d : Decl) → slice_get names k ≡ Some d → (drop k names ≡ d ∷ drop (suc k) names) × (k < length names)
drop_at [] k d e = absurd (cc)
drop_at (x ∷ names) zero d e = let same : x ≡ d = cc in (ap (λ y. y ∷ names) same, omega arith)
drop_at (x ∷ names) (suc k) d e = let r = drop_at names k d e in (r.0, omega (arith, r.1))

pub drop_end : (names : List Decl) (k : ℕ) → slice_get names k ≡ None → drop k names ≡ []
drop_end [] zero e = refl
drop_end [] (suc k) e = refl
drop_end (x ∷ names) zero e = absurd (cc)
drop_end (x ∷ names) (suc k) e = drop_end names k e

module _ (name : List ℕ) (names : List Decl) (k : ℕ) (from : number_of name names ≡ option_map (λ j. k + j) (number_of name (drop k names))) where
  pub found : (d : Decl) → Some d ≡ slice_get names k → bytes_eq name d.name ≡ true → Some k ≡ number_of name names
  found d e t =
      let here : number_of name (drop k names) ≡ Some 0 = ap (number_of name) (drop_at names k d (sym e)).0 ∙ rw t refl in
      let zero : Some (k + 0) ≡ Some k = ap Some (omega arith) in
      sym (from ∙ ap (option_map (λ j. k + j)) here ∙ zero)

  pub missing : None ≡ slice_get names k → None ≡ number_of name names
  missing e = sym (from ∙ ap (λ ds. option_map (λ j. k + j) (number_of name ds)) (drop_end names k (sym e)))

  pub ended : length names ≤ k → None ≡ number_of name names
  ended h = sym (from ∙ ap (λ ds. option_map (λ j. k + j) (number_of name ds)) (drop_of_length-le names h))

  later : (o : Option ℕ) → option_map (λ j. k + j) (option_map suc o) ≡ option_map (λ j. k + 1 + j) o
  later (Some j) = ap Some (omega arith)
  later None = refl

  pub passed : (d : Decl) → Some d ≡ slice_get names k → bytes_eq name d.name ≡ false
      → (number_of name names ≡ option_map (λ j. k + 1 + j) (number_of name (drop (k + 1) names))) × (k + 1 ≤ length names)
  passed d e t =
      let r = drop_at names k d (sym e) in
      let next : suc k ≡ k + 1 = omega arith in
      let here : number_of name (drop k names) ≡ option_map suc (number_of name (drop (k + 1) names)) =
      ap (number_of name) r.0 ∙ (rw t refl) ∙ ap (λ n. option_map suc (number_of name (drop n names))) next in
      (from ∙ ap (option_map (λ j. k + j)) here ∙ later (number_of name (drop (k + 1) names)), omega (arith, r.1))
