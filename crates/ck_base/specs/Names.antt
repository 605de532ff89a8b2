-- The rule for declared names.
use Rattle.std.specs.Prelude.{◌≡◌, ℕ, Bool, true, false, not, ◌&&◌, ◌||◌, ◌==◌, nat_le, List, [], ◌∷◌, length, codes, String, Some, None, suc, if◌then◌else◌}
use Rattle.std.specs.List.{list_all, list_any}
use Rattle.std.specs.Option.{option_map}
use Rattle.std.specs.String.{string_bytes}
use Rattle.std.specs.declared.option.Option.{Option}
use Rattle.std.specs.Str.{bytes_eq}
use Rattle.ck_base.specs.declared.decl.Decl.{Decl}

-- words of the language, which name nothing else
abbrev pub reserved_words : List (List ℕ)
reserved_words =
    codes "true" ∷ codes "false" ∷ codes "bottom" ∷ codes "not" ∷ codes "and" ∷ codes "or" ∷ codes "all" ∷ codes "ex"
    ∷ codes "int" ∷ codes "bool" ∷ codes "div" ∷ codes "mod" ∷ []

abbrev pub is_letter : ℕ → Bool
is_letter b = nat_le 97 b && nat_le b 122

abbrev pub is_digit : ℕ → Bool
is_digit b = nat_le 48 b && nat_le b 57

abbrev pub is_name_byte : ℕ → Bool
is_name_byte b = is_letter b || is_digit b || (b == 95)

-- `[a-z][a-z0-9_]*` of at most 32 bytes, and no reserved word
unfoldable pub is_name : List ℕ → Bool
is_name [] = false
is_name (b ∷ bytes) =
    is_letter b && list_all is_name_byte bytes && nat_le (length bytes) 31 && not (list_any (bytes_eq (b ∷ bytes)) reserved_words)

-- the name is that of none of the declarations
abbrev pub is_new : List ℕ → List Decl → Bool
is_new name [] = true
is_new name (d ∷ declarations) = not (bytes_eq name d.name) && is_new name declarations

-- every name keeps the rule, and no two are equal
abbrev pub AreNames : List Decl → Type 0
AreNames [] = Unit {0}
AreNames (d ∷ declarations) = (is_name d.name ≡ true) × (is_new d.name declarations ≡ true) × AreNames declarations

-- the number of the declaration of that name, from 0
abbrev pub number_of : List ℕ → List Decl → Option ℕ
number_of name [] = None
number_of name (d ∷ declarations) = if bytes_eq name d.name then Some 0 else option_map suc (number_of name declarations)

-- each key is the name of its declaration
abbrev pub AreKeyed : {A : Type 0} → List (String A × Decl) → Type 0
AreKeyed [] = Unit {0}
AreKeyed (e ∷ entries) = (string_bytes e.0 ≡ e.1.name) × AreKeyed entries
