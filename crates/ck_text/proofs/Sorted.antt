-- What has a sort has a text: its names are declared and its indices are those of variables.
use Rattle.std.proofs.Common.{◌≡◌, ℕ, ◌<◌, Bool, true, false, List, ◌∷◌, length, slice_get, Option, Some, None, refl, if◌then◌else◌}
use Rattle.std.specs.Option.{option_map}
use Rattle.std.proofs.lemmas.Bool.{and_parts}
use Rattle.std.proofs.lemmas.Option.{slice_get_within}
use Rattle.ck_base.specs.declared.decl.Sort.{Sort}
use Rattle.ck_base.specs.declared.decl.Sort.TheVariants as sort
use Rattle.ck_base.specs.declared.decl.Decl.{Decl}
use Rattle.sorted_terms.specs.Tree.{TermTree}
use Rattle.sorted_terms.specs.Tree as term
use Rattle.sorted_terms.specs.Sorts.{unary_takes, binary_takes, has_sort, sort_of}
use Rattle.formulas.specs.Tree.{FormulaTree}
use Rattle.formulas.specs.Tree as formula
use Rattle.formulas.specs.Sorts.{well_sorted}
use Rattle.ck_text.specs.Laws.{SortedTermHasText, SortedFormulaHasText}

passed : {A : Type 0} (test : Bool) (a b : A) → (if test then Some a else None) ≡ Some b → test ≡ true
passed true a b e = refl
passed false a b e = absurd (cc)

-- there is a sort
some_sort : (o : Option Sort) (s : Sort) → has_sort o s ≡ true → (r : Sort) × (o ≡ Some r)
some_sort None s e = absurd (cc)
some_sort (Some r) s e = (r, refl)

declared : (names : List Decl) (x : ℕ) (o : Option Decl) (s : Sort) → slice_get names x ≡ o → option_map (λ (d : Decl). d.sort) o ≡ Some s → x < length names
declared names x None s e h = absurd (cc)
declared names x (Some d) s e h = slice_get_within names x d e

pub sorted_term : SortedTermHasText
sorted_term names variables (term.name x) s e h = declared names x (slice_get names x) s refl e
sorted_term names variables (term.index k) s e h = slice_get_within variables k s e
sorted_term names variables (term.integer n) s e h = h
sorted_term names variables (term.boolean b) s e h = tt
sorted_term names variables (term.unary u t) s e h =
    let r = some_sort (sort_of names variables t) (unary_takes u) (passed _ _ _ e) in
    sorted_term names variables t r.0 r.1 h
sorted_term names variables (term.binary u t v) s e h =
    let p = and_parts (has_sort (sort_of names variables t) (binary_takes u)) (has_sort (sort_of names variables v) (binary_takes u)) (passed _ _ _ e) in
    let r = some_sort (sort_of names variables t) (binary_takes u) p.0 in
    let q = some_sort (sort_of names variables v) (binary_takes u) p.1 in
    (sorted_term names variables t r.0 r.1 h.0, sorted_term names variables v q.0 q.1 h.1)

pub sorted_formula : SortedFormulaHasText
sorted_formula names variables formula.bottom e h = tt
sorted_formula names variables (formula.holds t) e h =
    let r = some_sort (sort_of names variables t) sort.Bool e in
    sorted_term names variables t r.0 r.1 h
sorted_formula names variables (formula.joined c a b) e h =
    let p = and_parts (well_sorted names variables a) (well_sorted names variables b) e in
    (sorted_formula names variables a p.0 h.0, sorted_formula names variables b p.1 h.1)
sorted_formula names variables (formula.quantified q s a) e h = sorted_formula names (s ∷ variables) a e h
