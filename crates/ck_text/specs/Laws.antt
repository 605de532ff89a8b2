-- What holds of the reader of terms and formulas.
use Rattle.std.specs.Prelude.{true, false, ◌≡◌, ℕ, ◌≤◌, ◌<◌, ◌^◌, Bool, List, [], ◌∷◌, ◌++◌, length, Some, Ok, Err}
use Rattle.std.specs.List.{list_all}
use Rattle.std.specs.Option.{is_some}
use Rattle.ck_base.specs.declared.decl.Sort.{Sort}
use Rattle.ck_base.specs.declared.decl.Decl.{Decl}
use Rattle.ck_base.specs.Names.{AreNames}
use Rattle.sorted_terms.specs.Tree.{TermTree}
use Rattle.sorted_terms.specs.Sorts.{sort_of, term_depth}
use Rattle.formulas.specs.Tree.{FormulaTree}
use Rattle.formulas.specs.Sorts.{well_sorted, depth}
use Rattle.ck_text.specs.Tokens.{Token, none, IsToken, AreTokens, Placed, scan, bare}
use Rattle.ck_text.specs.Texts.{Text, tokens, IsText, Bindings, whole_scope, term_of, formula_of, names_in, is_known}
use Rattle.ck_text.specs.Machine.{read}
use Rattle.ck_text.specs.Printing.{term_text, formula_text, printed, term_bytes, formula_bytes, TermHasText, FormulaHasText, HasSmallTermIntegers, HasSmallIntegers}

-- some text of the asked form begins with these tokens, and goes on with tokens that can be written
abbrev pub Begins : (limit : ℕ) (term : Bool) → List Token → Type 0
Begins limit term front = (a : Text) × (more : List Token) × IsText limit term a × (tokens a ≡ front ++ more) × AreTokens more

-- no text of the asked form begins with these tokens
abbrev pub BeginsNone : (limit : ℕ) (term : Bool) → List Token → Type 0
BeginsNone limit term front = (a : Text) (more : List Token) → IsText limit term a → tokens a ≡ front ++ more → ⊥

-- The tokens at the front begin a text, and with the next token they begin none; at the end of the tokens,
-- those at the front are no whole text.
abbrev pub StopsAt : (limit : ℕ) (term : Bool) (front rest : List Token) → Type 0
StopsAt limit term front [] = Begins limit term front × ((a : Text) → IsText limit term a → tokens a ≡ front → ⊥)
StopsAt limit term front (t ∷ rest) = Begins limit term front × BeginsNone limit term (front ++ t ∷ [])

-- What is read is a text of the asked form with just these tokens; every such text is read from its tokens; and
-- where the reader stops, the tokens before begin a text, and with the next one they begin none.
abbrev pub ReadsExactly : Type 0
ReadsExactly =
    (limit : ℕ) (term : Bool)
    → ((ts : List Token) (a : Text) → read limit term ts ≡ Ok a → IsText limit term a × (tokens a ≡ ts))
    × ((a : Text) → IsText limit term a → read limit term (tokens a) ≡ Ok a)
    × ((ts rest : List Token) → read limit term ts ≡ Err rest → (front : List Token) × (ts ≡ front ++ rest) × StopsAt limit term front rest)

-- two texts of the asked form with the same tokens are the same
abbrev pub OneText : Type 0
OneText = (limit : ℕ) (term : Bool) (a b : Text) → IsText limit term a → IsText limit term b → tokens a ≡ tokens b → a ≡ b

-- a term means something exactly where each of its names does
abbrev pub TermMeans : Type 0
TermMeans = (limit : ℕ) (scope : Bindings) (a : Text) → IsText limit true a → is_some (term_of scope a) ≡ list_all is_known (names_in scope a)

-- so does a formula
abbrev pub FormulaMeans : Type 0
FormulaMeans = (limit : ℕ) (scope : Bindings) (a : Text) → IsText limit false a → is_some (formula_of scope a) ≡ list_all is_known (names_in scope a)

-- each of the tokens can be written, or stands for none
abbrev pub AreWritten : List Placed → Type 0
AreWritten [] = Unit {0}
AreWritten (p ∷ placed) = ((p.token ≡ none → ⊥) → IsToken p.token) × AreWritten placed

-- the tokens of bytes are such tokens
abbrev pub TokensAreWritten : Type 0
TokensAreWritten = (bytes : List ℕ) → AreWritten (scan 0 bytes)

-- # Printing

-- the bytes of a text have its tokens, where these can be written
abbrev pub PrintedScans : Type 0
PrintedScans = (a : Text) → AreTokens (tokens a) → bare (scan 0 (printed a)) ≡ tokens a

-- the text of a term of at most 256 levels is a text of the asked form, of at most 512 levels
abbrev pub TermTextIs : Type 0
TermTextIs = (names : List Decl) (around : ℕ) (t : TermTree) → term_depth t ≤ 256 → IsText 512 true (term_text names around t)

-- so is that of a formula
abbrev pub FormulaTextIs : Type 0
FormulaTextIs = (names : List Decl) (around : ℕ) (a : FormulaTree) → depth a ≤ 256 → IsText 512 false (formula_text names around a)

-- a term that has a sort has a text, where its integers can be written
abbrev pub SortedTermHasText : Type 0
SortedTermHasText =
    (names : List Decl) (variables : List Sort) (t : TermTree) (s : Sort)
    → sort_of names variables t ≡ Some s → HasSmallTermIntegers t → TermHasText (length names) (length variables) t

-- so has a well-sorted formula
abbrev pub SortedFormulaHasText : Type 0
SortedFormulaHasText =
    (names : List Decl) (variables : List Sort) (a : FormulaTree)
    → well_sorted names variables a ≡ true → HasSmallIntegers a → FormulaHasText (length names) (length variables) a

-- the text of a term means the term
abbrev pub TermTextMeans : Type 0
TermTextMeans =
    (names : List Decl) (variables : ℕ) (t : TermTree)
    → AreNames names → variables < 2 ^ 32 → TermHasText (length names) variables t
    → term_of (whole_scope names variables) (term_text names variables t) ≡ Some t

-- the text of a formula means the formula
abbrev pub FormulaTextMeans : Type 0
FormulaTextMeans =
    (names : List Decl) (variables : ℕ) (a : FormulaTree)
    → AreNames names → variables < 2 ^ 32 → depth a ≤ 256 → FormulaHasText (length names) variables a
    → formula_of (whole_scope names variables) (formula_text names variables a) ≡ Some a

-- these bytes are read as one text of the asked form, and it has this meaning
abbrev pub ReadsAs : {A : Type 0} → (term : Bool) → (Text → A) → List ℕ → A → Type 0
ReadsAs term meaning bytes a = (text : Text) × (read 512 term (bare (scan 0 bytes)) ≡ Ok text) × (meaning text ≡ a)

-- The printed bytes of a term are read in the same scope as a text that means the term.
abbrev pub TermReadsBack : Type 0
TermReadsBack =
    (names : List Decl) (variables : ℕ) (t : TermTree)
    → AreNames names → variables < 2 ^ 32 → term_depth t ≤ 256 → TermHasText (length names) variables t
    → ReadsAs true (term_of (whole_scope names variables)) (term_bytes names variables t) (Some t)

-- So are those of a formula.
abbrev pub FormulaReadsBack : Type 0
FormulaReadsBack =
    (names : List Decl) (variables : ℕ) (a : FormulaTree)
    → AreNames names → variables < 2 ^ 32 → depth a ≤ 256 → FormulaHasText (length names) variables a
    → ReadsAs false (formula_of (whole_scope names variables)) (formula_bytes names variables a) (Some a)
