-- Scripts as lists of lines, and what a line means.
use Rattle.std.specs.Prelude.{◌≡◌, ℕ, ◌==◌, ◌&&◌, ◌||◌, not, nat_le, Bool, true, false, List, [], ◌∷◌, ◌++◌, length, Some, None, if◌then◌else◌}
use Rattle.std.specs.declared.option.Option.{Option}
use Rattle.std.specs.Option.{option_map}
use Rattle.std.specs.List.{list_all}
use Rattle.formulas.specs.Tree.{FormulaTree, formula_tree}
use Rattle.proof_terms.specs.Tree.{ProofTree, proof_tree}
use Rattle.script_reader.specs.declared.token.Token.{Token}
use Rattle.script_reader.specs.declared.token.Token.TheVariants as token
use Rattle.script_reader.specs.declared.lines.OpenHole.{OpenHole}
use Rattle.script_reader.specs.declared.lines.Line.{Line}
use Rattle.script_reader.specs.declared.lines.Line.TheVariants as lines
use Rattle.script_reader.specs.Tokens.{is_blank, scan}
use Rattle.script_reader.specs.Texts.{FormulaText, formula_of, formula_tokens, IsFormula, ProofText, proof_of, proof_tokens, IsProof}

-- ---- scripts

-- one carriage return before the end of a line is no part of it
abbrev pub without_return : List ℕ → List ℕ
without_return [] = []
without_return (b ∷ []) = if b == 13 then [] else b ∷ []
without_return (b ∷ c ∷ bytes) = b ∷ without_return (c ∷ bytes)

-- what is left of the last line is one where it has a byte
abbrev pub last_line : List ℕ → List (List ℕ)
last_line [] = []
last_line (b ∷ bytes) = (b ∷ bytes) ∷ []

-- any byte but a line feed
abbrev pub is_inside : ℕ → Bool
is_inside b = not (b == 10)

-- the lines of the bytes behind the front of a line
abbrev pub lines_from : List ℕ → List ℕ → List (List ℕ)
lines_from front [] = last_line front
lines_from front (b ∷ bytes) = if is_inside b then lines_from (front ++ (b ∷ [])) bytes else without_return front ∷ lines_from [] bytes

-- Lines end with a line feed, the last one also with the script.
abbrev pub lines_of : List ℕ → List (List ℕ)
lines_of script = lines_from [] script

-- ---- lines

abbrev pub is_text_byte : ℕ → Bool
is_text_byte b = (b == 9) || (nat_le 32 b && nat_le b 126)

-- at most 8,192 bytes, each of them a tab or one of 32 to 126
abbrev pub is_plain : List ℕ → Bool
is_plain line = nat_le (length line) 8192 && list_all is_text_byte line

abbrev pub is_slash : List ℕ → Bool
is_slash [] = false
is_slash (b ∷ bytes) = b == 47

-- nothing but spaces and tabs, or `//` behind them
abbrev pub is_comment : List ℕ → Bool
is_comment [] = true
is_comment (b ∷ bytes) = if is_blank b then is_comment bytes else (b == 47) && is_slash bytes

abbrev pub is_blank_line : List ℕ → Bool
is_blank_line line = is_plain line && is_comment line

-- `spec { P } { Q }`, the steps `k: skip`, `k: intro` and `k: exact p`, and `export`
pub data LineText : Type 0 where
  spec_text : (pre post : FormulaText) → LineText
  skip_text : (hole : ℕ) → LineText
  intro_text : (hole : ℕ) → LineText
  exact_text : (hole : ℕ) (p : ProofText) → LineText
  export_text : LineText

abbrev pub line_tokens : LineText → List Token
line_tokens (spec_text pre post) =
    token.Spec ∷ token.OpenBrace ∷ (formula_tokens pre ++ (token.CloseBrace ∷ token.OpenBrace ∷ (formula_tokens post ++ (token.CloseBrace ∷ []))))
line_tokens (skip_text hole) = token.Number hole ∷ token.Colon ∷ token.Skip ∷ []
line_tokens (intro_text hole) = token.Number hole ∷ token.Colon ∷ token.Intro ∷ []
line_tokens (exact_text hole p) = token.Number hole ∷ token.Colon ∷ token.Exact ∷ proof_tokens p
line_tokens export_text = token.Export ∷ []

-- a line as it may be written
abbrev pub IsLine : LineText → Type 0
IsLine (spec_text pre post) = IsFormula pre × IsFormula post
IsLine (exact_text hole p) = IsProof p
IsLine line = Unit {0}

-- what a line asks for
pub data LineTree : Type 0 where
  spec : (pre post : FormulaTree) → LineTree
  skip : (hole : ℕ) → LineTree
  intro : (hole : ℕ) → LineTree
  exact : (hole : ℕ) (p : ProofTree) → LineTree
  export : LineTree

-- how many hypotheses a hole stands under, by the one that is open
abbrev pub hypotheses_at : Option OpenHole → ℕ → ℕ
hypotheses_at None hole = 0
hypotheses_at (Some h) hole = if h.number == hole then h.hypotheses else 0

abbrev pub line_of : Option OpenHole → LineText → Option LineTree
line_of opened (spec_text pre post) = Some (spec (formula_of pre) (formula_of post))
line_of opened (skip_text hole) = Some (skip hole)
line_of opened (intro_text hole) = Some (intro hole)
line_of opened (exact_text hole p) = option_map (λ q. exact hole q) (proof_of (hypotheses_at opened hole) p)
line_of opened export_text = Some export

-- The bytes are a line that means this, where this hole is open.
pub record Means (opened : Option OpenHole) (line : List ℕ) (tree : LineTree) : Type 0 where
  pub plain : is_plain line ≡ true
  pub text : LineText
  pub written : IsLine text
  pub tokens : line_tokens text ≡ scan 0 line
  pub means : line_of opened text ≡ Some tree

-- what a line of the code asks for
abbrev pub line_tree : Line → LineTree
line_tree (lines.Spec pre post) = spec (formula_tree pre) (formula_tree post)
line_tree (lines.Skip hole) = skip hole
line_tree (lines.Intro hole) = intro hole
line_tree (lines.Exact hole p) = exact hole (proof_tree p)
line_tree lines.Export = export
