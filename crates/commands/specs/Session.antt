-- The session: what a script says, line by line. A state is a derivation, and none before an accepted `spec`.
use Rattle.std.specs.Prelude.{◌≡◌, ℕ, true, false, List, [], ◌∷◌, ◌++◌, decimal, codes, Some, None, ◌⊎◌}
use Rattle.std.specs.declared.option.Option.{Option}
use Rattle.std.specs.Option.{option_map}
use Rattle.cert_codec.specs.Tree.{CertificateTree, checked_tree}
use Rattle.cert_codec.specs.declared.certificate.Certificate.{Certificate}
use Rattle.script_reader.specs.declared.lines.OpenHole.{OpenHole}
use Rattle.script_reader.specs.Lines.{LineTree, spec, skip, intro, exact, export, is_blank_line, Means}
use Rattle.derivation.specs.declared.derivation.Derivation.{Derivation}
use Rattle.derivation.specs.Derivation.{DerivationTree, derivation_tree, open_hole}
use Rattle.derivation.specs.Steps.{begun, Skips, Introduces, Finishes, Exports}
use Rattle.derivation.specs.Printing.{open_text}

abbrev pub State : Type 0
State = Option DerivationTree

-- the hole that is open
abbrev pub open_of : State → Option OpenHole
open_of None = None
open_of (Some d) = open_hole d.progress

-- The line is accepted, and leads to this derivation: `spec` once, and then steps.
abbrev pub Accepts : State → LineTree → DerivationTree → Type 0
Accepts None (spec pre post) next = next ≡ begun pre post
Accepts (Some d) (skip hole) next = Skips d hole next
Accepts (Some d) (intro hole) next = Introduces d hole next
Accepts (Some d) (exact hole p) next = Finishes d hole p next
Accepts state line next = ⊥

abbrev pub refused_line : List ℕ
refused_line = codes "refused Line\n"

abbrev pub unfinished_line : ℕ → List ℕ
unfinished_line hole = codes "refused Unfinished " ++ (decimal hole ++ codes "\n")

-- The reply to what a line asks for, and the next state. An accepted line has `ok` and the line of the hole
-- that it opens. `export` with a hole open names that hole. Nothing else is accepted, or changes anything.
pub data RepliesTo (state : State) (tree : LineTree) (reply : List ℕ) (next : State) : Type 0 where
  accepted : (d : DerivationTree) → Accepts state tree d → next ≡ Some d → reply ≡ codes "ok\n" ++ open_text d → RepliesTo state tree reply next
  unfinished : (d : DerivationTree) (hole : OpenHole) → tree ≡ export → state ≡ Some d → open_hole d.progress ≡ Some hole → reply ≡ unfinished_line hole.number → next ≡ state → RepliesTo state tree reply next
  refused : ((d : DerivationTree) → Accepts state tree d → ⊥) → (tree ≡ export → state ≡ None) → reply ≡ refused_line → next ≡ state → RepliesTo state tree reply next

-- The reply to a line: none to a blank one, that to what it asks for, and a refusal where it means nothing.
pub data Replies (state : State) (line reply : List ℕ) (next : State) : Type 0 where
  passed : is_blank_line line ≡ true → reply ≡ [] → next ≡ state → Replies state line reply next
  meant : (tree : LineTree) → Means (open_of state) line tree → RepliesTo state tree reply next → Replies state line reply next
  unread : is_blank_line line ≡ false → ((tree : LineTree) → Means (open_of state) line tree → ⊥) → reply ≡ refused_line → next ≡ state → Replies state line reply next

-- an accepted `export`: no hole is open, and this is the certificate
pub record IsExported (state : State) (line : List ℕ) (c : CertificateTree) : Type 0 where
  pub means : Means (open_of state) line export
  pub d : DerivationTree
  pub is : state ≡ Some d
  pub exports : Exports d c

-- lines, none of them an accepted `export`, with their replies and the state behind them
abbrev pub Leads : State → List (List ℕ) → List ℕ → State → Type 0
Leads state [] text last = (text ≡ []) × (last ≡ state)
Leads state (line ∷ lines) text last =
    (reply : List ℕ) × (next : State) × (rest : List ℕ) × Replies state line reply next × Leads next lines rest last × (text ≡ reply ++ rest)

-- the lines before an accepted `export`, with their replies
pub record IsCut (lines : List (List ℕ)) (transcript : List ℕ) (c : CertificateTree) : Type 0 where
  pub front : List (List ℕ)
  pub line : List ℕ
  pub later : List (List ℕ)
  pub split : lines ≡ front ++ (line ∷ later)
  pub state : State
  pub leads : Leads None front transcript state
  pub exported : IsExported state line c

-- A session: the replies to its lines up to its end, or up to the first accepted `export` with its certificate.
abbrev pub Plays : List (List ℕ) → List ℕ → Option CertificateTree → Type 0
Plays lines transcript None = (state : State) × Leads None lines transcript state
Plays lines transcript (Some c) = IsCut lines transcript c

-- ---- the session of the code

abbrev pub state_of : Option Derivation → State
state_of session = option_map derivation_tree session

abbrev pub certificate_tree_of : Option Certificate → Option CertificateTree
certificate_tree_of exported = option_map checked_tree exported
