-- What holds of sessions.
use Rattle.std.specs.Prelude.{◌≡◌, ◌⊎◌, ℕ, List, [], ◌∷◌, ◌++◌, None, Some, ◌↔◌}
use Rattle.std.specs.declared.option.Option.{Option}
use Rattle.cert_codec.specs.Tree.{CertificateTree, skip}
use Rattle.cert_codec.specs.Spelling.{spell}
use Rattle.cert_check.specs.Proves.{Proves}
use Rattle.cert_check.specs.Valid.{IsFileOf}
use Rattle.proof_terms.specs.Tree.{ProofTree}
use Rattle.script_reader.specs.Lines.{export, Means}
use Rattle.derivation.specs.Derivation.{DerivationTree, finished, open_hole}
use Rattle.commands.specs.Session.{State, open_of, Replies, refused_line, unfinished_line, Leads, IsExported, IsCut, Plays}

-- no hole is open, and the one obligation's proof has its formula
abbrev pub IsComplete : DerivationTree → Type 0
IsComplete d = (open_hole d.progress ≡ None) × (p : ProofTree) × (d.progress ≡ finished p) × Proves [] d.pre (skip p) d.post

-- Behind whatever lines, `export` is accepted exactly where no hole is open and every obligation's proof has
-- its formula.
abbrev pub ExportIsExact : Type 0
ExportIsExact =
    (lines : List (List ℕ)) (transcript : List ℕ) (d : DerivationTree) (line : List ℕ)
    → Leads None lines transcript (Some d) → Means (open_of (Some d)) line export
    → ((c : CertificateTree) × IsExported (Some d) line c) ↔ IsComplete d

-- what is exported is a valid file
abbrev pub ExportIsValid : Type 0
ExportIsValid =
    (lines : List (List ℕ)) (transcript : List ℕ) (state : State) (line : List ℕ) (c : CertificateTree)
    → Leads None lines transcript state → IsExported state line c → IsFileOf c (spell c)

-- a line whose reply is a refusal leaves the state as it was
abbrev pub RefusalsChangeNothing : Type 0
RefusalsChangeNothing =
    (state : State) (line reply : List ℕ) (next : State)
    → Replies state line reply next → (reply ≡ refused_line) ⊎ ((hole : ℕ) × (reply ≡ unfinished_line hole)) → next ≡ state

-- a script has at most one session
abbrev pub OneSession : Type 0
OneSession =
    (lines : List (List ℕ)) (transcript transcript' : List ℕ) (exported exported' : Option CertificateTree)
    → Plays lines transcript exported → Plays lines transcript' exported' → (transcript ≡ transcript') × (exported ≡ exported')

-- What the session of these lines exported was complete. Where it exported nothing, no `export` line met a
-- complete derivation.
abbrev pub IsExact : List (List ℕ) → List ℕ → Option CertificateTree → Type 0
IsExact lines transcript (Some c) = (cut : IsCut lines transcript c) × IsComplete cut.exported.d
IsExact lines transcript None =
    (front : List (List ℕ)) (line : List ℕ) (later : List (List ℕ)) (replies : List ℕ) (d : DerivationTree)
    → lines ≡ front ++ (line ∷ later) → Leads None front replies (Some d) → Means (open_of (Some d)) line export → IsComplete d → ⊥

-- every session is exact
abbrev pub SessionsAreExact : Type 0
SessionsAreExact =
    (lines : List (List ℕ)) (transcript : List ℕ) (exported : Option CertificateTree)
    → Plays lines transcript exported → IsExact lines transcript exported
