-- The commands: which words they are, and what is read, written and printed.
use Rattle.std.specs.Prelude.{◌≡◌, ℕ, Bool, true, false, not, ◌&&◌, ◌==◌, List, [], ◌∷◌, ◌++◌, length, drop, ◌⊎◌, Some, None, if◌then◌else◌, codes, decimal, map, ⊤}
use Rattle.std.specs.declared.option.Option.{Option}
use Rattle.std.specs.Str.{bytes_eq}
use Rattle.std.specs.Io.KnownBytes.{Appends}
use Rattle.cert_codec.specs.Tree.{CertificateTree}
use Rattle.cert_codec.specs.Spelling.{spell}
use Rattle.cert_check.specs.Valid.{Complaint, malformed, limits, unproved}
use Rattle.ck_base.specs.declared.outside.NamedBytes.{NamedBytes}
use Rattle.ck_base.specs.Outside.{Rose, Holds, Written, nothing, file, Becomes}
use Rattle.std.specs.declared.string.String.{String}
use Rattle.std.specs.String.{string_bytes}
use Rattle.commands.specs.declared.words.Command.{Command}
use Rattle.commands.specs.declared.words.Command.TheVariants as commands
use Rattle.commands.specs.declared.status.Status.{Status}
use Rattle.commands.specs.declared.status.Status.TheVariants as statuses

-- ---- words

-- a word that can name a file: it is not empty and does not begin with `-`
abbrev pub is_file_word : List ℕ → Bool
is_file_word [] = false
is_file_word (b ∷ bytes) = not (b == 45)

-- `check FILE`, or `derive SCRIPT CERTIFICATE`
pub data CommandTree : Type 0 where
  checking : (name : List ℕ) → CommandTree
  deriving_to : (script certificate : List ℕ) → CommandTree

abbrev pub command_of : List (List ℕ) → Option CommandTree
command_of (verb ∷ name ∷ []) =
    if bytes_eq verb (codes "check") && is_file_word name then Some (checking name) else None
command_of (verb ∷ script ∷ certificate ∷ []) =
    if bytes_eq verb (codes "derive") && (is_file_word script && is_file_word certificate) then Some (deriving_to script certificate) else None
command_of words = None

-- the command that the words of the command line ask for
abbrev pub asked : {Z : Type 0} → List (String Z) → Option CommandTree
asked words = command_of (map string_bytes words)

abbrev pub command_tree : Command → CommandTree
command_tree (commands.Check name) = checking name.now
command_tree (commands.Derive script certificate) = deriving_to script.now certificate.now

-- ---- what is read

-- an origin that tells its files has these bytes left to read
abbrev pub Leaves : Option (List NamedBytes) → Option (List ℕ) → List ℕ → Type 0
Leaves None left rest = ⊤
Leaves (Some files) left rest = left ≡ Some rest

-- The file of that name has these bytes, and so many of them are left to read, as far as the origin tells.
pub record Reads (name : List ℕ) (files : Option (List NamedBytes)) (left : Option (List ℕ)) (bytes rest : List ℕ) : Type 0 where
  pub holds : Holds files name bytes
  pub leaves : Leaves files left rest

-- ---- what is printed

-- a text and the end of its line
abbrev pub line : List ℕ → List ℕ
line text = text ++ 10 ∷ []

-- the line that says why a file is not valid
abbrev pub complaint_line : Complaint → List ℕ
complaint_line malformed = line (codes "refused Malformed")
complaint_line limits = line (codes "refused Limits")
complaint_line unproved = line (codes "refused Unproved")

-- The sink gained a front of the text, and the whole of it unless its count of faults rose.
pub record Prints (before after : Option (List ℕ)) (faults faults' : ℕ) (text : List ℕ) : Type 0 where
  pub front : List ℕ
  pub rest : List ℕ
  pub split : text ≡ front ++ rest
  pub gained : Appends before after front
  pub whole : Rose faults faults' ⊎ (rest ≡ [])

-- the reply to an accepted `export` of a file of so many bytes
abbrev pub exported_line : CertificateTree → List ℕ
exported_line c = codes "exported " ++ (decimal (length (spell c)) ++ codes " bytes\n")

-- what stands at the end of a transcript
abbrev pub last_line : Option CertificateTree → List ℕ
last_line None = codes "not exported\n"
last_line (Some c) = exported_line c

-- ---- what is written

-- The target holds nothing, or a file of that name with a front of the bytes, as far as it tells.
pub record HoldsFront (before after : Option Written) (name bytes : List ℕ) : Type 0 where
  pub front : List ℕ
  pub rest : List ℕ
  pub split : bytes ≡ front ++ rest
  pub written : Becomes before after nothing ⊎ Becomes before after (file name front)

-- ---- how the program ends

-- the exit status
abbrev pub exit_code : Status → ℕ
exit_code statuses.Done = 0
exit_code statuses.Refused = 1
exit_code statuses.Words = 2
exit_code statuses.ReadFault = 3
exit_code statuses.OutFault = 4
exit_code statuses.TargetFault = 5
exit_code statuses.NoMemory = 6
exit_code statuses.TooLong = 7
