-- How a command ends: what was read, printed and written with each status. Of the outside there are the
-- files and what is left to read, what the target holds before and after, what the sink gained before and
-- after, and the sink's count of faults before and after.
use Rattle.std.specs.Prelude.{◌≡◌, ℕ, ◌+◌, ◌<◌, ◌≤◌, List, [], ◌++◌, length, drop, ◌⊎◌, ⊤, Some, None, codes}
use Rattle.std.specs.declared.option.Option.{Option}
use Rattle.std.specs.Io.KnownBytes.{Appends}
use Rattle.cert_codec.specs.Tree.{CertificateTree}
use Rattle.cert_codec.specs.Spelling.{spell}
use Rattle.cert_check.specs.Valid.{IsFileOf, Valid, KeepsPromise, Complaint, Complains}
use Rattle.ck_base.specs.declared.limits.TheConstants.{CERTIFICATE_BYTES, SCRIPT_BYTES}
use Rattle.ck_base.specs.declared.outside.NamedBytes.{NamedBytes}
use Rattle.ck_base.specs.Outside.{content, IsMissing, IsOther, Written, file, Becomes}
use Rattle.script_reader.specs.Lines.{lines_of}
use Rattle.commands.specs.Session.{Plays}
use Rattle.commands.specs.Laws.{IsExact}
use Rattle.commands.specs.Texts.{triple_text}
use Rattle.commands.specs.declared.status.Status.{Status}
use Rattle.commands.specs.declared.status.Status.TheVariants as statuses
use Rattle.commands.specs.Commands.{CommandTree, checking, deriving_to, Reads, line, complaint_line, Prints, exported_line, last_line, HoldsFront}

-- ---- both commands

-- the file that a command reads, and the most bytes that it may have
abbrev pub asks_for : Option CommandTree → Option (List ℕ)
asks_for None = None
asks_for (Some (checking name)) = Some name
asks_for (Some (deriving_to script name)) = Some script

abbrev pub limit_of : Option CommandTree → ℕ
limit_of None = 0
limit_of (Some (checking name)) = CERTIFICATE_BYTES
limit_of (Some (deriving_to script name)) = SCRIPT_BYTES

-- The origin tells its files, and has not the one that the command reads.
pub record FindsNone (command : Option CommandTree) (files : Option (List NamedBytes)) : Type 0 where
  pub name : List ℕ
  pub named : asks_for command ≡ Some name
  pub missing : IsMissing files name

-- The file has more bytes than its limit, one byte past the limit was read, and that was printed.
pub record IsTooLong (command : Option CommandTree) (files : Option (List NamedBytes)) (left gained gained' : Option (List ℕ)) (faults faults' : ℕ) : Type 0 where
  pub name : List ℕ
  pub named : asks_for command ≡ Some name
  pub bytes : List ℕ
  pub reads : Reads name files left bytes (drop (limit_of command + 1) bytes)
  pub long : limit_of command < length bytes
  pub printed : Prints gained gained' faults faults' (line (codes "refused TooLong"))

-- ---- check

-- The file was read to its end and is valid, its program keeps its promise over every run, and its triple was
-- printed.
pub record HasChecked (command : Option CommandTree) (files : Option (List NamedBytes)) (left gained gained' : Option (List ℕ)) : Type 0 where
  pub name : List ℕ
  pub named : command ≡ Some (checking name)
  pub bytes : List ℕ
  pub reads : Reads name files left bytes []
  pub certificate : CertificateTree
  pub valid : IsFileOf certificate bytes
  pub promise : KeepsPromise certificate
  pub printed : Appends gained gained' (triple_text certificate)

-- The file was read to its end within the limit and is not valid, for the reason that was printed.
pub record HasComplained (command : Option CommandTree) (files : Option (List NamedBytes)) (left gained gained' : Option (List ℕ)) (faults faults' : ℕ) : Type 0 where
  pub name : List ℕ
  pub named : command ≡ Some (checking name)
  pub bytes : List ℕ
  pub reads : Reads name files left bytes []
  pub short : length bytes ≤ CERTIFICATE_BYTES
  pub refuted : Valid bytes → ⊥
  pub complaint : Complaint
  pub complains : Complains bytes complaint
  pub printed : Prints gained gained' faults faults' (complaint_line complaint)

-- The file was read to its end and is valid, and a put on the sink failed.
pub record CannotTell (command : Option CommandTree) (files : Option (List NamedBytes)) (left gained gained' : Option (List ℕ)) (faults faults' : ℕ) : Type 0 where
  pub name : List ℕ
  pub named : command ≡ Some (checking name)
  pub bytes : List ℕ
  pub reads : Reads name files left bytes []
  pub certificate : CertificateTree
  pub valid : IsFileOf certificate bytes
  pub printed : Prints gained gained' faults faults' (triple_text certificate)

-- ---- derive

-- The script was read to its end and has at most 1,048,576 bytes. This is its session, and the session is exact.
pub record HasPlayed (command : Option CommandTree) (files : Option (List NamedBytes)) (left : Option (List ℕ)) (name transcript : List ℕ) (exported : Option CertificateTree) : Type 0 where
  pub script : List ℕ
  pub named : command ≡ Some (deriving_to script name)
  pub bytes : List ℕ
  pub reads : Reads script files left bytes []
  pub short : length bytes ≤ SCRIPT_BYTES
  pub plays : Plays (lines_of bytes) transcript exported
  pub exact : IsExact (lines_of bytes) transcript exported

-- The script has an accepted `export`.
pub record HasExported (command : Option CommandTree) (files : Option (List NamedBytes)) (left : Option (List ℕ)) : Type 0 where
  pub name : List ℕ
  pub transcript : List ℕ
  pub certificate : CertificateTree
  pub played : HasPlayed command files left name transcript (Some certificate)

-- The script has an accepted `export`. The whole transcript was printed, and the file of that name has exactly
-- the spelling of the session's certificate. These bytes are a valid file, and the program keeps its promise
-- over every run.
pub record HasDerived (command : Option CommandTree) (files : Option (List NamedBytes)) (left : Option (List ℕ)) (written written' : Option Written) (gained gained' : Option (List ℕ)) : Type 0 where
  pub name : List ℕ
  pub transcript : List ℕ
  pub certificate : CertificateTree
  pub played : HasPlayed command files left name transcript (Some certificate)
  pub valid : IsFileOf certificate (spell certificate)
  pub promise : KeepsPromise certificate
  pub exported : Becomes written written' (file name (spell certificate))
  pub printed : Appends gained gained' (transcript ++ exported_line certificate)

-- The script has no accepted `export`, which was printed behind the transcript.
pub record HasNotExported (command : Option CommandTree) (files : Option (List NamedBytes)) (left gained gained' : Option (List ℕ)) : Type 0 where
  pub name : List ℕ
  pub transcript : List ℕ
  pub played : HasPlayed command files left name transcript None
  pub printed : Appends gained gained' (transcript ++ codes "not exported\n")

-- the target was not touched, or its file is whole
abbrev pub IsWhole : Type 0 → Option Written → Option Written → List ℕ → Option CertificateTree → Type 0
IsWhole Untouched written written' name None = Untouched
IsWhole Untouched written written' name (Some c) = Untouched ⊎ Becomes written written' (file name (spell c))

-- The script was played, and a put on the sink failed.
pub record CannotReply (command : Option CommandTree) (files : Option (List NamedBytes)) (left : Option (List ℕ)) (Untouched : Type 0) (written written' : Option Written) (gained gained' : Option (List ℕ)) (faults faults' : ℕ) : Type 0 where
  pub name : List ℕ
  pub transcript : List ℕ
  pub exported : Option CertificateTree
  pub played : HasPlayed command files left name transcript exported
  pub target : IsWhole Untouched written written' name exported
  pub printed : Prints gained gained' faults faults' (transcript ++ last_line exported)

-- The script has an accepted `export`, the transcript before its reply was printed, and the target has nothing
-- or a front of the file.
pub record CannotWrite (command : Option CommandTree) (files : Option (List NamedBytes)) (left : Option (List ℕ)) (written written' : Option Written) (gained gained' : Option (List ℕ)) : Type 0 where
  pub name : List ℕ
  pub transcript : List ℕ
  pub certificate : CertificateTree
  pub played : HasPlayed command files left name transcript (Some certificate)
  pub front : HoldsFront written written' name (spell certificate)
  pub printed : Appends gained gained' transcript

-- the target tells its one name, and it is not the one of the command
pub record IsForeign (command : Option CommandTree) (takes : Option (List ℕ)) : Type 0 where
  pub script : List ℕ
  pub name : List ℕ
  pub named : command ≡ Some (deriving_to script name)
  pub other : IsOther takes name

-- ---- what a status says of the bytes

-- What a status says of the bytes of a file that is not too long: whether they are a valid file, and whether
-- the script has an accepted `export`.
abbrev pub IsAnswer : Option CommandTree → List ℕ → Status → Type 0
IsAnswer (Some (checking name)) bytes statuses.Done = Valid bytes
IsAnswer (Some (checking name)) bytes statuses.OutFault = Valid bytes
IsAnswer (Some (checking name)) bytes statuses.Refused = Valid bytes → ⊥
IsAnswer (Some (deriving_to script name)) bytes statuses.Done = (transcript : List ℕ) × (c : CertificateTree) × Plays (lines_of bytes) transcript (Some c)
IsAnswer (Some (deriving_to script name)) bytes statuses.TargetFault = (transcript : List ℕ) × (c : CertificateTree) × Plays (lines_of bytes) transcript (Some c)
IsAnswer (Some (deriving_to script name)) bytes statuses.Refused = (transcript : List ℕ) × Plays (lines_of bytes) transcript None
IsAnswer (Some (deriving_to script name)) bytes statuses.OutFault = ⊤
IsAnswer command bytes status = ⊥

-- What a status says of the bytes: nothing after a failed read or want of memory, and else whether they are
-- too long, and what the command was to find out.
abbrev pub IsVerdict : Option CommandTree → List ℕ → Status → Type 0
IsVerdict command bytes statuses.ReadFault = ⊤
IsVerdict command bytes statuses.NoMemory = ⊤
IsVerdict command bytes statuses.TooLong = limit_of command < length bytes
IsVerdict command bytes status = (length bytes ≤ limit_of command) × IsAnswer command bytes status

-- The status says of the bytes of the file what is so, where the origin tells its files and has it.
abbrev pub Decides : Option CommandTree → Option (List NamedBytes) → Status → Type 0
Decides command None status = ⊤
Decides command (Some files) status =
    (name bytes : List ℕ) → asks_for command ≡ Some name → content files name ≡ Some bytes → IsVerdict command bytes status
