-- What each status says of the bytes of the file, out of how the commands end.
use Rattle.std.proofs.Common.{◌≡◌, ℕ, ◌<◌, ◌≤◌, List, [], length, Some, None, Option, refl, sym, ap, subst, ◌∙◌}
use Rattle.std.specs.Prelude.{⊤}
use Rattle.ck_base.specs.declared.outside.NamedBytes.{NamedBytes}
use Rattle.ck_base.specs.Outside.{content, Holds, Rose, Written}
use Rattle.cert_codec.specs.Tree.{CertificateTree}
use Rattle.cert_check.specs.Valid.{Valid}
use Rattle.script_reader.specs.Lines.{lines_of}
use Rattle.commands.specs.declared.status.Status.{Status}
use Rattle.commands.specs.declared.status.Status.TheVariants as statuses
use Rattle.commands.specs.Session.{Plays}
use Rattle.commands.specs.Commands.{CommandTree, checking, deriving_to, Reads}
use Rattle.commands.specs.Ends.{asks_for, limit_of, IsTooLong, HasChecked, HasComplained, CannotTell, HasPlayed, HasDerived, HasNotExported, CannotReply, CannotWrite, IsVerdict, Decides}

-- what was read is the file of the name that the command reads
same_bytes : (command : Option CommandTree) (files : List NamedBytes) (own bytes name bytes' : List ℕ) → asks_for command ≡ Some own → Holds (Some files) own bytes → asks_for command ≡ Some name → content files name ≡ Some bytes' → bytes ≡ bytes'
same_bytes command files own bytes name bytes' a h b e =
    let names : own ≡ name = cc in
    let there : content files name ≡ Some bytes = subst (λ (n : List ℕ). content files n ≡ Some bytes) names h in
    cc

pub check_decides : (own : List ℕ) (files : Option (List NamedBytes)) (left gained gained' : Option (List ℕ)) (faults faults' : ℕ) (status : Status)
    → (status ≡ statuses.Done → HasChecked (Some (checking own)) files left gained gained')
    → (status ≡ statuses.Refused → HasComplained (Some (checking own)) files left gained gained' faults faults')
    → (status ≡ statuses.OutFault → Rose faults faults' × CannotTell (Some (checking own)) files left gained gained' faults faults')
    → (status ≡ statuses.TooLong → IsTooLong (Some (checking own)) files left gained gained' faults faults')
    → (status ≡ statuses.Words → ⊥) → (status ≡ statuses.TargetFault → ⊥)
    → Decides (Some (checking own)) files status
check_decides own None left gained gained' faults faults' status done refused out long words target = tt
check_decides own (Some files) left gained gained' faults faults' statuses.Done done refused out long words target = λ name bytes a e.
    let ends = done refl in
    let same : ends.bytes ≡ bytes = same_bytes (Some (checking own)) files ends.name ends.bytes name bytes (ap asks_for ends.named) ends.reads.holds a e in
    subst (λ (b : List ℕ). IsVerdict (Some (checking own)) b statuses.Done) same (ends.valid.short, (ends.certificate, ends.valid))
check_decides own (Some files) left gained gained' faults faults' statuses.OutFault done refused out long words target = λ name bytes a e.
    let ends = (out refl).1 in
    let same : ends.bytes ≡ bytes = same_bytes (Some (checking own)) files ends.name ends.bytes name bytes (ap asks_for ends.named) ends.reads.holds a e in
    subst (λ (b : List ℕ). IsVerdict (Some (checking own)) b statuses.OutFault) same (ends.valid.short, (ends.certificate, ends.valid))
check_decides own (Some files) left gained gained' faults faults' statuses.Refused done refused out long words target = λ name bytes a e.
    let ends = refused refl in
    let same : ends.bytes ≡ bytes = same_bytes (Some (checking own)) files ends.name ends.bytes name bytes (ap asks_for ends.named) ends.reads.holds a e in
    subst (λ (b : List ℕ). IsVerdict (Some (checking own)) b statuses.Refused) same (ends.short, ends.refuted)
check_decides own (Some files) left gained gained' faults faults' statuses.TooLong done refused out long words target = λ name bytes a e.
    let ends = long refl in
    let same : ends.bytes ≡ bytes = same_bytes (Some (checking own)) files ends.name ends.bytes name bytes ends.named ends.reads.holds a e in
    subst (λ (b : List ℕ). IsVerdict (Some (checking own)) b statuses.TooLong) same ends.long
check_decides own (Some files) left gained gained' faults faults' statuses.ReadFault done refused out long words target = λ name bytes a e. tt
check_decides own (Some files) left gained gained' faults faults' statuses.NoMemory done refused out long words target = λ name bytes a e. tt
check_decides own (Some files) left gained gained' faults faults' statuses.Words done refused out long words target = absurd (words refl)
check_decides own (Some files) left gained gained' faults faults' statuses.TargetFault done refused out long words target = absurd (target refl)

-- the bytes of a script that was played
played_bytes : (script own : List ℕ) (files : List NamedBytes) (left : Option (List ℕ)) (certificate transcript : List ℕ) (exported : Option CertificateTree) (name bytes : List ℕ)
    → (h : HasPlayed (Some (deriving_to script own)) (Some files) left certificate transcript exported) → asks_for (Some (deriving_to script own)) ≡ Some name → content files name ≡ Some bytes → h.bytes ≡ bytes
played_bytes script own files left certificate transcript exported name bytes h a e =
    same_bytes (Some (deriving_to script own)) files h.script h.bytes name bytes (ap asks_for h.named) h.reads.holds a e

pub derive_decides : (script own : List ℕ) (files : Option (List NamedBytes)) (left : Option (List ℕ)) (Untouched : Type 0) (written written' : Option Written) (gained gained' : Option (List ℕ)) (faults faults' : ℕ) (Cause : Type 0) (status : Status)
    → (status ≡ statuses.Done → HasDerived (Some (deriving_to script own)) files left written written' gained gained')
    → (status ≡ statuses.Refused → HasNotExported (Some (deriving_to script own)) files left gained gained')
    → (status ≡ statuses.OutFault → Rose faults faults' × CannotReply (Some (deriving_to script own)) files left Untouched written written' gained gained' faults faults')
    → (status ≡ statuses.TargetFault → Cause × CannotWrite (Some (deriving_to script own)) files left written written' gained gained')
    → (status ≡ statuses.TooLong → IsTooLong (Some (deriving_to script own)) files left gained gained' faults faults')
    → (status ≡ statuses.Words → ⊥)
    → Decides (Some (deriving_to script own)) files status
derive_decides script own None left Untouched written written' gained gained' faults faults' Cause status done refused out target long words = tt
derive_decides script own (Some files) left Untouched written written' gained gained' faults faults' Cause statuses.Done done refused out target long words = λ name bytes a e.
    let ends = done refl in
    subst (λ (b : List ℕ). IsVerdict (Some (deriving_to script own)) b statuses.Done) (played_bytes script own files left ends.name ends.transcript (Some ends.certificate) name bytes ends.played a e) (ends.played.short, (ends.transcript, ends.certificate, ends.played.plays))
derive_decides script own (Some files) left Untouched written written' gained gained' faults faults' Cause statuses.TargetFault done refused out target long words = λ name bytes a e.
    let ends = (target refl).1 in
    subst (λ (b : List ℕ). IsVerdict (Some (deriving_to script own)) b statuses.TargetFault) (played_bytes script own files left ends.name ends.transcript (Some ends.certificate) name bytes ends.played a e) (ends.played.short, (ends.transcript, ends.certificate, ends.played.plays))
derive_decides script own (Some files) left Untouched written written' gained gained' faults faults' Cause statuses.Refused done refused out target long words = λ name bytes a e.
    let ends = refused refl in
    subst (λ (b : List ℕ). IsVerdict (Some (deriving_to script own)) b statuses.Refused) (played_bytes script own files left ends.name ends.transcript None name bytes ends.played a e) (ends.played.short, (ends.transcript, ends.played.plays))
derive_decides script own (Some files) left Untouched written written' gained gained' faults faults' Cause statuses.OutFault done refused out target long words = λ name bytes a e.
    let ends = (out refl).1 in
    subst (λ (b : List ℕ). IsVerdict (Some (deriving_to script own)) b statuses.OutFault) (played_bytes script own files left ends.name ends.transcript ends.exported name bytes ends.played a e) (ends.played.short, tt)
derive_decides script own (Some files) left Untouched written written' gained gained' faults faults' Cause statuses.TooLong done refused out target long words = λ name bytes a e.
    let ends = long refl in
    let same : ends.bytes ≡ bytes = same_bytes (Some (deriving_to script own)) files ends.name ends.bytes name bytes ends.named ends.reads.holds a e in
    subst (λ (b : List ℕ). IsVerdict (Some (deriving_to script own)) b statuses.TooLong) same ends.long
derive_decides script own (Some files) left Untouched written written' gained gained' faults faults' Cause statuses.ReadFault done refused out target long words = λ name bytes a e. tt
derive_decides script own (Some files) left Untouched written written' gained gained' faults faults' Cause statuses.NoMemory done refused out target long words = λ name bytes a e. tt
derive_decides script own (Some files) left Untouched written written' gained gained' faults faults' Cause statuses.Words done refused out target long words = absurd (words refl)
