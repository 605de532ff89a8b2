use Rattle.std.proofs.Common.{◌≡◌, ◌≢◌, ℕ, List, Some, None, refl, sym, subst, ◌∙◌, ⊎_elim, inl, inr, rules}
use Rattle.cert_codec.specs.declared.certificate.Certificate.{Certificate}
use Rattle.cert_codec.specs.Tree.{checked_tree}
use Rattle.cert_codec.specs.Spelling.{spell}
use Rattle.cert_check.specs.Valid.{IsFileOf}
use Rattle.cert_check.proofs.Sound.{keeps_promise}
use Rattle.script_reader.specs.Lines.{lines_of}
use Rattle.commands.specs.Session.{Plays}
use Rattle.commands.specs.Ends.{HasPlayed, IsForeign}
use Rattle.commands.specs.Commands.{deriving_to}
use Rattle.commands.proofs.Determined.{plays_exactly}
use Rattle.commands.proofs.derive.derive.Goals as goal

pub returns-in-Err-TooLong-clause-too_long : goal.returns-in-Err-TooLong-clause-too_long
returns-in-Err-TooLong-clause-too_long g c = λ _.
    let long = (rw c.in-Err-TooLong.field-0-is at c.in-Err-TooLong.ensures.long) (search rules) in
    record { name = c.args.script.now; named = refl; bytes = long.0; reads = record { holds = long.1; leaves = long.3 }; long = long.2; printed = c.reported.ensures.printed }

pub returns-in-Some-clause-done : goal.returns-in-Some-clause-done
returns-in-Some-clause-done g c = λ e.
    let valid = rw c.in-Some.is at c.in-Ok-play.ensures.valid in
    let plays = rw (c.in-Some.is, c.as_slice.ensures.value) at c.in-Ok-play.ensures.plays in
    let ends = c.export.ensures.done e in
    let played : HasPlayed (Some (deriving_to c.args.script.now c.args.name.now)) (g.I.Origin.files c.args.input.now) (g.I.Origin.left c.read_whole.new.input) c.args.name.now c.in-Ok-play.played.transcript (Some (checked_tree c.in-Some.certificate)) = record {
      script = c.args.script.now;
      named = refl;
      bytes = c.in-Ok.bytes.items;
      reads = record { holds = c.in-Ok.ensures.whole; leaves = c.in-Ok.ensures.end };
      short = c.in-Ok.ensures.short;
      plays = plays;
      exact = plays_exactly (lines_of c.in-Ok.bytes.items) c.in-Ok-play.played.transcript (Some (checked_tree c.in-Some.certificate)) plays;
    } in
    record {
      name = c.args.name.now;
      transcript = c.in-Ok-play.played.transcript;
      certificate = checked_tree c.in-Some.certificate;
      played = played;
      valid = valid;
      promise = keeps_promise (spell (checked_tree c.in-Some.certificate)) (checked_tree c.in-Some.certificate) valid;
      exported = ends.0;
      printed = ends.1;
    }

pub returns-in-Some-clause-kept : goal.returns-in-Some-clause-kept
returns-in-Some-clause-kept g c =
    let plays = rw (c.in-Some.is, c.as_slice.ensures.value) at c.in-Ok-play.ensures.plays in
    let played : HasPlayed (Some (deriving_to c.args.script.now c.args.name.now)) (g.I.Origin.files c.args.input.now) (g.I.Origin.left c.read_whole.new.input) c.args.name.now c.in-Ok-play.played.transcript (Some (checked_tree c.in-Some.certificate)) = record {
      script = c.args.script.now;
      named = refl;
      bytes = c.in-Ok.bytes.items;
      reads = record { holds = c.in-Ok.ensures.whole; leaves = c.in-Ok.ensures.end };
      short = c.in-Ok.ensures.short;
      plays = plays;
      exact = plays_exactly (lines_of c.in-Ok.bytes.items) c.in-Ok-play.played.transcript (Some (checked_tree c.in-Some.certificate)) plays;
    } in
    inr (record { name = c.args.name.now; transcript = c.in-Ok-play.played.transcript; certificate = checked_tree c.in-Some.certificate; played = played })

pub returns-in-Some-clause-out_fault : goal.returns-in-Some-clause-out_fault
returns-in-Some-clause-out_fault g c = λ e.
    let plays = rw (c.in-Some.is, c.as_slice.ensures.value) at c.in-Ok-play.ensures.plays in
    let ends = c.export.ensures.out_fault e in
    let played : HasPlayed (Some (deriving_to c.args.script.now c.args.name.now)) (g.I.Origin.files c.args.input.now) (g.I.Origin.left c.read_whole.new.input) c.args.name.now c.in-Ok-play.played.transcript (Some (checked_tree c.in-Some.certificate)) = record {
      script = c.args.script.now;
      named = refl;
      bytes = c.in-Ok.bytes.items;
      reads = record { holds = c.in-Ok.ensures.whole; leaves = c.in-Ok.ensures.end };
      short = c.in-Ok.ensures.short;
      plays = plays;
      exact = plays_exactly (lines_of c.in-Ok.bytes.items) c.in-Ok-play.played.transcript (Some (checked_tree c.in-Some.certificate)) plays;
    } in (
      ends.0,
      record {
        name = c.args.name.now;
        transcript = c.in-Ok-play.played.transcript;
        exported = Some (checked_tree c.in-Some.certificate);
        played = played;
        target = ends.1;
        printed = ends.2;
      },
    )

pub returns-in-Some-clause-target_fault : goal.returns-in-Some-clause-target_fault
returns-in-Some-clause-target_fault g c = λ e.
    let plays = rw (c.in-Some.is, c.as_slice.ensures.value) at c.in-Ok-play.ensures.plays in
    let ends = c.export.ensures.target_fault e in
    let played : HasPlayed (Some (deriving_to c.args.script.now c.args.name.now)) (g.I.Origin.files c.args.input.now) (g.I.Origin.left c.read_whole.new.input) c.args.name.now c.in-Ok-play.played.transcript (Some (checked_tree c.in-Some.certificate)) = record {
      script = c.args.script.now;
      named = refl;
      bytes = c.in-Ok.bytes.items;
      reads = record { holds = c.in-Ok.ensures.whole; leaves = c.in-Ok.ensures.end };
      short = c.in-Ok.ensures.short;
      plays = plays;
      exact = plays_exactly (lines_of c.in-Ok.bytes.items) c.in-Ok-play.played.transcript (Some (checked_tree c.in-Some.certificate)) plays;
    } in (
      ⊎_elim (λ rose. inl rose) (λ other. inr (record { script = c.args.script.now; name = c.args.name.now; named = refl; other = other })) ends.0,
      record {
        name = c.args.name.now;
        transcript = c.in-Ok-play.played.transcript;
        certificate = checked_tree c.in-Some.certificate;
        played = played;
        front = ends.1;
        printed = ends.2;
      },
    )

pub returns-clause-refused : goal.returns-clause-refused
returns-clause-refused g c = λ e.
    let plays = rw (c.in-None.is, c.as_slice.ensures.value) at c.in-Ok-play.ensures.plays in
    let played : HasPlayed (Some (deriving_to c.args.script.now c.args.name.now)) (g.I.Origin.files c.args.input.now) (g.I.Origin.left c.read_whole.new.input) c.args.name.now c.in-Ok-play.played.transcript None = record {
      script = c.args.script.now;
      named = refl;
      bytes = c.in-Ok.bytes.items;
      reads = record { holds = c.in-Ok.ensures.whole; leaves = c.in-Ok.ensures.end };
      short = c.in-Ok.ensures.short;
      plays = plays;
      exact = plays_exactly (lines_of c.in-Ok.bytes.items) c.in-Ok-play.played.transcript None plays;
    } in
    record {
      name = c.args.name.now;
      transcript = c.in-Ok-play.played.transcript;
      played = played;
      printed = c.not_exported.ensures.refused e;
    }

pub returns-clause-out_fault : goal.returns-clause-out_fault
returns-clause-out_fault g c = λ e.
    let plays = rw (c.in-None.is, c.as_slice.ensures.value) at c.in-Ok-play.ensures.plays in
    let ends = c.not_exported.ensures.out_fault e in
    let played : HasPlayed (Some (deriving_to c.args.script.now c.args.name.now)) (g.I.Origin.files c.args.input.now) (g.I.Origin.left c.read_whole.new.input) c.args.name.now c.in-Ok-play.played.transcript None = record {
      script = c.args.script.now;
      named = refl;
      bytes = c.in-Ok.bytes.items;
      reads = record { holds = c.in-Ok.ensures.whole; leaves = c.in-Ok.ensures.end };
      short = c.in-Ok.ensures.short;
      plays = plays;
      exact = plays_exactly (lines_of c.in-Ok.bytes.items) c.in-Ok-play.played.transcript None plays;
    } in (
      ends.0,
      record {
        name = c.args.name.now;
        transcript = c.in-Ok-play.played.transcript;
        exported = None;
        played = played;
        target = refl;
        printed = ends.1;
      },
    )
