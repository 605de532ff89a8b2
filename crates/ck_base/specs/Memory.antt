-- The devices in memory: what each of them holds, and which of its calls fail.
use Rattle.std.specs.Prelude.{ℕ, ◌+◌, ◌-◌, ◌^◌, ◌==◌, min, Bool, List, [], drop, slice_get, Some, None, if◌then◌else◌}
use Rattle.std.specs.List.{list_any}
use Rattle.std.specs.declared.option.Option.{Option}
use Rattle.ck_base.specs.declared.outside.NamedBytes.{NamedBytes}
use Rattle.ck_base.specs.declared.memory.Place.{Place}
use Rattle.ck_base.specs.declared.memory.Progress.{Progress}
use Rattle.ck_base.specs.declared.memory.Progress.TheVariants.{Fresh, Begun, Spent}
use Rattle.ck_base.specs.Outside.{Stage, fresh, begun, spent, Written, nothing, file}

-- One more, up to the last value of a counter.
abbrev pub next : ℕ → ℕ
next count = min (count + 1) (2 ^ 64 - 1)

-- A device's calls, numbered from 0: the numbers of those that fail, how many were made, and how many faults there were.
pub record Calls : Type 0 where
  pub failing : List ℕ
  pub made : ℕ
  pub faults : ℕ

-- Whether the number of the next call is among those that fail.
abbrev pub next_fails : Calls → Bool
next_fails calls = list_any (λ n. n == calls.made) calls.failing

-- One call more, without a fault.
abbrev pub passed : Calls → Calls
passed calls = record calls { made = next calls.made }

-- One call more, and one fault more.
abbrev pub failed : Calls → Calls
failed calls = record calls { made = next calls.made; faults = next calls.faults }

-- One call more, which is a fault where its number is among those that fail.
abbrev pub counted : Calls → Calls
counted calls = if next_fails calls then failed calls else passed calls

-- An origin: its files, the bytes left of the open one, whether one is open, the most bytes of one read, and its calls.
pub record OriginState : Type 0 where
  pub files : List NamedBytes
  pub left : List ℕ
  pub begun : Bool
  pub piece : ℕ
  pub calls : Calls

-- The bytes of a file, none where there is no file.
abbrev pub bytes_of : Option NamedBytes → List ℕ
bytes_of None = []
bytes_of (Some named) = named.bytes

-- The bytes from a place on, none where no file is open.
abbrev pub left_from : List NamedBytes → Option Place → List ℕ
left_from files None = []
left_from files (Some place) = drop place.at (bytes_of (slice_get files place.file))

-- A target: the one name that it takes, how far it is, the bytes put, the most bytes of one put, and its calls.
pub record TargetState : Type 0 where
  pub name : List ℕ
  pub stage : Stage
  pub bytes : List ℕ
  pub piece : ℕ
  pub calls : Calls

-- How far a target is, by its progress.
abbrev pub stage_of : Progress → Stage
stage_of Fresh = fresh
stage_of (Begun bytes) = begun
stage_of Spent = spent

-- The bytes put, none before a creation.
abbrev pub bytes_put : Progress → List ℕ
bytes_put Fresh = []
bytes_put (Begun bytes) = bytes
bytes_put Spent = []

-- What a target holds at a stage: nothing, or its file once that is created.
abbrev pub written_at : Stage → List ℕ → List ℕ → Written
written_at fresh name bytes = nothing
written_at begun name bytes = file name bytes
written_at spent name bytes = nothing

-- What a target holds.
abbrev pub written_of : TargetState → Written
written_of target = written_at target.stage target.name target.bytes

-- A sink: the bytes put, the most bytes of one put, and its calls.
pub record SinkState : Type 0 where
  pub bytes : List ℕ
  pub piece : ℕ
  pub calls : Calls
