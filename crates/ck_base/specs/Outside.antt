-- What calls on the outside do: to the files and bytes that an object tells, and to its count of faults.
use Rattle.std.specs.Prelude.{◌≡◌, ◌≢◌, ℕ, ◌+◌, ◌-◌, ◌^◌, ◌≤◌, min, List, [], ◌∷◌, ◌++◌, take, ⊤, Some, None, Ok, Err, OnErr, if◌then◌else◌}
use Rattle.std.specs.declared.option.Option.{Option}
use Rattle.std.specs.declared.result.Result.{Result}
use Rattle.std.specs.Str.{bytes_eq}
use Rattle.ck_base.specs.declared.outside.NamedBytes.{NamedBytes}

-- A count of faults rose: it is higher than before, or stands at the last value of its counter.
abbrev pub Rose : ℕ → ℕ → Type 0
Rose before now = min (before + 1) (2 ^ 64 - 1) ≤ now

-- A call's count never falls, and has risen where the call failed.
pub record HasCause {T E : Type 0} (before now : ℕ) (result : Result T E) : Type 0 where
  pub later : before ≤ now
  pub failed : OnErr result (Rose before now)

-- The bytes of the first file of that name.
abbrev pub content : List NamedBytes → List ℕ → Option (List ℕ)
content [] name = None
content (file ∷ files) name = if bytes_eq file.name name then Some file.bytes else content files name

-- The origin may have these bytes under that name: it has, or it tells no files.
abbrev pub Holds : Option (List NamedBytes) → List ℕ → List ℕ → Type 0
Holds None name bytes = ⊤
Holds (Some files) name bytes = content files name ≡ Some bytes

-- The origin tells its files, and none has that name.
abbrev pub IsMissing : Option (List NamedBytes) → List ℕ → Type 0
IsMissing None name = ⊥
IsMissing (Some files) name = content files name ≡ None

-- A file of that name is open: all of its bytes are left.
abbrev pub Opens : Option (List NamedBytes) → List ℕ → Option (List ℕ) → Type 0
Opens None name left = ⊤
Opens (Some files) name None = ⊥
Opens (Some files) name (Some bytes) = content files name ≡ Some bytes

-- How far a target is: nothing was created, its file is open, or a creation failed.
pub data Stage : Type 0 where
  fresh : Stage
  begun : Stage
  spent : Stage

-- What a target holds: nothing, or a file with its name and the bytes put.
pub data Written : Type 0 where
  nothing : Written
  file : (name bytes : List ℕ) → Written

-- A target that tells what it holds has from now on this.
abbrev pub Becomes : Option Written → Option Written → Written → Type 0
Becomes None new written = ⊤
Becomes (Some old) new written = new ≡ Some written

-- The bytes are added at the end of the file.
abbrev pub Extends : Option Written → Option Written → List ℕ → Type 0
Extends None new piece = ⊤
Extends (Some nothing) new piece = ⊥
Extends (Some (file name bytes)) new piece = new ≡ Some (file name (bytes ++ piece))

-- What a put does to the file: it gains the first bytes of the piece, as many as it answers, or nothing.
abbrev pub PutExtends : {E : Type 0} → Option Written → Option Written → Result ℕ E → List ℕ → Type 0
PutExtends old new (Ok taken) piece = Extends old new (take taken piece)
PutExtends old new (Err e) piece = new ≡ old

-- The target tells its one name, and it is another.
abbrev pub IsOther : Option (List ℕ) → List ℕ → Type 0
IsOther None name = ⊥
IsOther (Some own) name = own ≢ name
