-- What contracts see of a cabinet: named files, of which one at a time is current and is read from its start.
use Rattle.std.specs.Prelude.{ℕ, ◌≡◌, ◌≤◌, if◌then◌else◌, Bool, true, false, List, [], ◌∷◌, ◌++◌, length, take, Option, Some, None, IfSome, is_some, option_map}
use Rattle.std.specs.Str.{bytes_eq}
use Rattle.hip_io.specs.Counts.{Rose, counted}
use Rattle.hip_io.specs.declared.cabinet.NamedFile.{NamedFile}
use Rattle.hip_io.specs.declared.cabinet.Fetched.{Fetched}
use Rattle.hip_io.specs.declared.cabinet.Fetched.TheVariants as fetched
use Rattle.hip_io.specs.declared.cabinet.Taken.{Taken}
use Rattle.hip_io.specs.declared.cabinet.Taken.TheVariants as taken

-- Whether a file is current is always known. The files, and the name and the rest of the current file, are None if they
-- are not known. Fetches, misses and faults are counted.
pub record CabinetState : Type 0 where
  pub files : Option (List NamedFile)
  pub is_current : Bool
  pub name : Option (List ℕ)
  pub rest : Option (List ℕ)
  pub fetches : ℕ
  pub misses : ℕ
  pub faults : ℕ

-- If the files are known and one is current, its name and its rest are known.
abbrev pub IsStated : CabinetState → Type 0
IsStated s = IfSome s.files (λ files. s.is_current ≡ true → (is_some s.name ≡ true) × (is_some s.rest ≡ true))

-- The bytes of the first file of that name.
abbrev pub file_of : List NamedFile → List ℕ → Option (List ℕ)
file_of [] name = None
file_of (file ∷ files) name = if bytes_eq file.name name then Some file.bytes else file_of files name

-- The name of the current file is known to be this one, and its rest to be all bytes of the first file of that name.
pub record IsFirstFile (files : List NamedFile) (name : List ℕ) (new : CabinetState) : Type 0 where
  pub bytes : List ℕ
  pub found : file_of files name ≡ Some bytes
  pub named : new.name ≡ Some name
  pub rest : new.rest ≡ Some bytes

-- The named file is the current one, at its first byte.
pub record IsFetched (old new : CabinetState) (name : List ℕ) : Type 0 where
  pub files : new.files ≡ old.files
  pub fetches : new.fetches ≡ counted old.fetches
  pub misses : new.misses ≡ old.misses
  pub faults : new.faults ≡ old.faults
  pub current : new.is_current ≡ true
  pub named : IfSome new.name (λ n. n ≡ name)
  pub stated : IfSome old.files (λ files. IsFirstFile files name new)

-- No file is current. If the files are known, none of them has the name.
pub record IsMissed (old new : CabinetState) (name : List ℕ) : Type 0 where
  pub files : new.files ≡ old.files
  pub fetches : new.fetches ≡ counted old.fetches
  pub later : old.misses ≤ new.misses
  pub rose : Rose old.misses new.misses
  pub faults : new.faults ≡ old.faults
  pub current : new.is_current ≡ false
  pub stated : IfSome old.files (λ files. file_of files name ≡ None)

-- The fetch failed; no file is current.
pub record HasFailedFetch (old new : CabinetState) : Type 0 where
  pub files : new.files ≡ old.files
  pub fetches : new.fetches ≡ counted old.fetches
  pub misses : new.misses ≡ old.misses
  pub later : old.faults ≤ new.faults
  pub rose : Rose old.faults new.faults
  pub current : new.is_current ≡ false

-- What a fetch of that name does, by its answer.
abbrev pub HasFetched : CabinetState → CabinetState → List ℕ → Fetched → Type 0
HasFetched old new name fetched.Ready = IsFetched old new name
HasFetched old new name fetched.Missing = IsMissed old new name
HasFetched old new name fetched.Failed = HasFailedFetch old new

-- What every `take` leaves as it is.
pub record StaysOpen (old new : CabinetState) : Type 0 where
  pub files : new.files ≡ old.files
  pub fetches : new.fetches ≡ old.fetches
  pub misses : new.misses ≡ old.misses
  pub current : new.is_current ≡ true
  pub named : new.name ≡ old.name

-- The first n bytes of the buffer are the next n of the file.
pub record HasGot (old new : CabinetState) (buffer : List ℕ) (n : ℕ) : Type 0 where
  pub stays : StaysOpen old new
  pub faults : new.faults ≡ old.faults
  pub some : 1 ≤ n
  pub fits : n ≤ length buffer
  pub bytes : old.rest ≡ option_map (λ rest. take n buffer ++ rest) new.rest

-- The file has ended.
pub record IsAtEnd (old new : CabinetState) : Type 0 where
  pub stays : StaysOpen old new
  pub faults : new.faults ≡ old.faults
  pub rest : new.rest ≡ old.rest
  pub ended : IfSome old.rest (λ rest. rest ≡ [])

-- The read failed; nothing was taken.
pub record HasFailedTake (old new : CabinetState) : Type 0 where
  pub stays : StaysOpen old new
  pub later : old.faults ≤ new.faults
  pub rose : Rose old.faults new.faults
  pub rest : new.rest ≡ old.rest

-- What a `take` does, by its answer. The buffer is the one after the call.
abbrev pub HasTaken : CabinetState → CabinetState → List ℕ → Taken → Type 0
HasTaken old new buffer (taken.Got n) = HasGot old new buffer n
HasTaken old new buffer taken.End = IsAtEnd old new
HasTaken old new buffer taken.Failed = HasFailedTake old new
