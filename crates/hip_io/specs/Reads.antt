-- What it means to read a whole file of a cabinet.
use Rattle.std.specs.Prelude.{ℕ, ◌+◌, ◌≡◌, ◌≤◌, ◌<◌, ◌⊎◌, true, false, List, [], ◌++◌, length, drop, Some, IfSome, option_map, Result, Ok, Err}
use Rattle.hip_io.specs.Counts.{Rose, counted}
use Rattle.hip_io.specs.Cabinets.{CabinetState, StaysOpen, IsMissed, file_of}
use Rattle.hip_io.specs.declared.read.ReadRefusal.{ReadRefusal}
use Rattle.hip_io.specs.declared.read.ReadRefusal.TheVariants as refusals
use Rattle.hip_io.specs.declared.cabinet.NamedFile.{NamedFile}

-- These bytes were taken, one piece after another, and nothing failed.
pub record HasTakenAll (old new : CabinetState) (bytes : List ℕ) : Type 0 where
  pub stays : StaysOpen old new
  pub faults : new.faults ≡ old.faults
  pub rest : old.rest ≡ option_map (λ rest. bytes ++ rest) new.rest

-- The file of that name has these bytes, and they were all taken.
pub record IsWholeFile (files : List NamedFile) (name bytes : List ℕ) (new : CabinetState) : Type 0 where
  pub found : file_of files name ≡ Some bytes
  pub named : new.name ≡ Some name
  pub rest : new.rest ≡ Some []

-- The named file is current and was read to its end. It has these bytes, if the files are known, and at most as many as
-- the limit. Nothing failed.
pub record HasReadWhole (old new : CabinetState) (name : List ℕ) (limit : ℕ) (bytes : List ℕ) : Type 0 where
  pub files : new.files ≡ old.files
  pub fetches : new.fetches ≡ counted old.fetches
  pub misses : new.misses ≡ old.misses
  pub faults : new.faults ≡ old.faults
  pub current : new.is_current ≡ true
  pub named : IfSome new.name (λ n. n ≡ name)
  pub fits : length bytes ≤ limit
  pub stated : IfSome old.files (λ files. IsWholeFile files name bytes new)

-- The file of that name has more bytes than the limit, and one more than the limit was taken.
pub record IsLongFile (files : List NamedFile) (name : List ℕ) (limit : ℕ) (new : CabinetState) : Type 0 where
  pub bytes : List ℕ
  pub found : file_of files name ≡ Some bytes
  pub long : limit < length bytes
  pub named : new.name ≡ Some name
  pub rest : new.rest ≡ Some (drop (limit + 1) bytes)

-- The named file is current and has more bytes than the limit, if the files are known. Nothing failed.
pub record HasReadTooMuch (old new : CabinetState) (name : List ℕ) (limit : ℕ) : Type 0 where
  pub files : new.files ≡ old.files
  pub fetches : new.fetches ≡ counted old.fetches
  pub misses : new.misses ≡ old.misses
  pub faults : new.faults ≡ old.faults
  pub current : new.is_current ≡ true
  pub named : IfSome new.name (λ n. n ≡ name)
  pub stated : IfSome old.files (λ files. IsLongFile files name limit new)

-- Some bytes of the file of that name were taken, at most one more than the limit, and the others are left.
pub record IsPartTaken (files : List NamedFile) (name : List ℕ) (limit : ℕ) (new : CabinetState) : Type 0 where
  pub bytes : List ℕ
  pub count : ℕ
  pub found : file_of files name ≡ Some bytes
  pub few : count ≤ limit + 1
  pub named : new.name ≡ Some name
  pub rest : new.rest ≡ Some (drop count bytes)

-- The named file is current, and was read in part.
pub record HasBegun (old new : CabinetState) (name : List ℕ) (limit : ℕ) : Type 0 where
  pub current : new.is_current ≡ true
  pub named : IfSome new.name (λ n. n ≡ name)
  pub stated : IfSome old.files (λ files. IsPartTaken files name limit new)

-- The fetch failed and no file is current, or a read failed.
pub record HasFailedRead (old new : CabinetState) (name : List ℕ) (limit : ℕ) : Type 0 where
  pub files : new.files ≡ old.files
  pub fetches : new.fetches ≡ counted old.fetches
  pub misses : new.misses ≡ old.misses
  pub later : old.faults ≤ new.faults
  pub rose : Rose old.faults new.faults
  pub begun : (new.is_current ≡ false) ⊎ HasBegun old new name limit

-- Memory ran out: the named file is current and was read in part, and no fault was counted.
pub record HasReadPart (old new : CabinetState) (name : List ℕ) (limit : ℕ) : Type 0 where
  pub files : new.files ≡ old.files
  pub fetches : new.fetches ≡ counted old.fetches
  pub misses : new.misses ≡ old.misses
  pub faults : new.faults ≡ old.faults
  pub begun : HasBegun old new name limit

-- What `read_all` does, by its answer.
abbrev pub HasRead : CabinetState → CabinetState → List ℕ → ℕ → Result (List ℕ) ReadRefusal → Type 0
HasRead old new name limit (Ok bytes) = HasReadWhole old new name limit bytes
HasRead old new name limit (Err refusals.Missing) = IsMissed old new name
HasRead old new name limit (Err refusals.ReadFault) = HasFailedRead old new name limit
HasRead old new name limit (Err refusals.TooLarge) = HasReadTooMuch old new name limit
HasRead old new name limit (Err refusals.NoMemory) = HasReadPart old new name limit

-- The whole rest of the current file was taken.
pub record HasTakenRest (old new : CabinetState) (limit : ℕ) (bytes : List ℕ) : Type 0 where
  pub taken : HasTakenAll old new bytes
  pub fits : length bytes ≤ limit
  pub ended : IfSome new.rest (λ rest. rest ≡ [])

-- One byte more than the limit was taken, and nothing failed.
pub record HasTakenTooMuch (old new : CabinetState) (limit : ℕ) : Type 0 where
  pub bytes : List ℕ
  pub taken : HasTakenAll old new bytes
  pub long : length bytes ≡ limit + 1

-- At most one byte more than the limit was taken.
pub record HasTakenPart (old new : CabinetState) (limit : ℕ) : Type 0 where
  pub bytes : List ℕ
  pub stays : StaysOpen old new
  pub few : length bytes ≤ limit + 1
  pub rest : old.rest ≡ option_map (λ rest. bytes ++ rest) new.rest

-- A read failed, and at most one byte more than the limit was taken before.
pub record HasFailedRest (old new : CabinetState) (limit : ℕ) : Type 0 where
  pub part : HasTakenPart old new limit
  pub later : old.faults ≤ new.faults
  pub rose : Rose old.faults new.faults

-- Memory ran out: at most one byte more than the limit was taken, and no fault was counted.
pub record ReadHasStopped (old new : CabinetState) (limit : ℕ) : Type 0 where
  pub part : HasTakenPart old new limit
  pub faults : new.faults ≡ old.faults

-- What reading the rest of the current file does, by its answer. The answer is never `Missing`.
abbrev pub HasReadRest : CabinetState → CabinetState → ℕ → Result (List ℕ) ReadRefusal → Type 0
HasReadRest old new limit (Ok bytes) = HasTakenRest old new limit bytes
HasReadRest old new limit (Err refusals.Missing) = ⊥
HasReadRest old new limit (Err refusals.ReadFault) = HasFailedRest old new limit
HasReadRest old new limit (Err refusals.TooLarge) = HasTakenTooMuch old new limit
HasReadRest old new limit (Err refusals.NoMemory) = ReadHasStopped old new limit
