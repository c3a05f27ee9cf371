-- What contracts see of the cabinets and the sink in memory.
use Rattle.std.specs.Prelude.{ℕ, ◌≡◌, ◌-◌, ◌≤◌, if◌then◌else◌, true, List, Option, Some, None, is_some, option_map, option_and_then, slice_get, drop}
use Rattle.std.specs.Str.{bytes_eq}
use Rattle.std.proofs.Common.{refl}
use Rattle.hip_io.specs.Cabinets.{CabinetState, IsStated, file_of}
use Rattle.hip_io.specs.Sinks.{SinkState}
use Rattle.hip_io.specs.declared.cabinet.NamedFile.{NamedFile}
use Rattle.hip_io.specs.declared.cabinet.Taken.{Taken}
use Rattle.hip_io.specs.declared.cabinet.Taken.TheVariants.{Got, End, Failed}
use Rattle.hip_io.specs.declared.failing_cabinet.FailAt.{FailAt}
use Rattle.hip_io.specs.declared.failing_cabinet.FailAt.TheVariants.{Fetch, Byte}
use Rattle.hip_io.specs.declared.mem_cabinet.ReadPlace.{ReadPlace}

-- A file that is read: its name, and what is left of it.
pub record OpenFile : Type 0 where
  pub name : List ℕ
  pub rest : List ℕ

-- Files in memory, which give at most `chunk` bytes at a time and never fail.
pub record MemFiles : Type 0 where
  pub files : List NamedFile
  pub chunk : ℕ
  pub current : Option OpenFile
  pub fetches : ℕ
  pub misses : ℕ

-- What is known of a cabinet in memory: all its files, and the name and the rest of the current one; it counts no
-- faults.
abbrev pub mem_cabinet_state : MemFiles → CabinetState
mem_cabinet_state m = record {
  files = Some m.files;
  is_current = is_some m.current;
  name = option_map (λ file. file.name) m.current;
  rest = option_map (λ file. file.rest) m.current;
  fetches = m.fetches;
  misses = m.misses;
  faults = 0;
}

-- The name and the rest of the current file are known.
pub memory_stated : (m : MemFiles) → IsStated (mem_cabinet_state m)
memory_stated m = by_file m.current
  where
    by_file : (current : Option OpenFile) → is_some current ≡ true
        → (is_some (option_map (λ (file : OpenFile). file.name) current) ≡ true)
        × (is_some (option_map (λ (file : OpenFile). file.rest) current) ≡ true)
    by_file None e = absurd (let z : ⊥ = cc in z)
    by_file (Some file) e = (refl, refl)

-- Bytes in memory, and how many more there is room for.
pub record MemBytes : Type 0 where
  pub bytes : List ℕ
  pub room : ℕ
  pub faults : ℕ

-- What is known of a sink in memory: all bytes that it was given, but not the room.
abbrev pub mem_sink_state : MemBytes → SinkState
mem_sink_state m = record { bytes = Some m.bytes; faults = m.faults }

-- The file that is open in a cabinet. The code keeps it as the file's number and the number of its bytes that were
-- taken.
abbrev pub open_file : List NamedFile → Option ReadPlace → Option OpenFile
open_file files place =
    option_and_then
    (λ p. option_map (λ f. record { name = f.name; rest = drop p.taken f.bytes }) (slice_get files p.file))
    place

-- The file of that number is the first one of the name.
pub record IsFirstAt (files : List NamedFile) (name : List ℕ) (at : ℕ) : Type 0 where
  pub file : NamedFile
  pub here : slice_get files at ≡ Some file
  pub named : file.name ≡ name
  pub first : file_of files name ≡ Some file.bytes

-- A `take` gave at most n bytes; at the end, and where it failed, it gave none.
abbrev pub GotAtMost : ℕ → Taken → Type 0
GotAtMost most (Got n) = n ≤ most
GotAtMost most End = Unit {0}
GotAtMost most Failed = Unit {0}

-- Files in memory of which one fails: at each fetch, or once n of its bytes were taken. While that file is current,
-- `left` is how many bytes it still gives.
pub record FailingFiles : Type 0 where
  pub inner : MemFiles
  pub name : List ℕ
  pub at : FailAt
  pub left : Option ℕ
  pub fetches : ℕ
  pub faults : ℕ

-- What is known of a cabinet that fails: what its files in memory do, with the fetches and faults that it has counted.
abbrev pub failing_cabinet_state : FailingFiles → CabinetState
failing_cabinet_state f = record (mem_cabinet_state f.inner) { fetches = f.fetches; faults = f.faults }

pub failing_stated : (f : FailingFiles) → IsStated (failing_cabinet_state f)
failing_stated f = memory_stated f.inner

-- How many bytes a file gives before it fails, if it does not fail at its fetch.
abbrev limit_of : FailAt → Option ℕ
limit_of Fetch = None
limit_of (Byte n) = Some n

-- How many bytes a file of this name gives once it is fetched, if it is the one that fails.
abbrev pub left_of : FailingFiles → List ℕ → Option ℕ
left_of f name = if bytes_eq f.name name then limit_of f.at else None

-- How many bytes the file that fails still gives after a read.
abbrev pub left_after : Option ℕ → Taken → Option ℕ
left_after left (Got n) = option_map (λ l. l - n) left
left_after left End = left
left_after left Failed = left

-- Which file fails, where it fails and how many bytes come at a time stay as they are.
pub record FailsAlike (old new : FailingFiles) : Type 0 where
  pub name : new.name ≡ old.name
  pub at : new.at ≡ old.at
  pub chunk : new.inner.chunk ≡ old.inner.chunk
