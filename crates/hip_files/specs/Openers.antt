-- What contracts see of files that are opened by their names.
use Rattle.std.specs.Prelude.{ℕ, ◌≡◌, ◌≤◌, if◌then◌else◌, Bool, true, false, List, [], length, take, Option, Some, None, is_some, slice_get}
use Rattle.std.specs.Io.KnownBytes.{Consumes, IsAtEnd, Keeps}
use Rattle.std.proofs.Common.{refl}
use Rattle.hip_io.specs.Cabinets.{CabinetState, IsStated, file_of}
use Rattle.hip_io.specs.declared.cabinet.NamedFile.{NamedFile}
use Rattle.hip_io.specs.declared.cabinet.Taken.{Taken}
use Rattle.hip_io.specs.declared.cabinet.Taken.TheVariants.{Got, End, Failed}

-- The first file of that name was opened, and all its bytes remain to be read. `last` is the name of the file that was
-- opened last.
pub record IsOpened (files : List NamedFile) (name last : List ℕ) (remaining : Option (List ℕ)) : Type 0 where
  pub bytes : List ℕ
  pub found : file_of files name ≡ Some bytes
  pub named : last ≡ name
  pub rest : remaining ≡ Some bytes

-- What contracts see of a value: the value if it is revealed, and otherwise nothing.
abbrev pub known_if : {A : Type 0} → Bool → Option A → Option A
known_if reveals value = if reveals then value else None

-- The bytes that remain of the current file.
abbrev pub remaining_of : {F : Type 0} → (F → Option (List ℕ)) → Option F → Option (List ℕ)
remaining_of remaining None = None
remaining_of remaining (Some file) = remaining file

-- A cabinet of files that are opened by their names.
abbrev pub opened_state : {F : Type 0} → Bool → (F → Option (List ℕ)) → List NamedFile → List ℕ → ℕ → Option F → ℕ → ℕ → CabinetState
opened_state reveals remaining files last opens file misses faults = record {
  files = known_if reveals (Some files);
  is_current = is_some file;
  name = known_if reveals (Some last);
  rest = known_if reveals (remaining_of remaining file);
  fetches = opens;
  misses = misses;
  faults = faults;
}

pub are_stated : {F : Type 0} (reveals : Bool) (remaining : F → Option (List ℕ)) (files : List NamedFile) (last : List ℕ)
    (opens : ℕ) (file : Option F) (misses faults : ℕ) → ((f : F) → reveals ≡ true → is_some (remaining f) ≡ true)
    → IsStated (opened_state reveals remaining files last opens file misses faults)
are_stated false remaining files last opens file misses faults law = tt
are_stated true remaining files last opens None misses faults law = λ is. absurd (let z : ⊥ = cc in z)
are_stated true remaining files last opens (Some f) misses faults law = λ is. (refl, law f refl)

-- What a read does to the bytes that remain of a file, by its answer. The buffer is the one after the call.
abbrev pub TookNext : Option (List ℕ) → Option (List ℕ) → List ℕ → Taken → Type 0
TookNext old new buffer (Got n) = (1 ≤ n) × (n ≤ length buffer) × Consumes old new (take n buffer)
TookNext old new buffer End = Keeps old new × IsAtEnd old
TookNext old new buffer Failed = Keeps old new

abbrev name_of : Option NamedFile → List ℕ
name_of None = []
name_of (Some file) = file.name

-- The name of the file of that number; no bytes if there is none.
abbrev pub name_at : List NamedFile → ℕ → List ℕ
name_at files at = name_of (slice_get files at)

-- The file of that number is the first one of the name.
pub record IsFirstNamed (files : List NamedFile) (name : List ℕ) (at : ℕ) : Type 0 where
  pub file : NamedFile
  pub here : slice_get files at ≡ Some file
  pub named : file.name ≡ name
  pub first : file_of files name ≡ Some file.bytes
