-- What contracts see of a stream and its device.
use Rattle.std.specs.Prelude.{ℕ, ◌≡◌, ◌≤◌, if◌then◌else◌, Bool, List, take, Option, None}
use Rattle.std.specs.Io.KnownBytes.{Appends, append_known}
use Rattle.hip_io.specs.Counts.{Rose}
use Rattle.hip_io.specs.declared.sink.Put.{Put}
use Rattle.hip_io.specs.declared.sink.Put.TheVariants.{Done, Failed}

-- The bytes that a stream was given: those that its device holds, and then those that it holds back. Contracts see
-- them if the device reveals what it holds.
abbrev pub given : Bool → Option (List ℕ) → List ℕ → Option (List ℕ)
given reveals contents held = if reveals then append_known contents held else None

-- What a stream of a device did with a piece, by its answer: a front of the piece was appended, and the whole piece
-- unless it failed. `old` and `new` are what the device holds and then what the stream holds back.
abbrev pub Took : Option (List ℕ) → Option (List ℕ) → List ℕ → Put → Type 0
Took old new piece Done = Appends old new piece
Took old new piece Failed = (n : ℕ) × Appends old new (take n piece)

-- How the count of faults goes on, by the answer.
abbrev pub Counts : ℕ → ℕ → Put → Type 0
Counts old new Done = new ≡ old
Counts old new Failed = (old ≤ new) × Rose old new
