-- What was read of a trace, entry by entry.
use Rattle.std.specs.Prelude.{◌≡◌, ◌⊎◌, ℕ, Bool, true, false, List, [], ◌++◌, length, Option, Some, IfSome}
use Rattle.hip_io.specs.Cabinets.{CabinetState}
use Rattle.hip_run_traces.specs.Laws.GivenLaws.{FitAll}
use Rattle.hip_run_traces.specs.Traces.{stated}
use Rattle.hip_trace.specs.Pieces.{spelled}
use Rattle.hip_trace.specs.Reads.{ReaderState, IsReading, ahead}
use Rattle.hip_trace.specs.declared.entry.Entry.{Entry}
use Rattle.hip_trace.specs.declared.refusal.Progress.TheVariants.{Reading}

-- The text ends at a separator: its pieces stay the same, whatever follows.
pub record StopsAtSeparator (text : List ℕ) (entries : List Entry) : Type 0 where
  pub spells : (whole : Bool) → (more : List ℕ)
      → spelled whole (text ++ more) ≡ stated entries ++ spelled whole more

-- The text is the whole file; its last piece has no separator, and is a piece only because the file is whole.
pub record StopsAtEnd (text : List ℕ) (entries : List Entry) (left : List ℕ) : Type 0 where
  pub none : left ≡ []
  pub spells : spelled true text ≡ stated entries
  pub last : List (Option Entry)
  pub front : stated entries ≡ spelled false text ++ last

-- Whole pieces, which spell these entries, were taken off the front of a file; the rest is ahead.
pub record EntriesAreRead (bytes : List ℕ) (entries : List Entry) (ahead : Option (List ℕ)) : Type 0 where
  pub text : List ℕ
  pub left : List ℕ
  pub ahead_is : ahead ≡ Some left
  pub bytes_are : bytes ≡ text ++ left
  pub spells : StopsAtSeparator text entries ⊎ StopsAtEnd text entries left

-- A reader has read these entries since the cabinet was in the state `start`, and nothing failed.
pub record HasReadEntries (start : CabinetState) (r : ReaderState) (s : CabinetState)
    (entries : List Entry) : Type 0 where
  pub reading : IsReading start s
  pub progress : r.progress ≡ Reading
  pub count : r.count ≡ length entries
  pub fit : FitAll (stated entries)
  pub stated : IfSome start.rest (λ bytes. EntriesAreRead bytes entries (ahead r s))
