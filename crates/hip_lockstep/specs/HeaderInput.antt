-- A trace, as far as its header was read.
use Rattle.std.specs.Prelude.{◌≡◌, ℕ, true, List, [], ◌∷◌, ◌++◌, length, Option, Some, None, IfSome, Result, Ok, Err}
use Rattle.hip_io.specs.Cabinets.{CabinetState}
use Rattle.hip_tree.specs.declared.program.Program.{Program}
use Rattle.hip_run_traces.specs.Headers.{Gives, header, header_from, valid_base, valid_limit, with_entry}
use Rattle.hip_run_traces.specs.Traces.{header_of, stated}
use Rattle.hip_runs.specs.Step.{header_entries}
use Rattle.hip_runs.specs.Validity.{IsValid}
use Rattle.hip_runs.specs.declared.input.Input.{Input}
use Rattle.hip_trace.specs.Pieces.{spelled}
use Rattle.hip_trace.specs.Reads.{ReaderState}
use Rattle.hip_trace.specs.declared.entry.Entry.{Entry}
use Rattle.hip_lockstep.specs.ReadEntries.{HasReadEntries}
use Rattle.hip_lockstep.specs.Refusals.{Refuses}
use Rattle.hip_lockstep.specs.declared.header_input.Begun.{Begun}
use Rattle.hip_lockstep.specs.declared.refusal.ReplayRefusal.{ReplayRefusal}
use Rattle.hip_lockstep.specs.declared.steps.Lockstep.{Lockstep}

-- A valid START was read.
pub record HasLimit (start : CabinetState) (r : ReaderState) (s : CabinetState) (limit : ℕ) : Type 0 where
  pub first : Entry
  pub read : HasReadEntries start r s (first ∷ [])
  pub starts : valid_limit (Some first) ≡ Some limit

-- A valid START and a valid REGISTER were read.
pub record HasBase (P : Program) (start : CabinetState) (r : ReaderState) (s : CabinetState) (limit base : ℕ) : Type 0
  where
    pub first : Entry
    pub second : Entry
    pub read : HasReadEntries start r s (first ∷ second ∷ [])
    pub starts : valid_limit (Some first) ≡ Some limit
    pub registers : valid_base P (Some second) ≡ Some base

-- Valid entries of a header were read, which gave this input so far.
pub record HasGiven (P : Program) (start : CabinetState) (r : ReaderState) (s : CabinetState) (given : Input)
    (count : ℕ) : Type 0 where
  pub entries : List Entry
  pub read : HasReadEntries start r s entries
  pub counted : count ≡ length entries
  pub header : (more : List (Option Entry)) → header P (stated entries ++ more) ≡ header_from P given count more

-- All valid entries of a header were read, and one entry after them.
pub record HasAllGiven (P : Program) (start : CabinetState) (r : ReaderState) (s : CabinetState) (given : Input)
    (lockstep : Lockstep) : Type 0 where
  pub entries : List Entry
  pub read : HasReadEntries start r s (entries ++ lockstep.next ∷ [])
  pub counted : lockstep.entries ≡ length entries
  pub header : (more : List (Option Entry))
      → header P (stated entries ++ more) ≡ header_from P given lockstep.entries more
  pub ends : with_entry P given (Some lockstep.next) ≡ None

-- The header was read, which gives the input, and one entry after it.
pub record HasHeader (P : Program) (start : CabinetState) (r : ReaderState) (s : CabinetState) (begun : Begun) : Type 0
  where
    pub valid : IsValid P begun.input
    pub read : HasReadEntries start r s (header_of begun.input ++ begun.lockstep.next ∷ [])
    pub counted : begun.lockstep.entries ≡ length (header_of begun.input)
    pub header : IfSome start.rest
        (λ bytes. header P (spelled true bytes) ≡ Gives (header_entries begun.input) begun.input)

-- The limit of turns that a valid START gives as the first entry, or the cause why there is none.
abbrev pub ReadsLimit : Program → CabinetState → ReaderState → CabinetState → Result ℕ ReplayRefusal
    → Type 0
ReadsLimit P start r s (Ok limit) = HasLimit start r s limit
ReadsLimit P start r s (Err refusal) = Refuses P r start s refusal

-- The base of the region that a valid REGISTER gives as the second entry, or the cause why there is none.
abbrev pub ReadsBase : Program → CabinetState → ReaderState → CabinetState → ℕ → Result ℕ ReplayRefusal
    → Type 0
ReadsBase P start r s limit (Ok base) = HasBase P start r s limit base
ReadsBase P start r s limit (Err refusal) = Refuses P r start s refusal

-- All that valid INPUT and IMAGE entries give, with the first entry after them, or the cause why that entry was not
-- read.
abbrev pub ReadsValues : Program → CabinetState → ReaderState → CabinetState → Input
    → Result Lockstep ReplayRefusal
    → Type 0
ReadsValues P start r s given (Ok lockstep) = HasAllGiven P start r s given lockstep
ReadsValues P start r s given (Err refusal) = Refuses P r start s refusal

-- The input that the header gives, or the cause why there is none.
abbrev pub ReadsHeader : Program → CabinetState → ReaderState → CabinetState → Result Begun ReplayRefusal
    → Type 0
ReadsHeader P start r s (Ok begun) = HasHeader P start r s begun
ReadsHeader P start r s (Err refusal) = Refuses P r start s refusal
