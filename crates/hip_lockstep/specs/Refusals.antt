-- Why a trace is not replayed, each refusal with its cause.
use Rattle.std.specs.Prelude.{◌≡◌, ◌≤◌, ◌-◌, ℕ, true, false, List, ◌++◌, Option, Some, IfSome}
use Rattle.hip_io.specs.Cabinets.{CabinetState, StaysOpen}
use Rattle.hip_io.specs.Counts.{Rose}
use Rattle.hip_tree.specs.declared.program.Program.{Program}
use Rattle.hip_run_traces.specs.Misfits.{IsMisfit}
use Rattle.hip_run_traces.specs.declared.misfit.MisfitKind.{MisfitKind}
use Rattle.hip_run_traces.specs.declared.misfit.MisfitKind.TheVariants.{Malformed, Differs, Early, Extra}
use Rattle.hip_trace.specs.Reads.{ReaderState, IsReading}
use Rattle.hip_lockstep.specs.declared.refusal.ReplayRefusal.{ReplayRefusal}
use Rattle.hip_lockstep.specs.declared.refusal.ReplayRefusal.TheVariants as refusals

-- The number of entries whose text the reader has begun, given the number of the first entry that does not fit. The
-- reader has begun no entry after that one.
abbrev pub begun_at : MisfitKind → ℕ → ℕ
begun_at Early entry = entry - 1
begun_at Malformed entry = entry
begun_at Differs entry = entry
begun_at Extra entry = entry

-- The file has this misfit; nothing failed, and no entry after that one was read.
pub record HasMisfit (P : Program) (r : ReaderState) (old new : CabinetState) (entry : ℕ) (kind : MisfitKind) : Type 0
  where
    pub reading : IsReading old new
    pub stated : IfSome old.rest (λ bytes. IsMisfit P bytes true entry kind)
    pub count : r.count ≡ begun_at kind entry

-- These bytes were taken from the front of a file, and the rest is left.
pub record IsTaken (front bytes : List ℕ) (rest : Option (List ℕ)) : Type 0 where
  pub left : List ℕ
  pub rest_is : rest ≡ Some left
  pub bytes_are : bytes ≡ front ++ left

-- The bytes that were taken show no misfit, whatever follows them.
pub record ShowsNone (P : Program) (bytes : List ℕ) (rest : Option (List ℕ)) : Type 0 where
  pub front : List ℕ
  pub taken : IsTaken front bytes rest
  pub none : (entry : ℕ) → (kind : MisfitKind) → IsMisfit P front false entry kind → ⊥

-- A read failed, and the bytes taken before show no misfit.
pub record HasReadFault (P : Program) (old new : CabinetState) : Type 0 where
  pub stays : StaysOpen old new
  pub later : old.faults ≤ new.faults
  pub rose : Rose old.faults new.faults
  pub stated : IfSome old.rest (λ bytes. ShowsNone P bytes new.rest)

-- Memory ran out; no read failed, and the file is still the current one.
pub record HasStoppedReplay (old new : CabinetState) : Type 0 where
  pub reading : IsReading old new

-- The cause of each refusal.
abbrev pub Refuses : Program → ReaderState → CabinetState → CabinetState → ReplayRefusal → Type 0
Refuses P r old new (refusals.Misfit entry kind) = HasMisfit P r old new entry kind
Refuses P r old new refusals.ReadFault = HasReadFault P old new
Refuses P r old new refusals.NoMemory = HasStoppedReplay old new
