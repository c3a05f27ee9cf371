-- The crash image that picks give at an entry of a run's trace, and why there is none.
use Rattle.std.specs.Prelude.{ℕ, ◌≡◌, ◌≤◌, ◌<◌, ◌⊎◌, List, length, Some, None, Result, Ok, Err}
use Rattle.hip_answers.specs.declared.status.Status.{Status}
use Rattle.hip_answers.specs.declared.status.Status.TheVariants as statuses
use Rattle.hip_crash.specs.Picks.{first_failure, picked}
use Rattle.hip_run_commands.specs.declared.image_refusal.ImageRefusal.{ImageRefusal}
use Rattle.hip_run_commands.specs.declared.image_refusal.ImageRefusal.TheVariants as images
use Rattle.hip_tree.specs.declared.program.Program.{Program}
use Rattle.hip_program_files.specs.declared.failure.Failure.{Failure}
use Rattle.hip_program_files.specs.declared.failure.Failure.TheVariants as failures
use Rattle.hip_types.specs.declared.pick.Pick.{Pick}
use Rattle.hip_types.specs.declared.pick.PickRefusal.{PickRefusal}
use Rattle.hip_types.specs.declared.pick.PickRefusal.TheVariants as picks
use Rattle.hip_run_traces.specs.Traces.{IsTrace}
use Rattle.hip_runs.specs.Crash.{IsCrashImage, crash_image}
use Rattle.hip_runs.specs.Entry.{IsAtEntry}
use Rattle.hip_runs.specs.State.{State}
use Rattle.hip_runs.specs.Step.{run}
use Rattle.hip_runs.specs.Validity.{IsValid}
use Rattle.hip_runs.specs.declared.input.Input.{Input}
use Rattle.hip_trace.specs.declared.entry.Entry.{Entry}

-- ---- entries

-- The trace of the run has n entries.
pub record HasEntries (P : Program) (I : Input) (entries : ℕ) : Type 0 where
  pub trace : List Entry
  pub is_trace : IsTrace P I trace
  pub many : entries ≡ length trace

-- The trace of the run has `entries` entries, and none of that number, counted from 1.
pub record LacksEntry (P : Program) (I : Input) (entry entries : ℕ) : Type 0 where
  pub counted : HasEntries P I entries
  pub outside : (entry ≡ 0) ⊎ (entries < entry)

-- The trace of the run has an entry of that number, counted from 1.
pub record TraceHasEntry (P : Program) (I : Input) (entry : ℕ) : Type 0 where
  pub entries : ℕ
  pub counted : HasEntries P I entries
  pub some : 1 ≤ entry
  pub there : entry ≤ entries

-- The trace has an entry of that number, and this is the state of the run at the entry: after the least number of steps
-- with that many entries, including those before the first step.
pub record StateAtEntry (P : Program) (I : Input) (entry : ℕ) (s : State) : Type 0 where
  pub has : TraceHasEntry P I entry
  pub steps : ℕ
  pub at : IsAtEntry P I entry steps
  pub state_is : s ≡ run P I steps

-- ---- images

-- The input, with other initial bytes of the region.
abbrev pub begun_with : Input → List ℕ → Input
begun_with I content = record I { image = content }

-- At the entry no pick fails, and this is the crash image that the picks give there. A run may begin with it.
pub record HasImage (P : Program) (I : Input) (entry : ℕ) (ps : List Pick) (content : List ℕ) : Type 0 where
  pub state : State
  pub at : StateAtEntry P I entry state
  pub fit : first_failure state ps ≡ None
  pub content_is : content ≡ crash_image I state (picked state ps)
  pub image : IsCrashImage I state content
  pub valid : IsValid P (begun_with I content)

-- At the entry, the first pick that fails does so in this way.
pub record LacksPick (P : Program) (I : Input) (entry : ℕ) (ps : List Pick) (why : PickRefusal) : Type 0 where
  pub state : State
  pub at : StateAtEntry P I entry state
  pub failure : first_failure state ps ≡ Some why

-- Why there is no image: the trace has no such entry, else a pick fails.
abbrev pub HasNoImage : Program → Input → ℕ → List Pick → ImageRefusal → Type 0
HasNoImage P I entry ps (images.NoEntry entries) = LacksEntry P I entry entries
HasNoImage P I entry ps (images.BadPick why) = LacksPick P I entry ps why

-- ---- what is answered

-- The status that says why there is no image.
abbrev pub status_of_refusal : ImageRefusal → Status
status_of_refusal (images.NoEntry entries) = statuses.NoEntry entries
status_of_refusal (images.BadPick why) = statuses.BadPick why

-- The status that says why there is no image, or that of a fault that is no refusal. Picking never gives a read fault.
abbrev pub status_of_image : Failure ImageRefusal → Status
status_of_image (failures.Refused why) = status_of_refusal why
status_of_image failures.ReadFault = statuses.ReadFault
status_of_image failures.NoMemory = statuses.NoMemory

-- A refusal of picks, which may be out of memory.
abbrev pub failure_of_picks : PickRefusal → Failure ImageRefusal
failure_of_picks picks.NoMemory = failures.NoMemory
failure_of_picks why = failures.Refused (images.BadPick why)

-- What picking an image at an entry answers; out of memory may come anywhere.
abbrev pub PicksImage : Program → Input → ℕ → List Pick → Result (List ℕ) (Failure ImageRefusal) → Type 0
PicksImage P I entry ps (Ok content) = HasImage P I entry ps content
PicksImage P I entry ps (Err (failures.Refused why)) = HasNoImage P I entry ps why
PicksImage P I entry ps (Err failures.ReadFault) = ⊥
PicksImage P I entry ps (Err failures.NoMemory) = Unit {0}
