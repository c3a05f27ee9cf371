-- What contracts see of a tracker.
use Rattle.std.specs.Prelude.{◌≡◌, ◌⊎◌, ℕ, ◌<◌, ◌^◌, Bool, true, false, Option, Some, None}
use Rattle.hip_tree.specs.declared.program.Program.{Program}
use Rattle.hip_runs.specs.Ends.{longest}
use Rattle.hip_runs.specs.declared.input.Input.{Input}
use Rattle.hip_runs.specs.Seen.{Seen}
use Rattle.hip_ledger.specs.Noted.{IsLedger}
use Rattle.hip_ledger.specs.declared.ledger.Ledger.{Ledger}
use Rattle.hip_ledger.specs.declared.sought.Sought.{Sought}
use Rattle.hip_report.specs.declared.tracker.NotedRun.{NotedRun}
use Rattle.hip_report.specs.declared.tracker.Tracker.TheInside.{Inside}

-- The number of entries of the header, what is sought, the machine after the last noted step, if there is one, and
-- whether the tracker ran out of memory.
pub record Tracked : Type 0 where
  pub header : ℕ
  pub sought : Sought
  pub noted : Option Seen
  pub failed : Bool

-- Each step that the machine took was noted, where `noted` is the machine after the last noted step.
abbrev pub notes_all : Option Seen → Seen → Type 0
notes_all None m = m.taken ≡ 0
notes_all (Some s) m = s ≡ m

-- A tracker that noted every step of a machine so far, and has not run out of memory.
pub record HasNoted (t : Tracked) (m : Seen) : Type 0 where
  pub working : t.failed ≡ false
  pub all : notes_all t.noted m

-- A tracker that noted every step of a machine so far, or ran out of memory.
abbrev pub MayAdvance : Tracked → Seen → Type 0
MayAdvance t m = (t.failed ≡ true) ⊎ HasNoted t m

-- ---- the inside

-- The machine of a source after n steps; none where there is no source yet.
abbrev pub seen_in : Option NotedRun → ℕ → Option Seen
seen_in None n = None
seen_in (Some s) n = Some (record { program = s.checked.now; input = s.input.now; taken = n })

-- What contracts see of a tracker: the entries of its header, what is sought, the machine that it noted, and whether it
-- ran out of memory.
abbrev pub tracked_of : Inside → Tracked
tracked_of t = record {
  header = t.ledger.header;
  sought = t.ledger.sought;
  noted = seen_in t.source t.ledger.steps;
  failed = t.failed;
}

-- The ledger is those of the noted run, or of the first state of any run.
abbrev pub NotesOf : Option NotedRun → Ledger → Type 0
NotesOf None c = (P : Program) → (I : Input) → IsLedger P I 0 c
NotesOf (Some s) c = IsLedger s.checked.now s.input.now c.steps c × (longest s.checked.now < 2 ^ 64)

-- The source is the program and the input of the machine.
abbrev pub IsSource : Option NotedRun → Seen → Type 0
IsSource None m = ⊥
IsSource (Some s) m = (s.checked.now ≡ m.program) × (s.input.now ≡ m.input)

-- Unless the tracker ran out of memory, its notes are those of the noted run.
pub record IsTracking (t : Inside) : Type 0 where
  pub ledger : t.failed ≡ false → NotesOf t.source t.ledger

-- The ledger is those of all steps of the machine, or of the first state of any run if the machine has taken no step.
pub record MayNote (o : Option NotedRun) (c : Ledger) (m : Seen) : Type 0 where
  pub ledger : NotesOf o c
  pub all : notes_all (seen_in o c.steps) m

-- A machine was noted last, and the ledger is those of its run.
pub record HasLedger (o : Option NotedRun) (c : Ledger) (m : Seen) : Type 0 where
  pub ledger : NotesOf o c
  pub seen : seen_in o c.steps ≡ Some m
