-- What a command answers: its counts or a refusal. What is written of that to the notes is written at the end of the
-- call, in one place.
use Rattle.std.specs.Prelude.{ℕ, ◌≡◌, Bool, false, List, [], length, Result, Ok, Err}
use Rattle.hip_answers.specs.Answers.{Answer, Finishes, HasAnswered, PutsLine, sinks}
use Rattle.hip_answers.specs.Endings.{ending_line, status_of_ending}
use Rattle.hip_answers.specs.declared.status.Status.{Status}
use Rattle.hip_answers.specs.declared.status.Status.TheVariants as statuses
use Rattle.hip_command_io.specs.Notes.{many_notes, thin_counts}
use Rattle.hip_command_io.specs.declared.counts.Counts.{Counts}
use Rattle.hip_command_io.specs.declared.counts.Counts.TheVariants.{Nothing, Ending, Reports, Repair, Thin, Rerun, Many}
use Rattle.hip_io.specs.Cabinets.{CabinetState}
use Rattle.hip_io.specs.Sinks.{SinkState, Writes}
use Rattle.hip_io.specs.declared.sink.Put.{Put}
use Rattle.hip_io.specs.declared.sink.Put.TheVariants as puts
use Rattle.hip_program_files.specs.Outside.{HasMet}
use Rattle.hip_replay.specs.declared.refusal.RecordRefusal.{RecordRefusal}
use Rattle.hip_replay.specs.declared.refusal.RecordRefusal.TheVariants as records
use Rattle.hip_report_lines.specs.Counts.{check_counts, repair_counts, rerun_counts}

-- ---- counts

-- What a command that was carried out writes to the notes.
abbrev pub notes_of : Counts → List ℕ
notes_of Nothing = []
notes_of (Ending ending) = ending_line ending
notes_of (Reports reports) = check_counts reports
notes_of (Repair reports plan clones) = repair_counts reports plan clones
notes_of (Thin reports plan clones spared) = thin_counts reports plan clones spared
notes_of (Rerun before after) = rerun_counts before after
notes_of (Many counts) =
    many_notes counts.checked counts.traces counts.reports counts.made.repair.plan
    (length counts.made.repair.repaired.clones) counts.made.reasons

-- The status of a command that was carried out: how its run has ended, and else Done.
abbrev pub status_of_counts : Counts → Status
status_of_counts (Ending ending) = status_of_ending ending
status_of_counts _ = statuses.Done

-- ---- results

-- The status of a call whose notes can be written.
abbrev pub status_of : Result Counts Status → Status
status_of (Ok counts) = status_of_counts counts
status_of (Err status) = status

-- The status of a text that was not written whole while a run took its steps.
abbrev pub status_of_recording : RecordRefusal → Status
status_of_recording records.WriteFault = statuses.WriteFault
status_of_recording records.NoMemory = statuses.NoMemory

-- The counts were tried on the notes: the call ends with their status, or with a write fault and its line.
pub record WritesCounts (counts : Counts) (old new : SinkState) (status : Status) : Type 0 where
  pub tried : Put
  pub mid : SinkState
  pub text : Writes puts.Done tried old mid (notes_of counts)
  pub ends : Finishes tried (status_of_counts counts) mid new status

-- A refusal has its line on the notes, as far as that could be written.
pub record WritesRefusal (refused : Status) (old new : SinkState) (status : Status) : Type 0 where
  pub is : status ≡ refused
  pub line : PutsLine refused old new

-- How a call ends whose command gives this result.
abbrev pub WritesResult : Result Counts Status → SinkState → SinkState → Status → Type 0
WritesResult (Ok counts) old new status = WritesCounts counts old new status
WritesResult (Err refused) old new status = WritesRefusal refused old new status

-- What a command does that gives this result: once the result is on the notes, however that goes, the call has answered
-- by the table. `begins` says whether the command writes its text for out before the whole text is made.
pub record GivesResult (table : Answer → Type 0) (begins : Bool) (old new : CabinetState) (out out_new : SinkState)
    (given : Result Counts Status) : Type 0 where
  pub answered : (notes notes_new : SinkState) (status : Status) → WritesResult given notes notes_new status
      → HasAnswered table begins old new (sinks out out_new notes notes_new) status

-- What a command gives on a run, once it has read its files.
abbrev pub GivesOnRun : (Answer → Type 0) → Bool → SinkState → SinkState → Result Counts Status → Type 0
GivesOnRun table begins out out_new given =
    (old new : CabinetState) → HasMet false false old new → GivesResult table begins old new out out_new given
