-- What replaying a trace answers.
use Rattle.std.specs.Prelude.{◌≡◌, ℕ, List, [], length, Some, IfSome, Result, Ok, Err}
use Rattle.hip_io.specs.Cabinets.{CabinetState}
use Rattle.hip_tree.specs.declared.program.Program.{Program}
use Rattle.hip_lockstep.specs.InStep.{HasFollowed}
use Rattle.hip_lockstep.specs.Refusals.{Refuses}
use Rattle.hip_lockstep.specs.declared.refusal.ReplayRefusal.{ReplayRefusal}
use Rattle.hip_run_traces.specs.Misfits.{IsTraceOf}
use Rattle.hip_run_traces.specs.Traces.{IsTrace}
use Rattle.hip_ledger.specs.SoughtFindings.{Finds}
use Rattle.hip_ledger.specs.declared.sought.Sought.{Sought}
use Rattle.hip_runs.specs.Step.{run}
use Rattle.hip_runs.specs.Validity.{IsValid}
use Rattle.hip_trace.specs.Reads.{ReaderState, IsReading}
use Rattle.hip_trace.specs.declared.entry.Entry.{Entry}
use Rattle.hip_trace.specs.declared.refusal.Progress.TheVariants as progresses
use Rattle.hip_runs.specs.declared.input.Input.{Input}
use Rattle.hip_lockstep.specs.declared.ended.Ended.{Ended}
use Rattle.hip_replay.specs.declared.compared.Followed.{Followed}
use Rattle.hip_replay.specs.declared.compared.Replayed.{Replayed}

-- The file, read to its end, is the trace of the run on the input that its header gives, and no read failed. As many
-- entries were read as the trace has. The findings are the run's, as far as they were sought.
pub record HasReplayed (P : Program) (sought : Sought) (r : ReaderState) (old new : CabinetState)
    (replayed : Replayed) : Type 0 where
  pub reading : IsReading old new
  pub valid : IsValid P replayed.input
  pub found : Finds sought P replayed.input replayed.findings
  pub trace : List Entry
  pub is_trace : IsTrace P replayed.input trace
  pub ended : (run P replayed.input is_trace.steps).world.ending ≡ Some replayed.ending
  pub entries : replayed.entries ≡ length trace
  pub stated : IfSome old.rest (λ bytes. IsTraceOf P bytes replayed.input)
  pub left : IfSome new.rest (λ rest. rest ≡ [])
  pub count : r.count ≡ length trace
  pub progress : r.progress ≡ progresses.Ended

-- What is known of a run whose steps were compared with the trace, from a state of the cabinet on.
abbrev pub FollowsSteps : Program → Input → CabinetState → ReaderState → CabinetState
    → Result Ended ReplayRefusal
    → Type 0
FollowsSteps P I start r s (Ok done) = (n : ℕ) × HasFollowed P I start n r s done.entries done.ending
FollowsSteps P I start r s (Err refusal) = Refuses P r start s refusal

-- The run was followed to its end, with these findings of what was sought.
pub record HasFound (P : Program) (I : Input) (sought : Sought) (start : CabinetState) (r : ReaderState)
    (s : CabinetState) (followed : Followed) : Type 0 where
  pub steps : ℕ
  pub over : HasFollowed P I start steps r s followed.entries followed.ending
  pub found : Finds sought P I followed.findings

-- What is known of a run whose steps were compared with the trace and noted, from a state of the cabinet on; at the end
-- of the run also what it found.
abbrev pub Follows : Program → Input → Sought → CabinetState → ReaderState → CabinetState
    → Result Followed ReplayRefusal
    → Type 0
Follows P I sought start r s (Ok followed) = HasFound P I sought start r s followed
Follows P I sought start r s (Err refusal) = Refuses P r start s refusal

-- What a replay of the rest of the current file does, by its answer.
abbrev pub Replays : Program → Sought → ReaderState → CabinetState → CabinetState → Result Replayed ReplayRefusal
    → Type 0
Replays P sought r old new (Ok replayed) = HasReplayed P sought r old new replayed
Replays P sought r old new (Err refusal) = Refuses P r old new refusal
