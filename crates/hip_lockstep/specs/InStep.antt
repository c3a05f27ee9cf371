-- A trace and the run of its program, as far as they were compared.
use Rattle.std.specs.Prelude.{◌≡◌, ℕ, suc, true, [], ◌∷◌, ◌++◌, length, Option, Some, None, IfSome, Result, Ok, Err}
use Rattle.hip_io.specs.Cabinets.{CabinetState}
use Rattle.hip_tree.specs.declared.program.Program.{Program}
use Rattle.hip_run_traces.specs.Headers.{Gives, header}
use Rattle.hip_run_traces.specs.Misfits.{IsTraceOf}
use Rattle.hip_run_traces.specs.Traces.{trace}
use Rattle.hip_runs.specs.Step.{event, header_entries, run}
use Rattle.hip_runs.specs.Validity.{IsValid}
use Rattle.hip_runs.specs.declared.event.Ending.{Ending}
use Rattle.hip_runs.specs.declared.event.Event.{Event}
use Rattle.hip_runs.specs.declared.input.Input.{Input}
use Rattle.hip_trace.specs.Pieces.{spelled}
use Rattle.hip_trace.specs.Reads.{ReaderState, IsReading}
use Rattle.hip_trace.specs.declared.refusal.Progress.TheVariants.{Ended}
use Rattle.hip_lockstep.specs.ReadEntries.{HasReadEntries}
use Rattle.hip_lockstep.specs.Refusals.{Refuses}
use Rattle.hip_lockstep.specs.declared.refusal.ReplayRefusal.{ReplayRefusal}
use Rattle.hip_lockstep.specs.declared.steps.Lockstep.{Lockstep}

-- The run goes on after n steps. The entries of these steps and one more were read of the trace.
pub record IsInStep (P : Program) (I : Input) (start : CabinetState) (n : ℕ) (r : ReaderState) (s : CabinetState)
    (at : Lockstep) : Type 0 where
  pub valid : IsValid P I
  pub going : (run P I n).world.ending ≡ None
  pub read : HasReadEntries start r s (trace P I n ++ at.next ∷ [])
  pub counted : at.entries ≡ length (trace P I n)
  pub header : IfSome start.rest (λ bytes. header P (spelled true bytes) ≡ Gives (header_entries I) I)

-- The run has ended after n steps, and the file ends there too: it is the trace of the run.
pub record HasFollowed (P : Program) (I : Input) (start : CabinetState) (n : ℕ) (r : ReaderState) (s : CabinetState)
    (entries : ℕ) (ending : Ending) : Type 0 where
  pub reading : IsReading start s
  pub ended : (run P I n).world.ending ≡ Some ending
  pub counted : entries ≡ length (trace P I n)
  pub begun : r.count ≡ length (trace P I n)
  pub progress : r.progress ≡ Ended
  pub stated : IfSome start.rest (λ bytes. IsTraceOf P bytes I)
  pub left : IfSome s.rest (λ rest. rest ≡ [])

-- What holds after one more step, by the result.
abbrev pub FollowsStep : Program → Input → CabinetState → ℕ → ReaderState → CabinetState → Lockstep
    → Result (Option Ending) ReplayRefusal → Type 0
FollowsStep P I start n r s at (Ok None) = IsInStep P I start (suc n) r s at
FollowsStep P I start n r s at (Ok (Some ending)) = HasFollowed P I start (suc n) r s at.entries ending
FollowsStep P I start n r s at (Err refusal) = Refuses P r start s refusal

-- If the run and the trace were in step so far, and the next step has this event, they are in step after it, or the
-- file is the trace of the run, or there is a cause for the refusal.
abbrev pub Meets : Event → Lockstep → Lockstep → ReaderState → ReaderState → CabinetState → CabinetState
    → Result (Option Ending) ReplayRefusal → Type 0
Meets e at at' r r' s s' result =
    (P : Program) (I : Input) (start : CabinetState) (n : ℕ) → IsInStep P I start n r s at →
    event P I (run P I n) ≡ e → FollowsStep P I start n r' s' at' result
