-- The recorded run of a program that was loaded, as a result of `record`.
use Rattle.std.proofs.Common.{◌≡◌, ℕ, ℤ, true, false, List, subst, inr}
use Rattle.std.specs.Prelude.{Result}
use Rattle.hip_answers.specs.Traces.{GivesTrace}
use Rattle.hip_answers.specs.declared.status.Status.{Status}
use Rattle.hip_command_io.specs.ResultLaws.{given_by}
use Rattle.hip_command_io.specs.Results.{GivesOnRun, GivesResult}
use Rattle.hip_command_io.specs.declared.counts.Counts.{Counts}
use Rattle.hip_runs.specs.FirstInput.{first_input}
use Rattle.hip_run_commands.specs.Record.{RecordAnswers}
use Rattle.hip_io.specs.Cabinets.{CabinetState}
use Rattle.hip_io.specs.Sinks.{SinkState}
use Rattle.hip_tree.specs.declared.program.Program.{Program}
use Rattle.hip_program_files.specs.LoadedPrograms.{IsProgramOf}
use Rattle.hip_program_files.specs.Outside.{HasMet}
use Rattle.hip_runs.specs.declared.input.Input.{Input}

pub of_record : {old new : CabinetState} {name : List ℕ} {base limit : ℕ} {numbers : List ℤ} {out out_new : SinkState}
    (P : Program) (I : Input) (given : Result Counts Status) → HasMet false false old new → IsProgramOf old.files name P
    → I ≡ first_input P base limit numbers → GivesOnRun (GivesTrace P I) true out out_new given
    → GivesResult (RecordAnswers old new name base limit numbers) true old new out out_new given
of_record {old} {new} P I given met loaded input h =
    given_by given
    (λ a gives. inr (record {
      program = P;
      loaded = loaded;
      met = met;
      recorded = subst (λ (i : Input). GivesTrace P i a) input gives;
    }))
    (h old new met)
