-- `crash` can run the program from each content that a crash may leave.
use Rattle.std.specs.Prelude.{ℕ, ◌≡◌, List, Some}
use Rattle.hip_answers.specs.Answers.{Sinks}
use Rattle.hip_answers.specs.TraceFiles.{IsTraceFile}
use Rattle.hip_answers.specs.Traces.{GivesTrace}
use Rattle.hip_answers.specs.declared.status.Status.{Status}
use Rattle.hip_run_commands.specs.ImagesAtEntries.{begun_with}
use Rattle.hip_io.specs.Cabinets.{CabinetState}
use Rattle.hip_io.specs.declared.cabinet.NamedFile.{NamedFile}
use Rattle.hip_types.specs.declared.pick.Pick.{Pick}
use Rattle.hip_program_files.specs.LoadedPrograms.{IsProgramOf}
use Rattle.hip_runs.specs.Crash.{IsCrashImage}
use Rattle.hip_runs.specs.Step.{run}
use Rattle.hip_runs.specs.declared.input.Input.{Input}
use Rattle.hip_tool.specs.Headline.{Gives, CallEnds}
use Rattle.hip_tree.specs.declared.program.Program.{Program}
use Rattle.hip_words.specs.declared.order.Order.TheVariants.{Crash}

-- For each content that a crash may leave in some state of the traced run there are an entry and picks for which, if
-- nothing fails, `crash` ends out of memory, or writes the trace of the run that begins with this content.
abbrev pub CrashesAreExhaustive : Type 0
CrashesAreExhaustive =
    (files : List NamedFile) (program trace : List ℕ) (P : Program) (I : Input) → IsProgramOf (Some files) program P
    → IsTraceFile files trace P I → (n : ℕ) (content : List ℕ) → IsCrashImage I (run P I n) content →
    (entry : ℕ) × (picks : List Pick) × ((old new : CabinetState) (s : Sinks) (status : Status) → old.files ≡ Some files
    → CallEnds (Crash program trace entry picks) old new s status
    → Gives (GivesTrace P (begun_with I content)) s status)
