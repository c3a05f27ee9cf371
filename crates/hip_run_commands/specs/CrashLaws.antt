-- What the definition of the answers of `crash` implies.
use Rattle.std.specs.Prelude.{ℕ, ◌≡◌, ◌≢◌, false, List, Some}
use Rattle.hip_answers.specs.Answers.{Answer}
use Rattle.hip_answers.specs.declared.status.Status.TheVariants.{ReadFault}
use Rattle.hip_answers.specs.Traces.{GivesTrace}
use Rattle.hip_run_commands.specs.Crash.{CrashAnswers, CrashTexts}
use Rattle.hip_run_commands.specs.ImagesAtEntries.{HasImage, begun_with}
use Rattle.hip_io.specs.Cabinets.{CabinetState}
use Rattle.hip_io.specs.declared.cabinet.NamedFile.{NamedFile}
use Rattle.hip_tree.specs.declared.program.Program.{Program}
use Rattle.hip_program_files.specs.LoadedPrograms.{IsProgramOf}
use Rattle.hip_program_files.specs.Outside.{HasMet}
use Rattle.hip_types.specs.declared.pick.Pick.{Pick}
use Rattle.hip_answers.specs.RunLaws.{FaultsHideNone, GivesOne}
use Rattle.hip_answers.specs.TraceFiles.{IsTraceFile}
use Rattle.hip_runs.specs.Crash.{IsCrashImage}
use Rattle.hip_runs.specs.Step.{run}
use Rattle.hip_runs.specs.Validity.{IsValid}
use Rattle.hip_runs.specs.declared.input.Input.{Input}
use Rattle.hip_runs.specs.declared.report.Findings.{Findings}

-- Where the files are known, two answers on them are the same, unless one of them is a read fault.
abbrev pub CrashesAreOne : Type 0
CrashesAreOne = (entry : ℕ) → (picks : List Pick) → GivesOne (CrashTexts entry picks)

-- Where the trace's file is current after a read fault, and is not the program's, the bytes that were taken from it
-- show no misfit.
abbrev pub CrashFaultsHideNone : Type 0
CrashFaultsHideNone = (entry : ℕ) → (picks : List Pick) → FaultsHideNone (CrashTexts entry picks)

-- Where one file has a program and the other is the trace of a run of it, and no file is missing and no read fails,
-- there is an answer, which is no read fault.
abbrev pub CrashesAreAnswered : Type 0
CrashesAreAnswered =
    (files : List NamedFile) → (old new : CabinetState) → (p t : List ℕ) → (P : Program) → (I : Input)
    → (entry : ℕ) → (picks : List Pick) → old.files ≡ Some files → IsProgramOf (Some files) p P
    → IsTraceFile files t P I → HasMet false false old new
    → (a : Answer) × (a.status ≢ ReadFault) × CrashAnswers old new p t entry picks a

-- Each content that a crash may leave in some state of a run is the image that some picks give at an entry of the run's
-- trace: at the entry that came last before that state.
abbrev pub PicksGiveEveryImage : Type 0
PicksGiveEveryImage =
    (P : Program) → (I : Input) → IsValid P I → (n : ℕ) → (content : List ℕ) → IsCrashImage I (run P I n) content
    → (picks : List Pick) × HasImage P I (run P I n).counts.entries picks content

-- For each content that a crash may leave in some state of a run there are an entry and picks for which each answer of
-- `crash` on that run is the trace of the run that begins with this content.
abbrev pub CrashRunsEveryImage : Type 0
CrashRunsEveryImage =
    (P : Program) → (I : Input) → IsValid P I → (n : ℕ) → (content : List ℕ) → IsCrashImage I (run P I n) content
    → (entry : ℕ) × (picks : List Pick) × ((found : Findings) → (answer : Answer)
    → CrashTexts entry picks P I found answer → GivesTrace P (begun_with I content) answer)
