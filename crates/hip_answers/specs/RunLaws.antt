-- What these definitions imply: one answer, an answer for each run, and faults that hide no misfit.
pub mod OneAnswer
use Rattle.std.specs.Prelude.{ℕ, ◌≡◌, ◌≢◌, true, false, List, Some}
use Rattle.hip_answers.specs.Answers.{Answer}
use Rattle.hip_answers.specs.Same.{AreOne}
use Rattle.hip_answers.specs.TraceFiles.{IsTraceFile, ShowsNoMisfit}
use Rattle.hip_answers.specs.declared.status.Status.TheVariants as statuses
use Rattle.hip_io.specs.Cabinets.{CabinetState}
use Rattle.hip_io.specs.declared.cabinet.NamedFile.{NamedFile}
use Rattle.hip_tree.specs.declared.program.Program.{Program}
use Rattle.hip_program_files.specs.LoadedPrograms.{IsProgramOf}
use Rattle.hip_program_files.specs.Outside.{HasMet}
use Rattle.hip_answers.specs.RunAnswers.{TraceAnswers}
use Rattle.hip_runs.specs.declared.input.Input.{Input}
use Rattle.hip_runs.specs.declared.report.Findings.{Findings}

-- Where the files are known, two answers on them are the same, unless one of them is a read fault.
abbrev pub GivesOne : (Program → Input → Findings → Answer → Type 0) → Type 0
GivesOne Texts = (p t : List ℕ) → AreOne (λ old new answer. TraceAnswers Texts old new p t answer)

-- Where one file has a program and the other is the trace of a run of it, and no file is missing and no read fails,
-- there is an answer by which the command is carried out.
abbrev pub AnswersRuns : (Program → Input → Findings → Answer → Type 0) → Type 0
AnswersRuns Texts =
    (files : List NamedFile) → (old new : CabinetState) → (p t : List ℕ) → (P : Program) → (I : Input)
    → old.files ≡ Some files → IsProgramOf (Some files) p P → IsTraceFile files t P I
    → HasMet false false old new
    → (a : Answer) × (a.status ≡ statuses.Done) × TraceAnswers Texts old new p t a

-- Where the trace's file is current after a read fault, and is not the program's, the bytes that were taken from it
-- show no misfit.
abbrev pub FaultsHideNone : (Program → Input → Findings → Answer → Type 0) → Type 0
FaultsHideNone Texts =
    (files : List NamedFile) → (old new : CabinetState) → (p t : List ℕ) → (P : Program) → (a : Answer)
    → old.files ≡ Some files → IsProgramOf (Some files) p P → new.is_current ≡ true → new.name ≡ Some t
    → p ≢ t
    → a.status ≡ statuses.ReadFault → TraceAnswers Texts old new p t a → ShowsNoMisfit files t P new.rest
