-- What the definition of the answers of `many` implies.
use Rattle.std.specs.Prelude.{ℕ, ◌≡◌, ◌≢◌, false, true, List, Some}
use Rattle.hip_answers.specs.Answers.{Answer}
use Rattle.hip_answers.specs.Same.{AreOne}
use Rattle.hip_answers.specs.declared.status.Status.TheVariants.{Done, ReadFault}
use Rattle.hip_io.specs.Cabinets.{CabinetState}
use Rattle.hip_io.specs.declared.cabinet.NamedFile.{NamedFile}
use Rattle.hip_tree.specs.declared.program.Program.{Program}
use Rattle.hip_program_files.specs.LoadedPrograms.{IsProgramOf}
use Rattle.hip_program_files.specs.Outside.{HasMet}
use Rattle.hip_repair_commands.specs.Many.{ManyAnswers}
use Rattle.hip_repair_commands.specs.ManyRuns.{AreRunsOf, TracedRun}
use Rattle.hip_answers.specs.TraceFiles.{ShowsNoMisfit}

-- Where the files are known, two answers on them are the same, unless one of them is a read fault.
abbrev pub ManyAreOne : Type 0
ManyAreOne = (p : List ℕ) → (names : List (List ℕ))
    → AreOne (λ old new answer. ManyAnswers old new p names answer)

-- Where a file is current after a read fault, and is not the program's, the bytes that were taken from it show no
-- misfit.
abbrev pub ManyFaultsHideNone : Type 0
ManyFaultsHideNone =
    (files : List NamedFile) → (old new : CabinetState) → (p t : List ℕ) → (names : List (List ℕ))
    → (P : Program)
    → (a : Answer) → old.files ≡ Some files → IsProgramOf (Some files) p P → new.is_current ≡ true
    → new.name ≡ Some t
    → p ≢ t → a.status ≡ ReadFault → ManyAnswers old new p names a → ShowsNoMisfit files t P new.rest

-- Where one file has a program and the others are the traces of runs of it, and no file is missing and no read fails,
-- there is an answer by which the command is carried out.
abbrev pub ManyAreAnswered : Type 0
ManyAreAnswered =
    (files : List NamedFile) → (old new : CabinetState) → (p : List ℕ) → (names : List (List ℕ))
    → (P : Program)
    → (runs : List TracedRun) → old.files ≡ Some files → IsProgramOf (Some files) p P
    → AreRunsOf (Some files) P names runs → HasMet false false old new
    → (a : Answer) × (a.status ≡ Done) × ManyAnswers old new p names a
