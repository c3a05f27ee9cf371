-- The answers of `record`.
use Rattle.std.specs.Prelude.{ℕ, ℤ, false, List, ◌⊎◌}
use Rattle.hip_answers.specs.Answers.{Answer}
use Rattle.hip_answers.specs.Programs.{LacksProgram}
use Rattle.hip_answers.specs.Traces.{GivesTrace}
use Rattle.hip_runs.specs.FirstInput.{first_input}
use Rattle.hip_io.specs.Cabinets.{CabinetState}
use Rattle.hip_tree.specs.declared.program.Program.{Program}
use Rattle.hip_program_files.specs.LoadedPrograms.{IsProgramOf}
use Rattle.hip_program_files.specs.Outside.{HasMet}

-- The program of the file has run on the initialisers' bytes: out has the trace of the run, and notes how the run has
-- ended.
pub record HasRecordedFile (old new : CabinetState) (name : List ℕ) (base limit : ℕ) (numbers : List ℤ)
    (answer : Answer) : Type 0 where
  pub program : Program
  pub loaded : IsProgramOf old.files name program
  pub met : HasMet false false old new
  pub recorded : GivesTrace program (first_input program base limit numbers) answer

-- The answers of `record`: there is no program in the file, or its run at the order's base was recorded.
abbrev pub RecordAnswers : CabinetState → CabinetState → List ℕ → ℕ → ℕ → List ℤ → Answer → Type 0
RecordAnswers old new name base limit numbers answer =
    LacksProgram old new name answer ⊎ HasRecordedFile old new name base limit numbers answer
