-- The answers of `run`.
use Rattle.std.specs.Prelude.{ℕ, ℤ, ◌≡◌, false, List, ◌⊎◌}
use Rattle.hip_answers.specs.Answers.{Answer}
use Rattle.hip_answers.specs.Endings.{ending_line, status_of_ending}
use Rattle.hip_answers.specs.Programs.{LacksProgram}
use Rattle.hip_runs.specs.FirstInput.{first_input}
use Rattle.hip_io.specs.Cabinets.{CabinetState}
use Rattle.hip_tree.specs.declared.program.Program.{Program}
use Rattle.hip_program_files.specs.LoadedPrograms.{IsProgramOf}
use Rattle.hip_program_files.specs.Outside.{HasMet}
use Rattle.hip_replay.specs.PrintedText.{IsPrinted}
use Rattle.hip_runs.specs.declared.event.Ending.{Ending}
use Rattle.hip_types.specs.declared.limits.TheConstants.{LOWEST_BASE}

-- The program of the file has run: out has all that it prints, and notes how the run has ended.
pub record HasRun (old new : CabinetState) (name : List ℕ) (limit : ℕ) (numbers : List ℤ) (answer : Answer) :
    Type 0 where
  pub program : Program
  pub loaded : IsProgramOf old.files name program
  pub met : HasMet false false old new
  pub ending : Ending
  pub printed : IsPrinted program (first_input program LOWEST_BASE limit numbers) answer.out ending
  pub status_is : answer.status ≡ status_of_ending ending
  pub notes_is : answer.notes ≡ ending_line ending

-- The answers of `run`: there is no program in the file, or it has run at the lowest base.
abbrev pub RunAnswers : CabinetState → CabinetState → List ℕ → ℕ → List ℤ → Answer → Type 0
RunAnswers old new name limit numbers answer =
    LacksProgram old new name answer ⊎ HasRun old new name limit numbers answer
