-- The answers of a command that takes a program and the trace of one of its runs.
use Rattle.std.specs.Prelude.{ℕ, ◌⊎◌, false, List, IfSome}
use Rattle.hip_answers.specs.Answers.{Answer}
use Rattle.hip_answers.specs.Programs.{IsUnloaded, IsUnread}
use Rattle.hip_answers.specs.TraceFiles.{IsTraceFile, LacksTrace}
use Rattle.hip_io.specs.Cabinets.{CabinetState}
use Rattle.hip_tree.specs.declared.program.Program.{Program}
use Rattle.hip_program_files.specs.LoadedPrograms.{IsProgramOf}
use Rattle.hip_program_files.specs.Outside.{HasMet}
use Rattle.hip_runs.specs.Found.Marks.{IsFound}
use Rattle.hip_runs.specs.Validity.{IsValid}
use Rattle.hip_runs.specs.declared.input.Input.{Input}
use Rattle.hip_runs.specs.declared.report.Findings.{Findings}

-- One file has the program, and the other is the trace of its run on the input, which found this. The program, the
-- input and the findings determine what the answer has.
pub record HasRunOf (Texts : Program → Input → Findings → Answer → Type 0) (old new : CabinetState)
    (program_name trace_name : List ℕ) (answer : Answer) : Type 0 where
  pub program : Program
  pub loaded : IsProgramOf old.files program_name program
  pub input : Input
  pub traced : IfSome old.files (λ fs. IsTraceFile fs trace_name program input)
  pub valid : IsValid program input
  pub found : Findings
  pub found_is : IsFound program input found
  pub met : HasMet false false old new
  pub texts : Texts program input found answer

-- The answers of such a command: for no program, for no trace of a run of it, or for a run.
abbrev pub TraceAnswers : (Program → Input → Findings → Answer → Type 0) → CabinetState → CabinetState
    → List ℕ
    → List ℕ → Answer → Type 0
TraceAnswers Texts old new program_name trace_name answer =
    IsUnloaded old new program_name answer
    ⊎ (IsUnread old new program_name answer
    ⊎ (LacksTrace old new program_name trace_name answer ⊎ HasRunOf Texts old new program_name trace_name answer))
