-- The answers of `crash`.
use Rattle.std.specs.Prelude.{ℕ, ◌≡◌, ◌⊎◌, List}
use Rattle.hip_answers.specs.Answers.{Answer, refusal}
use Rattle.hip_run_commands.specs.ImagesAtEntries.{HasImage, HasNoImage, begun_with, status_of_refusal}
use Rattle.hip_answers.specs.Traces.{GivesTrace}
use Rattle.hip_run_commands.specs.declared.image_refusal.ImageRefusal.{ImageRefusal}
use Rattle.hip_io.specs.Cabinets.{CabinetState}
use Rattle.hip_tree.specs.declared.program.Program.{Program}
use Rattle.hip_types.specs.declared.pick.Pick.{Pick}
use Rattle.hip_answers.specs.RunAnswers.{TraceAnswers}
use Rattle.hip_runs.specs.declared.input.Input.{Input}
use Rattle.hip_runs.specs.declared.report.Findings.{Findings}

-- The trace has no entry of that number, or a pick fails there; the answer says why.
pub record IsUnpicked (P : Program) (I : Input) (entry : ℕ) (picks : List Pick) (answer : Answer) : Type 0 where
  pub why : ImageRefusal
  pub cause : HasNoImage P I entry picks why
  pub is : answer ≡ refusal (status_of_refusal why)

-- The picks give a crash image of the run at the entry. Out has the trace of the program's run on the input that begins
-- with this image and is otherwise the same, and notes how that run has ended.
pub record HasCrashed (P : Program) (I : Input) (entry : ℕ) (picks : List Pick) (answer : Answer) : Type 0 where
  pub content : List ℕ
  pub image : HasImage P I entry picks content
  pub recorded : GivesTrace P (begun_with I content) answer

-- What the answer has, by the program and the input of the traced run; the findings of that run play no part.
abbrev pub CrashTexts : ℕ → List Pick → Program → Input → Findings → Answer → Type 0
CrashTexts entry picks P I found answer = IsUnpicked P I entry picks answer ⊎ HasCrashed P I entry picks answer

-- The answers of `crash`: no program, no trace of a run of it, no image at the entry, or the trace of the run from it.
abbrev pub CrashAnswers : CabinetState → CabinetState → List ℕ → List ℕ → ℕ → List Pick → Answer
    → Type 0
CrashAnswers old new program_name trace_name entry picks answer =
    TraceAnswers (CrashTexts entry picks) old new program_name trace_name answer
