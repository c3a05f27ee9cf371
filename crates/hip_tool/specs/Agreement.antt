-- What two commands write about the same runs.
use Rattle.std.specs.Prelude.{◌≡◌, ◌↔◌, List, [], ◌∷◌}
use Rattle.hip_answers.specs.Answers.{Answer}
use Rattle.hip_answers.specs.Traces.{GivesTrace}
use Rattle.hip_repair_commands.specs.ManyRuns.{TracedRun}
use Rattle.hip_repair_answers.specs.Answers.{HasRerun}
use Rattle.hip_repair_answers.specs.Cured.{repaired_for}
use Rattle.hip_runs.specs.StoredParts.Parts.{In}
use Rattle.hip_runs.specs.declared.input.Input.{Input}
use Rattle.hip_runs.specs.declared.report.Findings.{Findings}
use Rattle.hip_tool.specs.Repair.{HasPlanned, HasPlannedMany}
use Rattle.hip_tree.specs.declared.program.Program.{Program}

-- One of the runs found this.
abbrev pub HasFound : List TracedRun → Findings → Type 0
HasFound runs found = (r : TracedRun) × In r runs × (r.found ≡ found)

-- The runs of both lists found the same, in any order and any number of times.
abbrev pub FoundTheSame : List TracedRun → List TracedRun → Type 0
FoundTheSame runs others = (found : Findings) → HasFound runs found ↔ HasFound others found

-- `many` with one trace writes the program that `repair` writes for it; the order and the repetition of traces do not
-- matter; and `rerun` writes the trace that `record` writes of the repaired program's run on the same input.
pub record CommandsAgree : Type 0 where
  pub one : (P : Program) (r : TracedRun) (many repair : Answer) → HasPlannedMany P (r ∷ []) many
      → HasPlanned P r.input r.found repair → many.out ≡ repair.out
  pub order : (P : Program) (runs others : List TracedRun) (first second : Answer) → FoundTheSame runs others
      → HasPlannedMany P runs first → HasPlannedMany P others second → first.out ≡ second.out
  pub rerun : (P : Program) (I : Input) (found : Findings) (first second : Answer) → HasRerun P I found first
      → GivesTrace (repaired_for P found) I second → first.out ≡ second.out
