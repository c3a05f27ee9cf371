-- `check` reports each checked byte that a crash may lose, and no other.
use Rattle.std.specs.Prelude.{ℕ, ◌+◌, ◌<◌, ◌≤◌, ◌≡◌, ◌⊎◌, Some}
use Rattle.hip_answers.specs.Answers.{Answer}
use Rattle.hip_repair_answers.specs.Answers.{HasChecked}
use Rattle.hip_runs.specs.Found.Reports.{Range, next_check}
use Rattle.hip_runs.specs.Step.{run}
use Rattle.hip_runs.specs.StoredParts.Parts.{In}
use Rattle.hip_runs.specs.declared.input.Input.{Input}
use Rattle.hip_runs.specs.declared.report.Findings.{Findings}
use Rattle.hip_runs.specs.declared.report.Report.{Report}
use Rattle.hip_survival.specs.Survival.{IsOfByte, IsReportedAt, Survives}
use Rattle.hip_tree.specs.declared.program.Program.{Program}

-- The check of a range after n steps reports the store that was the last over byte b, and the report is among those
-- found.
pub record IsReported (P : Program) (I : Input) (found : Findings) (n : ℕ) (range : Range) (b : ℕ) : Type 0 where
  pub at : IsReportedAt P I n range b
  pub there : In at.report found.reports

-- A report is of a byte of a range that is checked after n steps, and in some crash image there the byte is what the
-- parts before the report's store give.
pub record IsOfCheckedByte (P : Program) (I : Input) (r : Report) : Type 0 where
  pub steps : ℕ
  pub range : Range
  pub checked : next_check P I (run P I steps) ≡ Some range
  pub byte : IsOfByte P I (run P I steps) range r

-- The answer has a line for each report found. At each check of the run each byte of its range survives a crash, or is
-- reported; and each report is of a checked byte that a crash may lose.
pub record HasCheckedBytes (P : Program) (I : Input) (found : Findings) (answer : Answer) : Type 0 where
  pub texts : HasChecked P I found answer
  pub complete : (n : ℕ) (range : Range) → next_check P I (run P I n) ≡ Some range → (b : ℕ) → range.offset ≤ b
      → b < range.offset + range.size → Survives P I (run P I n) b ⊎ IsReported P I found n range b
  pub sound : (r : Report) → In r found.reports → IsOfCheckedByte P I r
