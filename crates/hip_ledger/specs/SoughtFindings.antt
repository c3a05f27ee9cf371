-- What a whole run found of what was sought.
use Rattle.std.specs.Prelude.{◌≡◌, ℕ, true, List}
use Rattle.hip_tree.specs.declared.program.Program.{Program}
use Rattle.hip_runs.specs.Found.Marks.{IsFound}
use Rattle.hip_runs.specs.Found.Reports.{reports}
use Rattle.hip_runs.specs.Step.{has_ended, run}
use Rattle.hip_runs.specs.declared.input.Input.{Input}
use Rattle.hip_runs.specs.declared.report.Findings.{Findings}
use Rattle.hip_runs.specs.declared.report.Report.{Report}
use Rattle.hip_ledger.specs.declared.sought.Sought.{Sought}
use Rattle.hip_ledger.specs.declared.sought.Sought.TheVariants as soughts

-- The reports of a whole run: those of its steps when it ended.
pub record AreReports (P : Program) (I : Input) (found : List Report) : Type 0 where
  pub steps : ℕ
  pub ended : has_ended (run P I steps) ≡ true
  pub are : found ≡ reports P I steps

-- What is known of the findings of a whole run, by what was sought: their reports are the run's, and their marks too if
-- they were sought.
abbrev pub Finds : Sought → Program → Input → Findings → Type 0
Finds soughts.Reports P I found = AreReports P I found.reports
Finds soughts.Findings P I found = IsFound P I found
