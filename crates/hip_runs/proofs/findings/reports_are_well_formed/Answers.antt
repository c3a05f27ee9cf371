use Rattle.hip_runs.proofs.findings.reports_are_well_formed.Goals as goal
use Rattle.hip_runs.specs.Laws.Found.ReportLaws.{reports_formed}

pub returns : goal.returns
returns c = λ P I n r i. reports_formed P I n r i
