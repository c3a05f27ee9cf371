use Rattle.hip_survival.specs.Laws.ReportedBytes.{reported_byte}
use Rattle.hip_survival.proofs.laws.reports_are_of_bytes_that_may_be_lost.Goals as goal

pub returns : goal.returns
returns c = λ P s I v n range r i. reported_byte P s I v n range r i
