use Rattle.std.proofs.Common.{◌≡◌, sym, ◌∙◌}
use Rattle.hip_ledger.specs.declared.sought.Sought.TheVariants.{Findings, Reports}
use Rattle.hip_report.proofs.Blank.{under_ok}
use Rattle.hip_report.proofs.sight.pointed_if_sought.Goals as goal

pub returns-in-Reports-clause-marks : goal.returns-in-Reports-clause-marks
returns-in-Reports-clause-marks c = λ k. absurd (let z : Reports ≡ Findings = sym c.in-Reports.is ∙ k in let w : ⊥ = cc in w)

pub returns-in-Findings-clause-marks : goal.returns-in-Findings-clause-marks
returns-in-Findings-clause-marks c = under_ok _ _ c.pointed_by.result (λ pointed h k. h) c.pointed_by.ensures.marks
