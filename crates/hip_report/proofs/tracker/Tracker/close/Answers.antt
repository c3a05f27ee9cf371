use Rattle.std.proofs.Common.{sym, ap, ◌∙◌, subst}
use Rattle.hip_runs.specs.declared.report.Findings.{Findings}
use Rattle.hip_ledger.specs.SoughtFindings.{Finds}
use Rattle.hip_ledger.specs.declared.sought.Sought.{Sought}
use Rattle.hip_report.specs.TrackerView.{Tracked}
use Rattle.hip_report.proofs.Found.{finds}
use Rattle.hip_report.proofs.tracker.Tracker.close.Goals as goal

pub returns : goal.returns
returns c =
    let t = c.self.inside in
    let m = c.args.machine.now in
    let h = c.begin.ensures.noted in
    let marks = c.in_ok-marks.marks in
    subst (λ (w : Sought). Finds w m.program m.input c.new.result) (ap (λ (x : Tracked). x.sought) c.self.view_is)
    (subst (λ (f : Findings). Finds t.ledger.sought m.program m.input f) (sym c.new.ensures)
    (finds t.ledger.sought m.program m.input m.taken t.ledger.reports marks.pointed marks.hit c.requires.ended
    (h.reports (ap (λ (x : Tracked). x.header) c.self.view_is ∙ c.requires.header))
    (λ k. c.in_ok-marks.ensures.pointed ∙ h.marks k) (λ k. c.in_ok-marks.ensures.hit ∙ h.hit k)))
