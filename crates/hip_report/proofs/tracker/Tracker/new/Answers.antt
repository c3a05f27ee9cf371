use Rattle.std.proofs.Common.{◌≤◌, ◌^◌, ◌∙◌, subst, sym}
use Rattle.hip_ledger.proofs.Blank.{blank}
use Rattle.hip_report.proofs.tracker.Tracker.new.Goals as goal

pub invariant_of-result : goal.invariant_of-result
invariant_of-result c =
    let e = c.in_ok-new.ensures in
    let le = subst (λ k. k ≤ 2 ^ 64) (sym e.header) c.requires in
    record {
      ledger = λ w P I. blank c.in_ok-new.field-0 le e.steps (e.entries ∙ sym e.header) e.fence e.calls e.stores e.lines
          e.marks e.recent e.hit e.flags e.reports P I;
    }
