use Rattle.hip_ledger.specs.Noted.{IsLedger}
use Rattle.hip_report.specs.BeforeStep.{TakesStep}
use Rattle.hip_report.specs.TrackerView.{HasLedger}
use Rattle.hip_report.proofs.Blank.{has_notes, if_ok, step_in_run}
use Rattle.hip_report.proofs.tracker.advance_in.Goals as goal

pub step_generally-requires : goal.step_generally-requires
step_generally-requires c = record { noted = c.begin.ensures.noted; short = c.begin.ensures.short }

pub returns-clause-noted : goal.returns-clause-noted
returns-clause-noted c =
    let m = c.args.machine.now in
    let next = c.step_generally.new.machine in
    let ledger = c.step_generally.new.ledger in
    if_ok (λ e. TakesStep m next e) (IsLedger next.program next.input next.taken ledger) (HasLedger c.begin.new.source ledger next) c.step_generally.result c.step_generally.ensures.ok c.step_generally.ensures.noted
    (λ e step noted. has_notes c.begin.new.source m next ledger c.begin.ensures.source c.begin.ensures.short (step_in_run m next step.step) noted)
