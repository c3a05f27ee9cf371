use Rattle.hip_runs.specs.Seen.{state_of}
use Rattle.hip_runner.specs.Quiet.{next_event}
use Rattle.hip_ledger.specs.Sights.{marks_ahead}
use Rattle.hip_ledger.proofs.MarksAtHand.{unless_alike}
use Rattle.hip_ledger.proofs.Searches.{if_ok}
use Rattle.hip_report.proofs.Sighted.{store_marked}
use Rattle.hip_report.proofs.sight.pointed_from.Goals as goal

pub returns-in-Some-clause-marks : goal.returns-in-Some-clause-marks
returns-in-Some-clause-marks c =
    if_ok _ _ c.pointed_at.result c.pointed_at.ensures.marks (λ pointed e.
    store_marked c.args.machine.now c.args.site c.in-Some.store.addr c.args.ledger.now.marks.keys pointed.marks c.requires.site c.in-Some.ensures.points e)

pub returns-in-None-clause-marks : goal.returns-in-None-clause-marks
returns-in-None-clause-marks c =
    let m = c.args.machine.now in
    if_ok _ _ c.all_pointed.result c.all_pointed.ensures.marks (λ pointed e.
    unless_alike (next_event m) c.args.ledger.now.marks.keys pointed.marks (marks_ahead m.program m.input (state_of m)) e)
