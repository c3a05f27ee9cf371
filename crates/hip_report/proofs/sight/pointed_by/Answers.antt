use Rattle.std.proofs.Common.{◌∙◌, ap, sym}
use Rattle.hip_types.specs.Distinct.{met}
use Rattle.hip_runs.specs.Found.Marks.{same_mark}
use Rattle.hip_runs.specs.Seen.{state_of}
use Rattle.hip_runner.specs.Quiet.{next_event}
use Rattle.hip_ledger.specs.Sights.{marks_ahead}
use Rattle.hip_ledger.proofs.MarksAhead.{none_ahead}
use Rattle.hip_ledger.proofs.MarksAtHand.{unless_alike}
use Rattle.hip_report.proofs.sight.pointed_by.Goals as goal

pub returns-in-None-clause-marks : goal.returns-in-None-clause-marks
returns-in-None-clause-marks c =
    let m = c.args.machine.now in
    let before = c.args.ledger.now.marks.keys in
    unless_alike (next_event m) before c.nothing_pointed.result.marks (marks_ahead m.program m.input (state_of m))
    (ap (met same_mark before) (c.nothing_pointed.ensures.marks ∙ sym (none_ahead m.program m.input (state_of m) (sym c.requires.site ∙ c.in-None.is))))

pub pointed_from-requires-clause-site : goal.pointed_from-requires-clause-site
pointed_from-requires-clause-site c = sym c.requires.site ∙ c.in-Some.is
