use Rattle.std.proofs.Common.{◌++◌, ◌∙◌, List, Some, ap}
use Rattle.hip_types.specs.Distinct.{met}
use Rattle.hip_runs.specs.Found.Marks.{same_mark}
use Rattle.hip_runs.specs.Seen.{state_of}
use Rattle.hip_runs.specs.declared.report.Mark.{Mark}
use Rattle.hip_ledger.specs.Sights.{mark_by}
use Rattle.hip_report.proofs.sight.pointed_at.Goals as goal

pub returns-clause-marks : goal.returns-clause-marks
returns-clause-marks c =
    let m = c.args.machine.now in
    c.in_ok-push_operand.ensures.marks
    ∙ ap (λ (ms : List Mark). met same_mark c.args.ledger.now.marks.keys (ms ++ mark_by m.program m.input (state_of m) c.args.site 0 (Some c.args.addr))) c.nothing_pointed-pointed.ensures.marks
