use Rattle.std.proofs.Common.{length, ap, ◌∙◌}
use Rattle.hip_demo.proofs.Showing.{shows}
use Rattle.hip_demo.proofs.shown.mend.Goals as goal

pub returns : goal.returns
returns c =
    let P = c.args.checked.now in
    let I = c.args.replayed.input in
    shows P I c.args.replayed c.in_ok-repair.repair c.in_ok-rerun.rerun c.len-reports.result c.len-clones.result c.len-after.result
    (c.repairs_cure.ensures P I c.args.replayed.findings c.program-program.ensures.sound c.requires.valid c.requires.found.found)
    c.requires.found c.in_ok-repair.ensures c.in_ok-rerun.ensures (c.len-reports.ensures ∙ ap length c.reports.ensures) c.len-clones.ensures (c.len-after.ensures ∙ ap length c.reports-2.ensures)
