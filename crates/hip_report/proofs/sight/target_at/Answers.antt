use Rattle.std.proofs.Common.{ap, ◌∙◌}
use Rattle.hip_runs.specs.Seen.{state_of}
use Rattle.hip_report.specs.BeforeStep.{global_of}
use Rattle.hip_report.proofs.Stepping.{the_global}
use Rattle.hip_report.proofs.sight.target_at.Goals as goal

pub returns-clause-last : goal.returns-clause-last
returns-clause-last c =
    let m = c.args.machine.now in
    ap global_of c.object_at.ensures ∙ the_global m.program m.input.base c.args.addr (state_of m).frames

pub returns-clause-global : goal.returns-clause-global
returns-clause-global c =
    let m = c.args.machine.now in
    ap global_of c.object_at.ensures ∙ the_global m.program m.input.base c.args.addr (state_of m).frames
