use Rattle.std.proofs.Common.{◌∙◌}
use Rattle.hip_command_io.specs.StageLaws.{no_memory}
use Rattle.hip_repair_commands.proofs.Answered.{many_runs}
use Rattle.hip_repair_commands.proofs.Cures.{cures}
use Rattle.hip_repair_commands.proofs.many.repair_many.Goals as goal

pub returns-in_err-made-clause-gives : goal.returns-in_err-made-clause-gives
returns-in_err-made-clause-gives g c = λ files names runs are many asked old new met.
    no_memory c.from_residual.result met c.from_residual.ensures.1

pub returns-clause-gives : goal.returns-clause-gives
returns-clause-gives g c = λ files names runs are many asked.
    let by = rw (c.as_slice.ensures, asked.plans_are) at c.in_ok-made.ensures in
    c.put_repair.ensures.gives runs (many ∙ many_runs files c.args.checked names runs are) asked.reports_are by
    (cures c.plans_cure.ensures files c.args.checked names runs c.in_ok-made.made.repair.plan c.program-program.ensures.sound
    (c.direct_stores_stay_outside.ensures c.args.checked c.program-program.ensures.sound) are by.contains)
