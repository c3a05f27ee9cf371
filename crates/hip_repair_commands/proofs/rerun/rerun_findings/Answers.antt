use Rattle.hip_command_io.specs.StageLaws.{no_memory}
use Rattle.hip_repair_commands.proofs.rerun.rerun_findings.Goals as goal

pub returns-in_err-repair-clause-gives : goal.returns-in_err-repair-clause-gives
returns-in_err-repair-clause-gives g c = λ old new met. no_memory c.from_residual.result met c.from_residual.ensures.1
