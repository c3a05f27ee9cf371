use Rattle.hip_run_commands.proofs.Crashes.{out_of_memory}
use Rattle.hip_run_commands.proofs.picked_image.image_at.Goals as goal

pub returns-in_err-machine : goal.returns-in_err-machine
returns-in_err-machine c = out_of_memory _ _ _ _ c.from_residual.result c.from_residual.ensures.1

pub returns-in_err-log : goal.returns-in_err-log
returns-in_err-log c = out_of_memory _ _ _ _ c.from_residual-in_err-log.result c.from_residual-in_err-log.ensures.1
