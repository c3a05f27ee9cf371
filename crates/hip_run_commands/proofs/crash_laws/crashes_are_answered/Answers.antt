use Rattle.hip_run_commands.proofs.Answered.{answered}
use Rattle.hip_run_commands.proofs.crash_laws.crashes_are_answered.Goals as goal

pub returns : goal.returns
returns c = answered c.fitting_picks_give_images.ensures
