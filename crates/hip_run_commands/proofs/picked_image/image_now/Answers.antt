use Rattle.hip_run_commands.proofs.Crashes.{unpicked}
use Rattle.hip_runs.specs.Seen.{state_of}
use Rattle.hip_run_commands.proofs.picked_image.image_now.Goals as goal

pub returns-in-Ok : goal.returns-in-Ok
returns-in-Ok c = record {
  state = state_of c.args.log.now;
  at = c.requires;
  fit = c.in-Ok.ensures.fit;
  content_is = c.in-Ok.ensures.image;
  image = c.in-Ok.ensures.is;
  valid = c.in-Ok.ensures.valid;
}

pub returns-in-Err : goal.returns-in-Err
returns-in-Err c =
    rw c.failure_of_picks.ensures (unpicked c.args.log.now.program c.args.log.now.input c.args.entry c.args.picks.now
    (state_of c.args.log.now) c.in-Err.refusal c.requires c.in-Err.ensures.refused)
