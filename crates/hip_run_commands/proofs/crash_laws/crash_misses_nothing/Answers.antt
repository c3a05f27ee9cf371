use Rattle.hip_run_commands.proofs.EveryImage.{picks_give_every_image, runs_every_image}
use Rattle.hip_run_commands.proofs.crash_laws.crash_misses_nothing.Goals as goal

pub returns : goal.returns
returns c = record {
  picks = picks_give_every_image c.crashes_come_at_entries.ensures;
  runs = runs_every_image c.crashes_come_at_entries.ensures;
}
