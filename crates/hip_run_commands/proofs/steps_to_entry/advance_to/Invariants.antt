use Rattle.std.proofs.Common.{◌≡◌}
use Rattle.hip_run_commands.proofs.Advances.{IsBefore, steps_ahead}
use Rattle.hip_run_commands.proofs.steps_to_entry.advance_to.Given as goal

abbrev pub invariant-steps : goal.invariant-steps
invariant-steps l = record {
  same : l.log ≡ l.machine;
  before : IsBefore l.fn.log.program l.fn.log.input l.entry l.log;
}

abbrev pub decreases-steps : goal.decreases-steps
decreases-steps l = steps_ahead l.fn.log.program l.fn.log.input l.log.taken
