use Rattle.std.proofs.Common.{◌≡◌}
use Rattle.hip_run_tests.proofs.images.log_at.Given as goal

abbrev pub invariant-steps : goal.invariant-steps
invariant-steps g l = record { same : l.log ≡ l.machine; input : l.log.input ≡ l.input }
