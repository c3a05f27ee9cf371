use Rattle.std.proofs.Common.{◌≡◌}
use Rattle.hip_report.specs.TrackerView.{HasNoted}
use Rattle.hip_replay_tests.proofs.noted_steps.note_steps.Given as goal

abbrev pub invariant-steps : goal.invariant-steps
invariant-steps g l = record {
  noted : HasNoted l.tracker l.machine;
  header : l.tracker.header ≡ l.fn.tracker.header;
  input : l.machine.input ≡ l.fn.machine.input;
}
