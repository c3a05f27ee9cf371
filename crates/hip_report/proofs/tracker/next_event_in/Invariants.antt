use Rattle.std.proofs.Common.{◌≡◌, ◌-◌, ◌^◌}
use Rattle.hip_runner.specs.Quiet.{GoesQuietly}
use Rattle.hip_ledger.specs.Noted.{IsLedger}
use Rattle.hip_report.proofs.tracker.next_event_in.Given as goal

abbrev pub invariant-steps : goal.invariant-steps
invariant-steps l = record {
  quiet : GoesQuietly l.initial.machine l.machine;
  noted : IsLedger l.machine.program l.machine.input l.machine.taken l.ledger;
  header : l.ledger.header ≡ l.initial.ledger.header;
  sought : l.ledger.sought ≡ l.initial.ledger.sought;
}

abbrev pub decreases-steps : goal.decreases-steps
decreases-steps l = 2 ^ 128 - l.ledger.steps
