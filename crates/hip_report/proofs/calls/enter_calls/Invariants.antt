use Rattle.std.proofs.Common.{◌-◌, length}
use Rattle.hip_report.specs.StandingCalls.{AreOutermost, standing}
use Rattle.hip_report.proofs.calls.enter_calls.Given as goal

abbrev pub invariant-calls : goal.invariant-calls
invariant-calls l = AreOutermost l.calls (standing l.machine)

abbrev pub decreases-calls : goal.decreases-calls
decreases-calls l = length (standing l.machine) - length l.calls
