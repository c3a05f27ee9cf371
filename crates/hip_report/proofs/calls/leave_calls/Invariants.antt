use Rattle.std.proofs.Common.{length}
use Rattle.hip_report.specs.StandingCalls.{StoodOutermost}
use Rattle.hip_report.proofs.calls.leave_calls.Given as goal

abbrev pub invariant-calls : goal.invariant-calls
invariant-calls l = StoodOutermost l.machine.program l.machine.input l.machine.taken l.calls

abbrev pub decreases-calls : goal.decreases-calls
decreases-calls l = length l.calls
