use Rattle.std.proofs.Common.{List, subst, sym}
use Rattle.hip_runs.specs.State.{Level, levels_of}
use Rattle.hip_runs.specs.Step.{run}
use Rattle.hip_report.specs.StandingCalls.{AreOutermost}
use Rattle.hip_report.proofs.Outermost.{one_less}
use Rattle.hip_report.proofs.calls.leave_calls.Goals as goal

pub calls-preserved : goal.calls-preserved
calls-preserved c =
    let m = c.args.machine.now in
    let stood = c.calls.invariant in
    let all = levels_of (run m.program m.input stood.steps).frames in
    record {
      steps = stood.steps;
      few = stood.few;
      outer = subst (λ (ls : List Level). AreOutermost ls all) (sym c.in_ok-leave.ensures)
          (one_less c.calls.calls all (c.are_outermost.ensures.some c.calls-test.true) stood.outer);
    }
