use Rattle.hip_lockstep.proofs.Going.{steps_ahead}
use Rattle.hip_replay.proofs.Outputs.{IsPrinting}
use Rattle.hip_replay.proofs.print.print_steps.Given as goal

abbrev pub invariant-steps : goal.invariant-steps
invariant-steps g l = IsPrinting l.fn.runner.program l.fn.runner.input l.runner (g.S.Sink.state l.initial.out) (g.S.Sink.state l.out)

abbrev pub decreases-steps : goal.decreases-steps
decreases-steps g l = steps_ahead l.fn.runner.program l.fn.runner.input l.runner.taken
