use Rattle.std.proofs.Common.{◌≡◌, length}
use Rattle.hip_io.specs.Sinks.{AppendsAll, SinkState}
use Rattle.hip_run_traces.specs.Traces.{header_of, trace}
use Rattle.hip_trace.specs.Texts.{lines_of}
use Rattle.hip_lockstep.proofs.Going.{IsGoing, steps_ahead}
use Rattle.hip_replay.proofs.trace.put_entries.Given as goal

abbrev pub invariant-steps : goal.invariant-steps
invariant-steps g l = record {
  on : IsGoing l.fn.runner.program l.fn.runner.input l.runner;
  counted : l.entries ≡ length (trace l.fn.runner.program l.fn.runner.input l.runner.taken);
  so_far : (start : SinkState) → AppendsAll start (g.S.Sink.state l.fn.out) (lines_of (header_of l.fn.runner.input)) → AppendsAll start (g.S.Sink.state l.out) (lines_of (trace l.fn.runner.program l.fn.runner.input l.runner.taken));
}

abbrev pub decreases-steps : goal.decreases-steps
decreases-steps g l = steps_ahead l.fn.runner.program l.fn.runner.input l.runner.taken
