use Rattle.std.proofs.Common.{◌≡◌, length}
use Rattle.hip_io.specs.Sinks.{AppendsAll, SinkState}
use Rattle.hip_run_traces.specs.Traces.{header_of, trace}
use Rattle.hip_trace.specs.Texts.{lines_of}
use Rattle.hip_lockstep.proofs.Going.{IsGoing, steps_ahead}
use Rattle.hip_report.specs.TrackerView.{HasNoted}
use Rattle.hip_replay.proofs.record.note_entries.Given as goal

abbrev pub invariant-steps : goal.invariant-steps
invariant-steps g l = record {
  on : IsGoing l.fn.machine.program l.fn.machine.input l.machine;
  counted : l.entries ≡ length (trace l.fn.machine.program l.fn.machine.input l.machine.taken);
  so_far : (start : SinkState) → AppendsAll start (g.S.Sink.state l.fn.out) (lines_of (header_of l.fn.machine.input)) → AppendsAll start (g.S.Sink.state l.out) (lines_of (trace l.fn.machine.program l.fn.machine.input l.machine.taken));
  noted : HasNoted l.tracker l.machine;
  header : l.tracker.header ≡ l.fn.tracker.header;
  sought : l.tracker.sought ≡ l.fn.tracker.sought;
}

abbrev pub decreases-steps : goal.decreases-steps
decreases-steps g l = steps_ahead l.fn.machine.program l.fn.machine.input l.machine.taken
