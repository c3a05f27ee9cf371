-- The trace of a run, as it is written to a sink.
use Rattle.std.specs.Prelude.{◌≡◌, List, ◌++◌, length, Some, Result, Ok, Err}
use Rattle.hip_tree.specs.declared.program.Program.{Program}
use Rattle.hip_io.specs.Sinks.{SinkState, AppendsAll, AppendsPrefix}
use Rattle.hip_run_traces.specs.Traces.{IsTrace}
use Rattle.hip_runs.specs.Found.Marks.{IsFound}
use Rattle.hip_runs.specs.Step.{run}
use Rattle.hip_runs.specs.declared.input.Input.{Input}
use Rattle.hip_trace.specs.Texts.{lines_of}
use Rattle.hip_trace.specs.declared.entry.Entry.{Entry}
use Rattle.hip_lockstep.specs.declared.ended.Ended.{Ended}
use Rattle.hip_replay.specs.declared.record.Recorded.{Recorded}
use Rattle.hip_replay.specs.declared.refusal.RecordRefusal.{RecordRefusal}
use Rattle.hip_replay.specs.declared.refusal.RecordRefusal.TheVariants as refusals

-- The run's trace is written, a line for each entry, with this ending and this number of entries.
pub record HasPutTrace (P : Program) (I : Input) (old new : SinkState) (done : Ended) : Type 0 where
  pub trace : List Entry
  pub is_trace : IsTrace P I trace
  pub ended : (run P I is_trace.steps).world.ending ≡ Some done.ending
  pub entries : done.entries ≡ length trace
  pub written : AppendsAll old new (lines_of trace)

-- The run's trace is written; the answer has its ending, the number of its entries and what it found.
pub record HasRecorded (P : Program) (I : Input) (old new : SinkState) (recorded : Recorded) : Type 0 where
  pub put : HasPutTrace P I old new (record { ending = recorded.ending; entries = recorded.entries })
  pub found : IsFound P I recorded.findings

-- A write has failed, and out has a prefix of the trace's text.
pub record HasFailedRecording (P : Program) (I : Input) (old new : SinkState) : Type 0 where
  pub trace : List Entry
  pub is_trace : IsTrace P I trace
  pub written : AppendsPrefix old new (lines_of trace)

-- Out of memory; no write has failed, and out has the lines of the first entries.
pub record HasStoppedRecording (P : Program) (I : Input) (old new : SinkState) : Type 0 where
  pub front : List Entry
  pub missing : List Entry
  pub is_trace : IsTrace P I (front ++ missing)
  pub written : AppendsAll old new (lines_of front)

-- The cause of a refusal, and what is written.
abbrev pub StopsRecording : Program → Input → SinkState → SinkState → RecordRefusal → Type 0
StopsRecording P I old new refusals.WriteFault = HasFailedRecording P I old new
StopsRecording P I old new refusals.NoMemory = HasStoppedRecording P I old new

-- What is written, by the answer, which has no findings.
abbrev pub PutsTrace : Program → Input → SinkState → SinkState → Result Ended RecordRefusal → Type 0
PutsTrace P I old new (Ok done) = HasPutTrace P I old new done
PutsTrace P I old new (Err refusal) = StopsRecording P I old new refusal

-- What is written, by the answer.
abbrev pub Records : Program → Input → SinkState → SinkState → Result Recorded RecordRefusal → Type 0
Records P I old new (Ok recorded) = HasRecorded P I old new recorded
Records P I old new (Err refusal) = StopsRecording P I old new refusal
