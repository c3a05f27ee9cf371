-- The entries of steps that do not end their run.
use Rattle.std.specs.Prelude.{Option, Some, None}
use Rattle.hip_runs.specs.declared.event.Event.{Event}
use Rattle.hip_runs.specs.declared.event.Event.TheVariants as events
use Rattle.hip_trace.specs.declared.usual.Usual.{Usual}
use Rattle.hip_trace.specs.declared.usual.Usual.TheVariants as usuals

-- The entry of a step with an event that does not end the run, if it has one.
abbrev pub usual_of : Event → Option Usual
usual_of events.Quiet = None
usual_of (events.Print number) = None
usual_of (events.Store addr value size) = Some (usuals.Store addr value size)
usual_of (events.Flush line size) = Some (usuals.Flush line size)
usual_of (events.Persist line size) = Some (usuals.Persist line size)
usual_of events.Fence = Some usuals.Fence
usual_of (events.Assert addr size) = Some (usuals.Assert addr size)
usual_of (events.End ending) = None
