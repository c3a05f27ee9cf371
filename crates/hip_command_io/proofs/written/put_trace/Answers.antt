use Rattle.hip_command_io.proofs.Recorded.{has_recorded, has_stopped}
use Rattle.hip_command_io.specs.StageLaws.{stopped_delivered}
use Rattle.hip_command_io.proofs.written.put_trace.Goals as goal

pub returns-in-Ok-clause-gives : goal.returns-in-Ok-clause-gives
returns-in-Ok-clause-gives g c =
    has_recorded c.args.checked.now c.args.input.now _ _ c.in-Ok.ended c.in-Ok.ensures.trace

pub returns-in-Err-clause-gives : goal.returns-in-Err-clause-gives
returns-in-Err-clause-gives g c =
    rw c.status_of_recording.ensures (has_stopped c.args.checked.now c.args.input.now _ _ c.in-Err.refusal c.in-Err.ensures.trace)

pub returns-in-Err-clause-delivered : goal.returns-in-Err-clause-delivered
returns-in-Err-clause-delivered g c =
    rw c.status_of_recording.ensures (stopped_delivered c.in-Err.refusal _ c.in-Err.ensures.delivered)
