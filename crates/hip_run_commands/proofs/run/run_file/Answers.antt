use Rattle.std.proofs.Common.{inl, inr, arith}
use Rattle.hip_command_io.specs.StageLaws.{ended_fetched, no_memory, no_memory_fetched, no_program, no_program_fetched, stopped_delivered, stopped_fetched}
use Rattle.hip_run_commands.proofs.Runs.{has_run, has_stopped}
use Rattle.hip_run_commands.proofs.run.run_file.Goals as goal

pub returns-in_err-checked-clause-gives : goal.returns-in_err-checked-clause-gives
returns-in_err-checked-clause-gives g c =
    no_program c.args.program.now _ c.from_residual.result (λ a u. inl u) c.in_err-checked.ensures.loads c.from_residual.ensures.1

pub returns-in_err-input-clause-gives : goal.returns-in_err-input-clause-gives
returns-in_err-input-clause-gives g c =
    no_memory c.from_residual-in_err-input.result c.in_ok-checked.ensures.loads.0 c.from_residual-in_err-input.ensures.1

pub returns-in-Ok-clause-gives : goal.returns-in-Ok-clause-gives
returns-in-Ok-clause-gives g c =
    has_run c.in_ok-checked.checked c.in_ok-input.input _ _ c.in_ok-checked.ensures.loads.0 c.in_ok-checked.ensures.loads.1
    c.in_ok-input.ensures.is c.in-Ok.ending c.in-Ok.ensures.prints

pub returns-clause-gives : goal.returns-clause-gives
returns-clause-gives g c =
    rw c.status_of_recording.ensures (has_stopped c.in_ok-checked.checked c.in_ok-input.input _ _ c.in_ok-checked.ensures.loads.0
    c.in_ok-checked.ensures.loads.1 c.in_ok-input.ensures.is c.in-Err.refusal c.in-Err.ensures.prints)

pub returns-in_err-checked-clause-fetches : goal.returns-in_err-checked-clause-fetches
returns-in_err-checked-clause-fetches g c =
    no_program_fetched 1 (omega arith) _ c.from_residual.result c.in_err-checked.ensures.fetches c.from_residual.ensures.1

pub returns-in_err-input-clause-fetches : goal.returns-in_err-input-clause-fetches
returns-in_err-input-clause-fetches g c =
    no_memory_fetched 1 c.from_residual-in_err-input.result (inr c.in_ok-checked.ensures.fetches) c.from_residual-in_err-input.ensures.1

pub returns-in-Ok-clause-fetches : goal.returns-in-Ok-clause-fetches
returns-in-Ok-clause-fetches g c = ended_fetched 1 c.in-Ok.ending (inr c.in_ok-checked.ensures.fetches)

pub returns-clause-fetches : goal.returns-clause-fetches
returns-clause-fetches g c =
    rw c.status_of_recording.ensures (stopped_fetched 1 c.in-Err.refusal (inr c.in_ok-checked.ensures.fetches))

pub returns-clause-delivered : goal.returns-clause-delivered
returns-clause-delivered g c = λ start.
    rw c.status_of_recording.ensures (stopped_delivered c.in-Err.refusal _ c.in-Err.ensures.delivered)
