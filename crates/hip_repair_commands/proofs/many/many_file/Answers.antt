use Rattle.std.proofs.Common.{◌+◌, length, refl, ap, arith}
use Rattle.hip_answers.specs.Fetches.{fetches_by}
use Rattle.hip_command_io.specs.ResultLaws.{given_with_all}
use Rattle.hip_command_io.specs.StageLaws.{no_program, no_program_fetched}
use Rattle.hip_program_files.specs.Laws.{met_then}
use Rattle.hip_repair_commands.proofs.Answered.{all_fetched, answered, files_fetched, unloaded_many, untraced}
use Rattle.hip_repair_commands.proofs.many.many_file.Goals as goal

pub returns-in_err-checked-clause-gives : goal.returns-in_err-checked-clause-gives
returns-in_err-checked-clause-gives g c =
    no_program c.args.program.now _ c.from_residual.result (unloaded_many _ _ _ _) c.in_err-checked.ensures.loads
    c.from_residual.ensures.1

pub returns-in-Err-clause-gives : goal.returns-in-Err-clause-gives
returns-in-Err-clause-gives g c =
    rw c.status_of_traces.ensures (untraced c.in_ok-checked.checked c.in_ok-checked.ensures.loads.0 c.in_ok-checked.ensures.loads.1
    c.in_ok-checked.ensures.loads.2 c.in-Err.failure c.in-Err.ensures.asks)

pub returns-in-Ok-clause-gives : goal.returns-in-Ok-clause-gives
returns-in-Ok-clause-gives g c =
    let h = c.in-Ok.ensures.asks in
    answered c.in_ok-checked.checked c.in_ok-checked.ensures.loads.0 c.in_ok-checked.ensures.loads.1
    c.in_ok-checked.ensures.loads.2 c.repair_many.result c.in-Ok.asked h
    (c.repair_many.ensures.gives _ _ h.runs h.are refl h.asked_are)

pub returns-in_err-checked-clause-fetches : goal.returns-in_err-checked-clause-fetches
returns-in_err-checked-clause-fetches g c =
    no_program_fetched (1 + length c.args.traces.now) (omega arith) _ c.from_residual.result c.in_err-checked.ensures.fetches
    c.from_residual.ensures.1

pub returns-in-Err-clause-fetches : goal.returns-in-Err-clause-fetches
returns-in-Err-clause-fetches g c =
    rw c.status_of_traces.ensures (files_fetched (length c.args.traces.now) c.in_ok-checked.ensures.fetches c.in-Err.failure
    c.in-Err.ensures.fetches)

pub returns-in-Ok-clause-fetches : goal.returns-in-Ok-clause-fetches
returns-in-Ok-clause-fetches g c =
    let h = c.in-Ok.ensures.asks in
    given_with_all (1 + length c.args.traces.now) c.repair_many.result
    (all_fetched (length c.args.traces.now) c.in_ok-checked.ensures.fetches c.in-Ok.asked c.in-Ok.ensures.fetches)
    (λ a x. ap (fetches_by (1 + length c.args.traces.now)) x.status_is)
    (c.repair_many.ensures.gives _ _ h.runs h.are refl h.asked_are _ _ (met_then c.in_ok-checked.ensures.loads.0 h.met))
