use Rattle.std.proofs.Common.{inl, inr, ap, ◌∙◌, arith}
use Rattle.hip_answers.specs.FetchLaws.{ending_has_all}
use Rattle.hip_answers.specs.Fetches.{fetches_by}
use Rattle.hip_command_io.specs.ResultLaws.{given_with_all}
use Rattle.hip_command_io.specs.StageLaws.{no_memory, no_memory_fetched, no_program, no_program_fetched}
use Rattle.hip_run_commands.proofs.Records.{of_record}
use Rattle.hip_run_commands.proofs.record.record_file.Goals as goal

pub returns-in_err-checked-clause-gives : goal.returns-in_err-checked-clause-gives
returns-in_err-checked-clause-gives g c =
    no_program c.args.program.now _ c.from_residual.result (λ a u. inl u) c.in_err-checked.ensures.loads c.from_residual.ensures.1

pub returns-in_err-input-clause-gives : goal.returns-in_err-input-clause-gives
returns-in_err-input-clause-gives g c =
    no_memory c.from_residual-in_err-input.result c.in_ok-checked.ensures.loads.0 c.from_residual-in_err-input.ensures.1

pub returns-clause-gives : goal.returns-clause-gives
returns-clause-gives g c =
    of_record c.in_ok-checked.checked c.in_ok-input.input c.put_trace.result c.in_ok-checked.ensures.loads.0
    c.in_ok-checked.ensures.loads.1 c.in_ok-input.ensures.is c.put_trace.ensures.gives

pub returns-in_err-checked-clause-fetches : goal.returns-in_err-checked-clause-fetches
returns-in_err-checked-clause-fetches g c =
    no_program_fetched 1 (omega arith) _ c.from_residual.result c.in_err-checked.ensures.fetches c.from_residual.ensures.1

pub returns-in_err-input-clause-fetches : goal.returns-in_err-input-clause-fetches
returns-in_err-input-clause-fetches g c =
    no_memory_fetched 1 c.from_residual-in_err-input.result (inr c.in_ok-checked.ensures.fetches) c.from_residual-in_err-input.ensures.1

pub returns-clause-fetches : goal.returns-clause-fetches
returns-clause-fetches g c =
    given_with_all 1 c.put_trace.result (inr c.in_ok-checked.ensures.fetches)
    (λ a h. ap (fetches_by 1) h.status_is ∙ ending_has_all 1 h.ending)
    (c.put_trace.ensures.gives _ _ c.in_ok-checked.ensures.loads.0)
