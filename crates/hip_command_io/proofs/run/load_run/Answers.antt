use Rattle.hip_command_io.proofs.Runs.{loaded, no_program, no_trace, program_fetched, trace_fetched}
use Rattle.hip_program_files.specs.Laws.{fetches_then}
use Rattle.hip_command_io.proofs.run.load_run.Goals as goal

pub returns-in_err-checked-clause-loads : goal.returns-in_err-checked-clause-loads
returns-in_err-checked-clause-loads g c =
    no_program (g.C.Cabinet.state c.args.cabinet.now) (g.C.Cabinet.state c.load_program.new.cabinet)
    c.args.program.now c.args.trace.now c.args.sought _ c.from_residual.result c.in_err-checked.ensures.loads
    c.from_residual.ensures.1

pub returns-in_err-replayed-clause-loads : goal.returns-in_err-replayed-clause-loads
returns-in_err-replayed-clause-loads g c =
    no_trace (g.C.Cabinet.state c.load_trace.new.cabinet) c.args.trace.now c.in_ok-checked.checked
    c.in_ok-checked.ensures.loads.0 c.in_ok-checked.ensures.loads.1 c.in_ok-checked.ensures.loads.2
    c.args.sought _ c.from_residual-in_err-replayed.result c.in_err-replayed.ensures.loads c.from_residual-in_err-replayed.ensures.1

pub returns-clause-loads : goal.returns-clause-loads
returns-clause-loads g c =
    loaded c.in_ok-checked.checked c.in_ok-checked.ensures.loads.0 c.in_ok-checked.ensures.loads.1 c.in_ok-checked.ensures.loads.2
    c.args.sought c.in_ok-replayed.replayed c.in_ok-replayed.ensures.loads.0

pub returns-in_err-checked-clause-fetches : goal.returns-in_err-checked-clause-fetches
returns-in_err-checked-clause-fetches g c =
    program_fetched _ c.from_residual.result c.in_err-checked.ensures.fetches c.from_residual.ensures.1

pub returns-in_err-replayed-clause-fetches : goal.returns-in_err-replayed-clause-fetches
returns-in_err-replayed-clause-fetches g c =
    trace_fetched _ c.from_residual-in_err-replayed.result
    (fetches_then 1 1 c.in_ok-checked.ensures.fetches c.in_err-replayed.ensures.fetches) c.from_residual-in_err-replayed.ensures.1

pub returns-clause-fetches : goal.returns-clause-fetches
returns-clause-fetches g c = fetches_then 1 1 c.in_ok-checked.ensures.fetches c.in_ok-replayed.ensures.fetches
