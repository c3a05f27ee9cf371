use Rattle.hip_command_io.proofs.Failing.{file_refused, program_refused, refused_once}
use Rattle.hip_command_io.proofs.program.load_program.Goals as goal

pub returns-in_err-text-clause-loads : goal.returns-in_err-text-clause-loads
returns-in_err-text-clause-loads g c =
    file_refused (g.C.Cabinet.state c.args.cabinet.now) (g.C.Cabinet.state c.read_all.new.cabinet) c.args.name.now _
    c.from_residual.result c.in_err-text.ensures c.from_residual.ensures.1

pub returns-in_err-text-clause-fetches : goal.returns-in_err-text-clause-fetches
returns-in_err-text-clause-fetches g c =
    refused_once (g.C.Cabinet.state c.args.cabinet.now) (g.C.Cabinet.state c.read_all.new.cabinet) c.args.name.now _
    c.from_residual.result c.in_err-text.ensures c.from_residual.ensures.1

pub returns-in_err-checked-clause-loads : goal.returns-in_err-checked-clause-loads
returns-in_err-checked-clause-loads g c =
    program_refused (g.C.Cabinet.state c.args.cabinet.now) (g.C.Cabinet.state c.read_all.new.cabinet) c.args.name.now
    c.as_slice.result.now _ c.from_residual-in_err-checked.result (rw c.as_slice.ensures c.in_ok-text.ensures)
    c.in_err-checked.ensures c.from_residual-in_err-checked.ensures.1
