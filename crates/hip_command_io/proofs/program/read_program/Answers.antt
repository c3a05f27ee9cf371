use Rattle.hip_command_io.proofs.Failing.{form_refused, text_refused}
use Rattle.hip_command_io.proofs.program.read_program.Goals as goal

pub returns-in_err-program : goal.returns-in_err-program
returns-in_err-program c =
    text_refused c.args.text.now _ c.from_residual.result c.in_err-program.ensures.only c.in_err-program.ensures.refused
    c.from_residual.ensures.1

pub returns-in_err-checked : goal.returns-in_err-checked
returns-in_err-checked c =
    form_refused c.args.text.now c.in_ok-program.program _ c.from_residual-in_err-checked.result c.in_ok-program.ensures.read
    c.in_err-checked.ensures c.from_residual-in_err-checked.ensures.1
