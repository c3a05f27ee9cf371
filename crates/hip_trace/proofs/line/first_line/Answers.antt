use Rattle.std.proofs.Common.{◌-◌, length, refl, arith}
use Rattle.hip_trace.proofs.FirstLines.{line_first}
use Rattle.hip_trace.proofs.line.first_line.Goals as goal

pub returns : goal.returns
returns c =
    let rest = c.in_ok-usual.rest.now in
    line_first c.args.bytes.now rest _ (record { usual = c.in_ok-usual.usual; len = length c.args.bytes.now - length rest }) c.in_ok-usual.ensures c.in_ok-_next.ensures refl (omega (arith, c.if-len-gt256.false))
