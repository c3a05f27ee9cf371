use Rattle.std.proofs.Common.{◌-◌, length, take, drop, arith}
use Rattle.hip_trace.proofs.FirstLines.{field_by, marked}
use Rattle.hip_trace.proofs.line.first_field.Goals as goal

pub returns : goal.returns
returns c =
    let bytes = c.args.bytes.now in
    let whole = marked bytes (omega (arith, c.if-bytes-lt19.false)) c.if-bytes-ne59.false c.if-bytes-ne48.false c.if-bytes-ne120.false in
    field_by bytes (take (length bytes - 3) (drop 3 bytes)) c.first_number.result whole c.first_number.ensures
