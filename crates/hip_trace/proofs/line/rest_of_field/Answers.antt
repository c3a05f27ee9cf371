use Rattle.std.proofs.Common.{◌++◌, codes, refl}
use Rattle.hip_trace.proofs.FirstLines.{field_by}
use Rattle.hip_trace.proofs.line.rest_of_field.Goals as goal

pub returns : goal.returns
returns c = field_by (codes ";0x" ++ c.args.bytes.now) c.args.bytes.now c.first_number.result refl c.first_number.ensures
