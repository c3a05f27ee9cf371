use Rattle.hip_io.specs.Laws.SinkLaws.{and_then}
use Rattle.hip_write.proofs.program.FunctionWritten.put.Goals as goal

pub returns : goal.returns
returns g c = and_then c.put_after-put.ensures (and_then c.put_ret-put.ensures (and_then c.put_after-put-2.ensures (and_then c.put_name-put.ensures (and_then c.put_parenthesized-put.ensures (and_then c.put_after-put-3.ensures (and_then c.put_all-put.ensures (c.put_after.ensures)))))))
