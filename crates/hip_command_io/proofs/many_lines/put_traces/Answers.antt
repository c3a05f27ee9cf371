use Rattle.hip_io.specs.Laws.SinkLaws.{and_then}
use Rattle.hip_command_io.proofs.many_lines.put_traces.Goals as goal

pub returns : goal.returns
returns g c = and_then c.put_after-put.ensures c.put_number.ensures
