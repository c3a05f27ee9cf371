use Rattle.hip_io.specs.Laws.SinkLaws.{then_delivers}
use Rattle.hip_demo.proofs.lines.put_shown.Goals as goal

pub returns : goal.returns
returns g c = then_delivers c.put_lines-put.ensures c.deliver_after.ensures
