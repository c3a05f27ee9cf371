use Rattle.hip_io.specs.Laws.SinkLaws.{and_then}
use Rattle.hip_answers.proofs.lines.put_usage.Goals as goal

pub returns : goal.returns
returns g c =
    let first = and_then (and_then c.put_after-put.ensures c.put_after-put-2.ensures) c.put_after-put-3.ensures in
    let second = and_then (and_then first c.put_after-put-4.ensures) c.put_after-put-5.ensures in
    let third = and_then (and_then second c.put_after-put-6.ensures) c.put_after-put-7.ensures in
    and_then (and_then (and_then third c.put_after-put-8.ensures) c.put_after-put-9.ensures) c.put_after.ensures
