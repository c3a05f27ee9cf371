use Rattle.std.proofs.Common.{subst}
use Rattle.std.specs.Fmt.{signed_decimal}
use Rattle.std.specs.Int.{w32}
use Rattle.std.proofs.lemmas.Int.{to_z-of_z}
use Rattle.hip_io.specs.Laws.SinkLaws.{and_then}
use Rattle.hip_io.specs.Sinks.{Writes}
use Rattle.hip_answers.proofs.endings.put_stop.Goals as goal

pub returns : goal.returns
returns g c =
    let code =
    subst (λ n. Writes c.put_after-put.result c.put_signed-put.result (g.S.Sink.state c.put_after-put.new.out) (g.S.Sink.state c.put_signed-put.new.out) (signed_decimal n))
    (to_z-of_z w32 c.args.code c.ranges.code) c.put_signed-put.ensures in
    and_then (and_then c.put_after-put.ensures code) c.put_after.ensures
