use Rattle.std.proofs.Common.{take}
use Rattle.std.specs.List.{flat_map}
use Rattle.hip_io.specs.Sinks.{Writes}
use Rattle.hip_write.proofs.lists.put_all.Given as goal

abbrev pub invariant-each : goal.invariant-each
invariant-each g l =
    Writes l.initial.put l.put (g.S.Sink.state l.initial.out) (g.S.Sink.state l.out) (flat_map g.T.Written.text (take l.item-index l.item-items))
