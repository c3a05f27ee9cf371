use Rattle.std.proofs.Common.{take, map}
use Rattle.hip_grammar.specs.Show.{after_commas}
use Rattle.hip_io.specs.Sinks.{Writes}
use Rattle.hip_write.proofs.lists.put_more.Given as goal

abbrev pub invariant-each : goal.invariant-each
invariant-each g l =
    Writes l.initial.put l.put (g.S.Sink.state l.initial.out) (g.S.Sink.state l.out) (after_commas (map g.T.Written.text (take l.item-index l.item-items)))
