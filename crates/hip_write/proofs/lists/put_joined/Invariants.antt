use Rattle.std.proofs.Common.{◌≡◌, take, map}
use Rattle.hip_grammar.specs.Show.{commas}
use Rattle.hip_write.specs.Parts.{separator_at}
use Rattle.hip_io.specs.Sinks.{Writes}
use Rattle.hip_write.proofs.lists.put_joined.Given as goal

abbrev pub invariant-each : goal.invariant-each
invariant-each g l = record {
  written : Writes l.initial.put l.put (g.S.Sink.state l.initial.out) (g.S.Sink.state l.out) (commas (map g.T.Written.text (take l.item-index l.item-items)));
  separator : l.separator ≡ separator_at l.item-index;
}
