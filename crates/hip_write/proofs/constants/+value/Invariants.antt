use Rattle.std.proofs.Common.{◌≡◌, take, map}
use Rattle.hip_grammar.specs.Show.{commas, item_text}
use Rattle.hip_write.specs.Parts.{separator_at}
use Rattle.hip_io.specs.Sinks.{Writes}
use Rattle.hip_write.proofs.constants.+value.Given as goal

abbrev pub invariant-put_items-each_item : goal.invariant-put_items-each_item
invariant-put_items-each_item g l = record {
  written : Writes l.initial.put l.put (g.S.Sink.state l.initial.out) (g.S.Sink.state l.out) (commas (map item_text (take l.item-index l.items)));
  separator : l.separator ≡ separator_at l.item-index;
}
