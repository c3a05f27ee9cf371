use Rattle.std.proofs.Common.{◌≡◌, take, map}
use Rattle.hip_grammar.specs.Show.{commas, type_text}
use Rattle.hip_write.specs.Parts.{separator_at}
use Rattle.hip_io.specs.Sinks.{Writes}
use Rattle.hip_write.proofs.types.+kind.Given as goal

abbrev pub invariant-put_fields-each_field : goal.invariant-put_fields-each_field
invariant-put_fields-each_field g l = record {
  written : Writes l.initial.put l.put (g.S.Sink.state l.initial.out) (g.S.Sink.state l.out) (commas (map type_text (take l.field-index l.fields)));
  separator : l.separator ≡ separator_at l.field-index;
}
