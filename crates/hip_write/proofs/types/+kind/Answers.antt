use Rattle.std.proofs.lemmas.Grind.{common_steps}
use Rattle.hip_grammar.specs.Show.{type_text}
use Rattle.std.proofs.Common.{◌∙◌, sym, arith}
use Rattle.hip_grammar.specs.Show.{type_text}
use Rattle.hip_io.specs.Laws.SinkLaws.{and_then, same_text}
use Rattle.hip_write.proofs.ListTexts.{braced_some, commas_more, separator_after}
use Rattle.hip_write.proofs.types.+kind.Goals as goal

pub put_array-returns : goal.put_array-returns
put_array-returns g t c = and_then c.put_after-put.ensures (and_then c.put_natural-put.ensures (and_then c.put_after-put-2.ensures (and_then c.put_type-put.ensures (c.put_after.ensures))))

pub put_struct-returns : goal.put_struct-returns
put_struct-returns g t c =
    same_text (sym (braced_some type_text c.args.fields.now (grind (arith, common_steps, c.if-is_empty.ensures)))) (and_then c.put_after-put.ensures (and_then c.put_fields-put.ensures c.put_after-2.ensures))

pub put_fields-each_field-preserved : goal.put_fields-each_field-preserved
put_fields-each_field-preserved g t c = record {
  written = same_text (sym (commas_more type_text _ _ _ _ c.each_field-test.true c.field-item.is c.each_field.invariant.separator)) (and_then c.each_field.invariant.written (and_then c.put_after-put.ensures (c.put_type-put.ensures)));
  separator = c.as_slice-separator-in-each_field.ensures ∙ sym (separator_after c.each_field.field-index);
}
