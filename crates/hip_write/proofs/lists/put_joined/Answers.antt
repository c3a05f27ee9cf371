use Rattle.std.proofs.Common.{◌∙◌, sym}
use Rattle.hip_io.specs.Laws.SinkLaws.{and_then, same_text}
use Rattle.hip_write.proofs.ListTexts.{commas_more, separator_after}
use Rattle.hip_write.proofs.lists.put_joined.Goals as goal

pub each-preserved : goal.each-preserved
each-preserved g c = record {
  written = same_text (sym (commas_more g.T.Written.text _ _ _ _ c.each-test.true c.item-item.is c.each.invariant.separator)) (and_then c.each.invariant.written (and_then c.put_after-put.ensures c.put-put.ensures));
  separator = c.as_slice-separator-in-each.ensures ∙ sym (separator_after c.each.item-index);
}
