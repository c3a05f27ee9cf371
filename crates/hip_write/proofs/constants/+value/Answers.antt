use Rattle.std.proofs.lemmas.Grind.{common_steps}
use Rattle.hip_write.proofs.Consts.{gep_text-is, item_text-is}
use Rattle.hip_grammar.specs.Show.{item_text}
use Rattle.std.proofs.Common.{◌∙◌, sym, arith}
use Rattle.hip_io.specs.Laws.SinkLaws.{and_then, same_text}
use Rattle.hip_write.proofs.ListTexts.{braced_some, commas_more, separator_after}
use Rattle.hip_write.proofs.constants.+value.Goals as goal

pub put_const_gep-returns : goal.put_const_gep-returns
put_const_gep-returns g t c = same_text (sym (gep_text-is c.args.gep.now)) (and_then c.put_after-put.ensures (and_then c.put_inbounds-put.ensures (and_then c.put_after-put-2.ensures (and_then c.put_type-put.ensures (and_then c.put_after-put-3.ensures (and_then c.put_const-put.ensures (and_then c.put_more-put.ensures (c.put_after.ensures))))))))

pub put_item-returns : goal.put_item-returns
put_item-returns g t c = same_text (sym (item_text-is c.args.item.now)) (and_then c.put_type-put.ensures (and_then c.put_after-put.ensures (c.put_const.ensures)))

pub put_bracketed-returns : goal.put_bracketed-returns
put_bracketed-returns g t c = and_then c.put_after-put.ensures (and_then c.put_items-put.ensures (c.put_after.ensures))

pub put_braced-returns : goal.put_braced-returns
put_braced-returns g t c =
    same_text (sym (braced_some item_text c.args.items.now (grind (arith, common_steps, c.if-is_empty.ensures)))) (and_then c.put_after-put.ensures (and_then c.put_items-put.ensures c.put_after-2.ensures))

pub put_items-each_item-preserved : goal.put_items-each_item-preserved
put_items-each_item-preserved g t c = record {
  written = same_text (sym (commas_more item_text _ _ _ _ c.each_item-test.true c.item-item.is c.each_item.invariant.separator)) (and_then c.each_item.invariant.written (and_then c.put_after-put.ensures (c.put_item-put.ensures)));
  separator = c.as_slice-separator-in-each_item.ensures ∙ sym (separator_after c.each_item.item-index);
}
