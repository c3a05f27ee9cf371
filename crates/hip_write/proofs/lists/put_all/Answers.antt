use Rattle.std.proofs.Common.{sym}
use Rattle.hip_io.specs.Laws.SinkLaws.{and_then, same_text}
use Rattle.hip_write.proofs.ListTexts.{flat_more}
use Rattle.hip_write.proofs.lists.put_all.Goals as goal

pub each-preserved : goal.each-preserved
each-preserved g c =
    same_text (sym (flat_more g.T.Written.text _ _ _ c.each-test.true c.item-item.is)) (and_then c.each.invariant c.put-put.ensures)
