use Rattle.std.proofs.Common.{sym}
use Rattle.hip_io.specs.Laws.SinkLaws.{and_then, same_text}
use Rattle.hip_write.proofs.ListTexts.{after_more}
use Rattle.hip_write.proofs.lists.put_more.Goals as goal

pub each-preserved : goal.each-preserved
each-preserved g c =
    same_text (sym (after_more g.T.Written.text _ _ _ c.each-test.true c.item-item.is)) (and_then c.each.invariant (and_then c.put_after-put.ensures c.put-put.ensures))
