use Rattle.hip_typing.proofs.ArrivalLemmas.{predecessors_more}
use Rattle.hip_typing.proofs.tables.predecessors.predecessors_of.Goals as goal

pub each-preserved : goal.each-preserved
each-preserved c = predecessors_more c.args.blocks.now c.each.block-index c.block-item.result c.each-test.true c.block-item.is c.each.invariant c.in_ok-add_block.ensures
