use Rattle.hip_sound.specs.Declarations.{block_declared}
use Rattle.hip_typing.specs.Seen.Inner.{entries}
use Rattle.hip_typing.proofs.InnerLemmas.{gains_some}
use Rattle.hip_typing.proofs.tables.inner_table.add_blocks.Goals as goal

pub each_block-preserved : goal.each_block-preserved
each_block-preserved c = gains_some (block_declared entries) c.args.blocks.now c.each_block.number c.index-blocks-number.result c.each_block-test.true c.index-blocks-number.is c.each_block.invariant c.in_ok-add_block.ensures
