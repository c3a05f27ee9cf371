use Rattle.hip_typing.specs.Seen.NamesSeen.{seen}
use Rattle.hip_sound.specs.Declarations.{block_declared}
use Rattle.hip_sound.specs.Rules.{named_in}
use Rattle.hip_typing.proofs.NameLists.{more_names}
use Rattle.hip_typing.proofs.rules.inner.push_blocks.Goals as goal

pub each_block-preserved : goal.each_block-preserved
each_block-preserved c =
    more_names (block_declared (named_in c.args.function)) (seen c.args.names.now) c.args.blocks.now c.each_block.number c.index-blocks-number.result c.each_block.names c.push_block.new.names c.each_block-test.true c.index-blocks-number.is c.each_block.invariant c.in_ok-push_block.ensures
