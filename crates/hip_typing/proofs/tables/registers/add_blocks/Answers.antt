use Rattle.hip_sound.specs.Registers.{block_registers}
use Rattle.hip_typing.proofs.RegisterLemmas.{adds_some}
use Rattle.hip_typing.proofs.tables.registers.add_blocks.Goals as goal

pub each-preserved : goal.each-preserved
each-preserved c =
    adds_some (block_registers) c.args.blocks.now c.each.block-index c.block-item.result c.each-test.true c.block-item.is c.each.invariant c.in_ok-add_block.ensures
