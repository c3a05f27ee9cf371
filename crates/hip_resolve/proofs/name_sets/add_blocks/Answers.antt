use Rattle.std.proofs.Common.{◌∙◌}
use Rattle.std.specs.Str.{bytes_eq}
use Rattle.hip_names.specs.Laws.MetLaws.{met-next}
use Rattle.hip_sound.specs.Paths.{names_of}
use Rattle.hip_sound.specs.Registers.{block_registers}
use Rattle.hip_resolve.proofs.name_sets.add_blocks.Goals as goal

pub each-preserved : goal.each-preserved
each-preserved c =
    rw (c.in_ok-add_block.ensures)
    (met-next bytes_eq (λ x. names_of (block_registers x)) c.each.names c.args.blocks.now c.each.block-index c.block-item.result c.each-test.true c.block-item.is ∙ c.each.invariant)
