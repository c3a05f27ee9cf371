use Rattle.std.proofs.Common.{take}
use Rattle.hip_names.specs.Tables.{Gains}
use Rattle.hip_sound.specs.Declarations.{blocks_declared}
use Rattle.hip_typing.specs.Seen.Inner.{entries}
use Rattle.hip_typing.proofs.tables.inner_table.add_blocks.Given as goal

abbrev pub invariant-each_block : goal.invariant-each_block
invariant-each_block l = Gains l.initial.table.names l.initial.table.values l.table.names l.table.values (blocks_declared entries (take l.number l.blocks))
