use Rattle.std.proofs.Common.{take}
use Rattle.std.specs.List.{flat_map}
use Rattle.hip_sound.specs.Registers.{block_registers}
use Rattle.hip_typing.specs.Seen.Tables.{Adds}
use Rattle.hip_typing.proofs.tables.registers.add_blocks.Given as goal

abbrev pub invariant-each : goal.invariant-each
invariant-each l =
    Adds l.initial.table.names l.initial.table.values l.table.names l.table.values (flat_map block_registers (take l.block-index l.blocks))
