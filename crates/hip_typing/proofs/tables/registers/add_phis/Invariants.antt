use Rattle.std.proofs.Common.{take}
use Rattle.hip_sound.specs.Registers.{phi_registers}
use Rattle.hip_typing.specs.Seen.Tables.{Adds}
use Rattle.hip_typing.proofs.tables.registers.add_phis.Given as goal

abbrev pub invariant-phis : goal.invariant-phis
invariant-phis l =
    Adds l.initial.table.names l.initial.table.values l.table.names l.table.values (phi_registers (take l.phi-index l.phis))
