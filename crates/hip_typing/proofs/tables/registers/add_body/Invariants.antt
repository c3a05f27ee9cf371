use Rattle.std.proofs.Common.{take}
use Rattle.hip_sound.specs.Registers.{body_registers}
use Rattle.hip_typing.specs.Seen.Tables.{Adds}
use Rattle.hip_typing.proofs.tables.registers.add_body.Given as goal

abbrev pub invariant-body : goal.invariant-body
invariant-body l =
    Adds l.initial.table.names l.initial.table.values l.table.names l.table.values (body_registers (take l.instr-index l.body))
