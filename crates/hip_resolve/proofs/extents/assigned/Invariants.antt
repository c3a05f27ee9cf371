use Rattle.std.proofs.Common.{◌≡◌, length, take}
use Rattle.hip_sound.specs.Registers.{body_registers}
use Rattle.hip_resolve.proofs.extents.assigned.Given as goal

abbrev pub invariant-each : goal.invariant-each
invariant-each l = l.count ≡ length (body_registers (take l.instr-index l.body))
