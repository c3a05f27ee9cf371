use Rattle.hip_sound.specs.Registers.{phi_registers, body_registers}
use Rattle.hip_typing.proofs.RegisterLemmas.{adds_then}
use Rattle.hip_typing.proofs.tables.registers.add_block.Goals as goal

pub returns : goal.returns
returns c =
    rw (← c.as_slice.ensures, ← c.as_slice-2.ensures)
    (adds_then (phi_registers c.as_slice.result.now) (body_registers c.as_slice-2.result.now) c.in_ok-add_phis.ensures c.in_ok-add_body.ensures)
