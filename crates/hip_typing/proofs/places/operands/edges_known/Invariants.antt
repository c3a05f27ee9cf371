use Rattle.std.proofs.Common.{◌≡◌, drop}
use Rattle.hip_sound.specs.Registers.{edge_uses, phi_uses}
use Rattle.hip_typing.specs.Seen.UsesSeen.{operands_known}
use Rattle.hip_typing.proofs.places.operands.edges_known.Given as goal

abbrev pub invariant-each : goal.invariant-each
invariant-each l =
    operands_known l.registers.names l.registers.values l.globals (edge_uses l.phi.ty (drop l.edge-index l.edge-items)) ≡ operands_known l.registers.names l.registers.values l.globals (phi_uses l.phi)
