use Rattle.std.proofs.Common.{◌≡◌, drop}
use Rattle.hip_sound.specs.Registers.{edge_uses, phi_uses}
use Rattle.hip_typing.specs.Seen.UsesSeen.{operands_fit}
use Rattle.hip_typing.proofs.places.operands.edges_fit.Given as goal

abbrev pub invariant-each : goal.invariant-each
invariant-each l = operands_fit (edge_uses l.phi.ty (drop l.edge-index l.edge-items)) ≡ operands_fit (phi_uses l.phi)
