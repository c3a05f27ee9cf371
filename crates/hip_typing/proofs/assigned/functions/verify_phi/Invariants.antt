use Rattle.std.proofs.Common.{drop}
use Rattle.std.specs.List.{flat_map}
use Rattle.hip_sound.specs.Rules.{edge_register_uses, phi_register_uses}
use Rattle.hip_typing.proofs.UseLists.{Carries}
use Rattle.hip_typing.proofs.assigned.functions.verify_phi.Given as goal

abbrev pub invariant-each : goal.invariant-each
invariant-each l = Carries l.body.function.now (flat_map (edge_register_uses l.body.function.now.blocks l.place l.phi.ty) (drop l.index l.edges)) (phi_register_uses l.body.function.now.blocks l.place l.phi)
