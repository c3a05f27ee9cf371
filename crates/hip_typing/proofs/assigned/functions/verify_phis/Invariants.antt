use Rattle.hip_typing.proofs.UseLists.{parts_left, phi_uses_at}
use Rattle.hip_typing.proofs.UseLists.{Carries}
use Rattle.hip_typing.proofs.assigned.functions.verify_phis.Given as goal

abbrev pub invariant-each : goal.invariant-each
invariant-each l = Carries l.body.function.now (parts_left (phi_uses_at l.body.function.now l.function l.block) l.items l.index) (parts_left (phi_uses_at l.body.function.now l.function l.block) l.phis 0)
