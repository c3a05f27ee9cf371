use Rattle.std.proofs.Common.{◌≡◌, drop}
use Rattle.std.specs.Str.{bytes_eq}
use Rattle.hip_types.specs.Distinct.{met}
use Rattle.hip_fix.specs.DirectWalk.{body_allocas}
use Rattle.hip_fix.proofs.direct.add_body_allocas.Given as goal

abbrev pub invariant-each : goal.invariant-each
invariant-each l = met bytes_eq l.names (body_allocas (drop l.instr-index l.body)) ≡ met bytes_eq l.initial.names (body_allocas l.body)
