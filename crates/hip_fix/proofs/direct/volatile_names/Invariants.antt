use Rattle.std.proofs.Common.{◌≡◌, [], drop}
use Rattle.std.specs.Str.{bytes_eq}
use Rattle.hip_types.specs.Distinct.{met}
use Rattle.hip_fix.specs.DirectWalk.{volatile_names}
use Rattle.hip_fix.proofs.direct.volatile_names.Given as goal

abbrev pub invariant-each : goal.invariant-each
invariant-each l = met bytes_eq l.names (volatile_names (drop l.global-index l.globals)) ≡ met bytes_eq [] (volatile_names l.globals)
