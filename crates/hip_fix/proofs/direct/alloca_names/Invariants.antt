use Rattle.std.proofs.Common.{◌≡◌, [], drop}
use Rattle.std.specs.Str.{bytes_eq}
use Rattle.hip_types.specs.Distinct.{met}
use Rattle.hip_fix.specs.DirectWalk.{alloca_names}
use Rattle.hip_fix.proofs.direct.alloca_names.Given as goal

abbrev pub invariant-each : goal.invariant-each
invariant-each l = met bytes_eq l.names (alloca_names (drop l.block-index l.blocks)) ≡ met bytes_eq [] (alloca_names l.blocks)
