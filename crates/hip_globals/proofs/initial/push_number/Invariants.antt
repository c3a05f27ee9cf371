use Rattle.std.proofs.Common.{◌≡◌, ◌-◌, ◌++◌}
use Rattle.hip_types.specs.Bytes.{bytes_of}
use Rattle.hip_globals.proofs.initial.push_number.Given as goal

abbrev pub invariant-each : goal.invariant-each
invariant-each l = l.bytes ++ bytes_of (l.count - l._byte) l.rest ≡ l.initial.bytes ++ bytes_of l.count l.number
