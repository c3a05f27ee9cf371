use Rattle.std.proofs.Common.{◌≡◌, ◌++◌, ◌+◌, drop, length}
use Rattle.hip_repairs.specs.CloneNumbers.{numbered_from}
use Rattle.hip_fix.proofs.applied.numbered.Given as goal

abbrev pub invariant-each : goal.invariant-each
invariant-each l = l.clones ++ numbered_from (length l.functions + l.place) (drop l.place l.originals) ≡ numbered_from (length l.functions) l.originals
