use Rattle.std.proofs.Common.{◌≤◌, map, take}
use Rattle.hip_resolve.specs.Extents.{LeadsNoLower}
use Rattle.hip_resolve.proofs.extents.lowest_case.Given as goal

abbrev pub invariant-each : goal.invariant-each
invariant-each l = record {
  below : l.lowest ≤ l.low;
  labels : LeadsNoLower l.labels (map (λ c. c.label) (take l.index l.cases)) l.lowest;
}
