use Rattle.std.proofs.Common.{◌≡◌, take}
use Rattle.hip_findings.proofs.reports.are_same.Given as goal

abbrev pub invariant-each : goal.invariant-each
invariant-each l = take l.index l.stores ≡ take l.index l.others
