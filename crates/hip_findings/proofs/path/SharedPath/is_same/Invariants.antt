use Rattle.std.proofs.Common.{◌≡◌}
use Rattle.hip_findings.proofs.path.SharedPath.is_same.Given as goal

abbrev pub invariant-each : goal.invariant-each
invariant-each l = l.site-iterator ≡ l.left → l.self ≡ l.other
