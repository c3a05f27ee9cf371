use Rattle.std.proofs.Common.{◌≡◌}
use Rattle.std.specs.Prelude.{slice_get}
use Rattle.hip_findings.proofs.path.SharedPath.get.Given as goal

abbrev pub invariant-each : goal.invariant-each
invariant-each l = slice_get l.sites l.before ≡ slice_get l.self l.place

abbrev pub decreases-each : goal.decreases-each
decreases-each l = l.before
