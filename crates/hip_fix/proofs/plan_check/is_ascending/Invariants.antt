use Rattle.std.proofs.Common.{◌≡◌, length}
use Rattle.hip_repairs.specs.Suits as spec
use Rattle.hip_fix.proofs.plan_check.is_ascending.Given as goal

abbrev pub invariant-each : goal.invariant-each
invariant-each l = spec.is_ascending l.rest ≡ spec.is_ascending l.sites

abbrev pub decreases-each : goal.decreases-each
decreases-each l = length l.rest
