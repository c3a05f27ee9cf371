use Rattle.std.proofs.Common.{◌≡◌, length}
use Rattle.hip_fix.specs.SuitsTest as test
use Rattle.hip_fix.proofs.plan_check.not_before.Given as goal

abbrev pub invariant-each : goal.invariant-each
invariant-each l = test.not_before l.site l.rest ≡ test.not_before l.site l.sites

abbrev pub decreases-each : goal.decreases-each
decreases-each l = length l.rest
