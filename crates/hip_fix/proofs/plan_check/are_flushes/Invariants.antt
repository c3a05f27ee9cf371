use Rattle.std.proofs.Common.{◌≡◌, drop}
use Rattle.hip_fix.specs.SuitsTest.{fences_pass}
use Rattle.hip_fix.proofs.plan_check.are_flushes.Given as goal

abbrev pub invariant-each : goal.invariant-each
invariant-each l = fences_pass l.program l.rest (drop l.site-index l.fence_after) ≡ fences_pass l.program l.flush_after l.fence_after
