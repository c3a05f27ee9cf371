use Rattle.std.proofs.Common.{◌≡◌, drop, max}
use Rattle.hip_runs.specs.Ends.{longest_body}
use Rattle.hip_runs.proofs.bodies.longest_body.Given as goal

abbrev pub invariant-each : goal.invariant-each
invariant-each l = max l.most (longest_body (drop l.block-index l.blocks)) ≡ longest_body l.blocks
