use Rattle.std.proofs.Common.{◌≡◌, drop, max}
use Rattle.hip_runs.specs.Ends.{longest, longest_in}
use Rattle.hip_runs.proofs.bodies.longest.Given as goal

abbrev pub invariant-functions : goal.invariant-functions
invariant-functions l = max l.most (longest_in (drop l.function-index l.program.functions)) ≡ longest l.program
