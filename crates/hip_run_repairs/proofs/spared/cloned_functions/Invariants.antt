use Rattle.std.proofs.Common.{drop}
use Rattle.hip_run_repairs.proofs.SparedCounts.{HasBut}
use Rattle.hip_run_repairs.proofs.spared.cloned_functions.Given as goal

abbrev pub invariant-each : goal.invariant-each
invariant-each l = HasBut l.functions.keys (drop l.clone-index l.clones) l.clones
