use Rattle.std.proofs.Common.{◌≤◌, ◌-◌}
use Rattle.hip_directory.specs.Directories.{NoneSet}
use Rattle.hip_directory.proofs.directory.Directory.first_set_within.Given as goal

abbrev pub invariant-loop-key : goal.invariant-loop-key
invariant-loop-key l = (l.from ≤ l.key) × NoneSet l.self l.from l.key

abbrev pub decreases-loop-key : goal.decreases-loop-key
decreases-loop-key l = l.to - l.key
