use Rattle.std.proofs.Common.{◌≡◌, drop, take}
use Rattle.hip_runs.specs.Seen.{state_of}
use Rattle.hip_crash.specs.Numbers.{AreNumbers}
use Rattle.hip_crash.specs.Picks.{failure_after, first_failure}
use Rattle.hip_crash.proofs.log.CrashLog.numbers_of.Given as goal

abbrev pub invariant-picks : goal.invariant-picks
invariant-picks l = record {
  numbers : AreNumbers (take l.place l.picks) l.numbers.entries;
  fit : failure_after (state_of l.self) (take l.place l.picks) (drop l.place l.picks) ≡ first_failure (state_of l.self) l.picks;
}
