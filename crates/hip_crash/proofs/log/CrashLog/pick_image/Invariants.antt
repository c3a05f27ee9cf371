use Rattle.std.proofs.Common.{◌≡◌, ◌*◌, take}
use Rattle.hip_runs.specs.Crash.{crash_image}
use Rattle.hip_runs.specs.Seen.{state_of}
use Rattle.hip_crash.specs.Picks.{picked}
use Rattle.hip_crash.proofs.log.CrashLog.pick_image.Given as goal

abbrev pub invariant-lines : goal.invariant-lines
invariant-lines l = l.image ≡ take (64 * l.line) (crash_image l.self.input (state_of l.self) (picked (state_of l.self) l.picks))
