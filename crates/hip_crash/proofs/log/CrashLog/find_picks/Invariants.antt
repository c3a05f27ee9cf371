use Rattle.hip_runs.specs.Seen.{state_of}
use Rattle.hip_crash.proofs.PickLaws.{AreFound}
use Rattle.hip_crash.proofs.log.CrashLog.find_picks.Given as goal

abbrev pub invariant-lines : goal.invariant-lines
invariant-lines l = AreFound l.self.input (state_of l.self) l.image l.line l.picks
