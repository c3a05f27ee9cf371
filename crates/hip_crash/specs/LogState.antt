-- A log during a run: what it keeps represents the state after the steps that it noted.
use Rattle.std.specs.Prelude.{◌≡◌, ◌^◌, ◌<◌}
use Rattle.hip_sound.specs.Sound.{IsSound}
use Rattle.hip_runs.specs.Ends.{longest}
use Rattle.hip_runs.specs.Step.{has_ended, run}
use Rattle.hip_runs.specs.Validity.{IsValid}
use Rattle.hip_runs.specs.Seen.{Seen}
use Rattle.hip_crash.specs.RepresentedLine.{AreKeptOf}
use Rattle.hip_crash.specs.Region.{seen_at}
use Rattle.hip_crash.specs.PendingChange.{WaitsWithin}
use Rattle.hip_crash.specs.declared.log.CrashLog.TheInside.{Inside}

-- What contracts see of a log: its program, its input, and the number of steps that it noted.
abbrev pub view_of : Inside → Seen
view_of c = record { program = c.checked.now; input = c.input.now; taken = c.taken }

-- The program is sound and the input valid, and what the log keeps and counts is that of the state after the steps
-- that it noted.
pub record IsLogging (c : Inside) : Type 0 where
  pub sound : IsSound c.checked.now
  pub valid : IsValid c.checked.now c.input.now
  pub short : longest c.checked.now < 2 ^ 64
  pub entries : c.entries ≡ (run c.checked.now c.input.now c.taken).counts.entries
  pub ended : c.ended ≡ has_ended (run c.checked.now c.input.now c.taken)
  pub kept : AreKeptOf c.input.now.image (seen_at c.region c.input.now.image)
      (run c.checked.now c.input.now c.taken).lines
  pub within : WaitsWithin c.region.waiting c.input.now.image
