use Rattle.std.proofs.Common.{length, ◌≤◌, ◌+◌, ◌*◌}
use Rattle.hip_vol.specs.Numbered.{IsBelowAll, room}
use Rattle.hip_vol.proofs.propagation.propagate.Given as goal

abbrev pub invariant-queued : goal.invariant-queued
invariant-queued l = record { below : IsBelowAll l.rules l.levels; less : room l.levels ≤ room l.initial.levels }

abbrev pub decreases-queued : goal.decreases-queued
decreases-queued l = length l.queue + 2 * room l.levels
