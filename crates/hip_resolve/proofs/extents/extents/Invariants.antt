use Rattle.std.proofs.Common.{◌≡◌, ◌≤◌, length}
use Rattle.hip_resolve.specs.Extents.{slots_to}
use Rattle.hip_resolve.proofs.Walks.{Walked}
use Rattle.hip_resolve.proofs.extents.extents.Given as goal

pub record Invariant (l : goal.Live-passing) : Type 0 where
  pub within : l.at ≤ length l.function.blocks
  pub as_long : length l.extents ≡ length l.function.blocks
  pub slots : l.walk.slots ≡ slots_to l.function l.at
  pub walked : Walked l.function l.extents l.at l.walk.lowest l.walk.extent

abbrev pub invariant-passing : goal.invariant-passing
invariant-passing l = Invariant l

abbrev pub decreases-passing : goal.decreases-passing
decreases-passing l = l.at
