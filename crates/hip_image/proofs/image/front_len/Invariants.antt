use Rattle.std.proofs.Common.{◌≡◌, ◌≤◌, ◌-◌, ◌++◌, length, replicate, take}
use Rattle.hip_image.proofs.image.front_len.Given as goal

abbrev pub invariant-zeros : goal.invariant-zeros
invariant-zeros l = (l.front ≤ length l.bytes) × (l.bytes ≡ take l.front l.bytes ++ replicate (length l.bytes - l.front) 0)

abbrev pub decreases-zeros : goal.decreases-zeros
decreases-zeros l = l.front
