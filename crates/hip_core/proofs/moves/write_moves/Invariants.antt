use Rattle.std.proofs.Common.{◌≡◌, ◌≤◌, drop, length}
use Rattle.hip_core.specs.Puts.{put_values}
use Rattle.hip_core.proofs.moves.write_moves.Given as goal

abbrev pub invariant-writing : goal.invariant-writing
invariant-writing l = record {
  here : l.at ≤ length l.moves;
  slots : l.slots ≡ put_values l.base (drop l.at l.moves) (drop l.at l.values) l.initial.slots;
}

abbrev pub decreases-writing : goal.decreases-writing
decreases-writing l = l.at
