use Rattle.std.proofs.Common.{refl}
use Rattle.hip_lines.proofs.kept.ensure_room.Goals as goal

pub returns-then-is_room_for-clause-makes : goal.returns-then-is_room_for-clause-makes
returns-then-is_room_for-clause-makes c = record { same = λ j. refl; kept = λ j h. h; below = λ n h b. b; list = (refl, λ h. h) }
