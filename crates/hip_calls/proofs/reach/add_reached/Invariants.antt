use Rattle.std.proofs.Common.{◌≡◌, ◌-◌, length}
use Rattle.hip_calls.specs.Reach.{reached}
use Rattle.hip_calls.proofs.reach.add_reached.Given as goal

abbrev pub invariant-places : goal.invariant-places
invariant-places l = reached l.functions (length l.functions.functions - l.place) l.place l.seen.keys ≡ reached l.functions (length l.functions.functions) 0 l.initial.seen.keys
