-- What the event of a step does to what is kept of the region.
use Rattle.std.specs.Prelude.{ℕ, ◌-◌, cond}
use Rattle.hip_lines.specs.Line.{has_bytes}
use Rattle.hip_runs.specs.declared.event.Event.{Event}
use Rattle.hip_runs.specs.declared.event.Event.TheVariants as events
use Rattle.hip_crash.specs.Kept.{Kept, with_store, with_flush, with_fence}

-- Line j of a region at a base, after a step with this event.
abbrev pub noted : ℕ → Event → ℕ → Kept → Kept
noted base (events.Store a v n) j k =
    cond (has_bytes j (a - base) n) (with_store (record { offset = a - base; value = v; size = n }) k) k
noted base (events.Flush line size) j k = cond (has_bytes j (line - base) size) (with_flush k) k
noted base (events.Persist line size) j k = with_fence j (cond (has_bytes j (line - base) size) (with_flush k) k)
noted base events.Fence j k = with_fence j k
noted base _ j k = k
