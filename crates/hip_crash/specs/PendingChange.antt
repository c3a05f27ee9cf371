-- The last store or flush, which is not taken up into the kept lines yet.
use Rattle.std.specs.Prelude.{ℕ, ◌+◌, ◌≤◌, ◌&&◌, cond, nat_le, List, length, Option, Some, None}
use Rattle.hip_lines.specs.Line.{has_bytes}
use Rattle.hip_crash.specs.Kept.{Kept, with_store, with_flush}
use Rattle.hip_crash.specs.declared.values.StoredValue.{StoredValue}
use Rattle.hip_crash.specs.declared.pending_change.Waiting.{Waiting}
use Rattle.hip_crash.specs.declared.pending_change.Waiting.TheVariants as waits

-- Line j with what waits to be taken up.
abbrev pub with_waiting : Waiting → ℕ → Kept → Kept
with_waiting waits.Nothing j k = k
with_waiting (waits.Store v from) j k = cond (has_bytes j v.offset v.size && nat_le from j) (with_store v k) k
with_waiting (waits.Flush offset len) j k = cond (has_bytes j offset len) (with_flush k) k

-- What waits lies in the region.
abbrev pub WaitsWithin : Waiting → List ℕ → Type 0
WaitsWithin waits.Nothing image = Unit {0}
WaitsWithin (waits.Store v from) image = v.offset + v.size ≤ length image
WaitsWithin (waits.Flush offset len) image = offset + len ≤ length image

-- The store whose part in line j waits, if one does.
abbrev pub waiting_in : Waiting → ℕ → Option StoredValue
waiting_in (waits.Store v from) j = cond (has_bytes j v.offset v.size && nat_le from j) (Some v) None
waiting_in _ j = None
