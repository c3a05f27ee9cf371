-- Parts of stores, seen by their offsets and bytes alone.
use Rattle.std.specs.Prelude.{ℕ, ◌+◌, Bool, ◌&&◌, nat_le, nat_lt, length}
use Rattle.hip_runs.specs.State.{StorePart}
use Rattle.hip_repairs.specs.Harmless.{Content}

abbrev pub content_of : StorePart → Content
content_of p = record { offset = p.offset; bytes = p.bytes }

abbrev pub content_covers : Content → ℕ → Bool
content_covers c b = nat_le c.offset b && nat_lt b (c.offset + length c.bytes)
