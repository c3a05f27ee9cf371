-- What contracts see of the lines of a region: the pending parts of each line, and the room that was made for a store.
use Rattle.std.specs.Prelude.{◌≡◌, ℕ, zero, suc, ◌+◌, ◌-◌, ◌*◌, ◌/◌, ◌<◌, ◌≤◌, Bool, ◌&&◌, nat_lt, nat_le, List, [], ◌++◌, length, map, replicate, Option, Some, None, option_map, option_and_then, option_to_list, slice_get}
use Rattle.hip_lines.specs.Line.{start_in, end_in, change_range}
use Rattle.hip_lines.specs.Loose.{last_over}
use Rattle.hip_lines.specs.Pending.{Pending, none_pending, pending_with, pending_flushed, pending_fenced}
use Rattle.hip_lines.specs.declared.part.Part.{Part}
use Rattle.hip_lines.specs.declared.part.LooseByte.{LooseByte}
use Rattle.hip_types.specs.declared.areas.TheConstants.{LINE_SIZE}

-- The pending parts of each line, and the offset and the size of the store that room was made for.
pub record Held : Type 0 where
  pub lines : List (Pending Part)
  pub room : Option (ℕ × ℕ)

-- A store of n bytes at offset o has 1 to 8 bytes, all in these lines.
abbrev pub LiesIn : List (Pending Part) → ℕ → ℕ → Type 0
LiesIn ws o n = (0 < n) × (n ≤ 8) × (o + n ≤ LINE_SIZE * length ws)

-- The part covers byte b.
abbrev pub part_covers : Part → ℕ → Bool
part_covers p b = nat_le p.offset b && nat_lt b (p.offset + p.size)

-- The part in line j of a store of n bytes at offset o.
abbrev pub part_in : ℕ → ℕ → ℕ → ℕ → Part
part_in o n tag j = record { offset = start_in j o; size = end_in j o n - start_in j o; tag = tag }

-- The pending parts of all lines after a store of n bytes at offset o with this tag.
abbrev pub pending_stored : ℕ → ℕ → ℕ → List (Pending Part) → List (Pending Part)
pending_stored o n tag ws = change_range (λ j w. pending_with (part_in o n tag j) w) o n ws

-- The pending parts of all lines after a flush of the n bytes at offset o.
abbrev pub pending_flushed_all : ℕ → ℕ → List (Pending Part) → List (Pending Part)
pending_flushed_all o n ws = change_range (λ _ w. pending_flushed w) o n ws

-- The pending parts of all lines after a fence.
abbrev pub pending_fenced_all : List (Pending Part) → List (Pending Part)
pending_fenced_all ws = map pending_fenced ws

-- A list of n lines without pending parts.
unfoldable pub none_pending_all : ℕ → List (Pending Part)
none_pending_all n = replicate n none_pending

-- The loose byte at offset b of a line, by the last pending part over it.
abbrev pub loose_by : Pending Part → ℕ → (ℕ × Part) → LooseByte
loose_by w b f = record { offset = b; tag = f.1.tag; flushed = nat_lt f.0 w.flushed }

-- The loose byte at offset b, by the last pending part over it in its line; none if no pending part covers it.
abbrev pub loose_in : Pending Part → ℕ → Option LooseByte
loose_in w b = option_map (loose_by w b) (last_over part_covers b w.parts)

-- The loose byte at offset b, by the line of a region that has it; `None` after the last line.
abbrev pub loose_at : List (Pending Part) → ℕ → Option LooseByte
loose_at ws b = option_and_then (λ w. loose_in w b) (slice_get ws (b / LINE_SIZE))

-- The loose bytes of the n bytes from offset o, ascending.
abbrev pub loose_from : List (Pending Part) → ℕ → ℕ → List LooseByte
loose_from ws o zero = []
loose_from ws o (suc n) = option_to_list (loose_at ws o) ++ loose_from ws (suc o) n

-- A call that changes no line leaves the room as it is, and one that changes lines leaves no room.
pub record KeepsRoom (old new : Held) : Type 0 where
  pub unchanged : new.lines ≡ old.lines → new.room ≡ old.room
  pub changed : ¬ (new.lines ≡ old.lines) → new.room ≡ None
