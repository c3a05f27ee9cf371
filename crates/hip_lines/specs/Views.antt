-- What the lines of a region represent.
use Rattle.std.specs.Prelude.{ℕ, zero, suc, ◌≤◌, ◌^◌, List, [], ◌∷◌}
use Rattle.hip_lines.specs.Pending.{Pending}
use Rattle.hip_lines.specs.Parts.{Held}
use Rattle.hip_lines.specs.Kept.{pending_at, HasRoomFor, HasSpare, AreBelow, ListsFlushed}
use Rattle.hip_lines.specs.declared.part.Part.{Part}
use Rattle.hip_lines.specs.declared.queues.Queues.{Queues}
use Rattle.hip_lines.specs.declared.lines.Lines.TheInside.{Inside}

-- The values of f at the n numbers from j.
abbrev pub table_from : {A : Type 0} → (ℕ → A) → ℕ → ℕ → List A
table_from f j zero = []
table_from f j (suc n) = f j ∷ table_from f (suc j) n

-- The pending parts of each of the first n lines, in their order.
unfoldable pub lines_of : ℕ → Queues → List (Pending Part)
lines_of n m = table_from (pending_at m) 0 n

-- The pending parts of each line of the region, and the room that was made.
abbrev pub held_of : Inside → Held
held_of s = record { lines = lines_of s.count s.queues; room = s.room }

-- There are at most 2 ^ 20 lines, and only these have queues. The list has each line with flushed parts once, and has
-- capacity for as many lines as there are queues. If room was made for a store, that room is still there.
pub record QueuesAreKept (s : Inside) : Type 0 where
  pub small : s.count ≤ 2 ^ 20
  pub below : AreBelow s.count s.queues
  pub flushed : ListsFlushed s.flushed.items s.queues
  pub spare : HasSpare s.flushed s.queues
  pub room : HasRoomFor s.queues s.room
