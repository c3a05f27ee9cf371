-- The queues of the lines that hold something, by line number.
use Rattle.std.specs.Prelude.{◌≡◌, ◌≢◌, ℕ, ◌+◌, ◌*◌, ◌<◌, ◌≤◌, ◌^◌, cond, true, nat_lt, List, length, Vec, vec_capacity, Option, Some, None, IsSome}
use Rattle.std.specs.Global.{Global}
use Rattle.std.specs.List.{list_any, IsDistinct}
use Rattle.std.specs.Ordering.{nat_cmp, eq_by_cmp}
use Rattle.std.specs.BTreeMap.{is_at}
use Rattle.hip_types.specs.declared.areas.TheConstants.{LINE_SIZE}
use Rattle.hip_lines.specs.Line.{has_bytes}
use Rattle.hip_lines.specs.Pending.{Pending, none_pending, pending_flushed}
use Rattle.hip_lines.specs.declared.part.Part.{Part}
use Rattle.hip_lines.specs.declared.queue.Queue.{Queue}
use Rattle.hip_lines.specs.declared.queues.Queues.{Queues}
use Rattle.hip_lines.specs.Places.{queue_in}
use Rattle.hip_lines.specs.Queues.{pending_in, QueueHasRoom}

-- The queue of line j, if it has one.
unfoldable pub queue_at : Queues → ℕ → Option Queue
queue_at m j = queue_in m.directory m.queues.items j

-- How many queues were made.
unfoldable pub count_of : Queues → ℕ
count_of m = length m.queues.items

-- A line without a queue holds nothing.
abbrev pub pending_by : Option Queue → Pending Part
pending_by None = none_pending
pending_by (Some q) = pending_in q

-- The pending parts of line j. A line without a queue has none.
abbrev pub pending_at : Queues → ℕ → Pending Part
pending_at m j = pending_by (queue_at m j)

-- There is a queue, and it has room for one more part.
abbrev pub HasRoomBy : Option Queue → Type 0
HasRoomBy None = ⊥
HasRoomBy (Some q) = QueueHasRoom q

-- Line j has a queue, with room for one more part.
abbrev pub HasRoomAt : Queues → ℕ → Type 0
HasRoomAt m j = HasRoomBy (queue_at m j)

-- There is room for the parts of a store, if one is given.
abbrev pub HasRoomFor : Queues → Option (ℕ × ℕ) → Type 0
HasRoomFor m None = Unit {0}
HasRoomFor m (Some (o, n)) = (j : ℕ) → has_bytes j o n ≡ true → HasRoomAt m j

-- Every line that has a queue is below line n.
abbrev pub AreBelow : ℕ → Queues → Type 0
AreBelow n m = (j : ℕ) → IsSome (queue_at m j) → j < n

-- The n bytes from offset o are at least one, and they end below 2 ^ 64.
abbrev pub IsRange : ℕ → ℕ → Type 0
IsRange o n = (0 < n) × (o + n < 2 ^ 64)

-- The list has the lines that hold flushed parts, each once.
pub record ListsFlushed (lines : List ℕ) (m : Queues) : Type 0 where
  pub distinct : IsDistinct (eq_by_cmp nat_cmp) lines
  pub listed : (j : ℕ) → list_any (is_at (nat_cmp j)) lines ≡ nat_lt 0 (pending_at m j).flushed

-- The list of lines has capacity for as many lines as there are queues.
abbrev pub HasSpare : Vec ℕ Global → Queues → Type 0
HasSpare lines m = count_of m ≤ vec_capacity lines

-- The list has the lines that hold flushed parts, and has capacity for as many lines as there are queues.
abbrev pub ListsWithSpare : Vec ℕ Global → Queues → Type 0
ListsWithSpare lines m = ListsFlushed lines.items m × HasSpare lines m

-- The new list has the lines that hold flushed parts, and has the capacity of the old list.
abbrev pub RelistsFlushed : Vec ℕ Global → Vec ℕ Global → Queues → Type 0
RelistsFlushed lines news m = ListsFlushed news.items m × (vec_capacity news ≡ vec_capacity lines)

-- The list of lines stays. If it had capacity for as many lines as there were queues, it has capacity for as many as
-- there are now.
abbrev pub KeepsList : Vec ℕ Global → Vec ℕ Global → Queues → Queues → Type 0
KeepsList lines news old new = (news.items ≡ lines.items) × (HasSpare lines old → HasSpare news new)

-- Only room was made: the pending parts stay, and so do the existing room and the list of the lines that hold flushed
-- parts. A new queue is that of a line that begins before byte `end`.
pub record MakesRoom (end : ℕ) (lines news : Vec ℕ Global) (old new : Queues) : Type 0 where
  pub same : (j : ℕ) → pending_at new j ≡ pending_at old j
  pub kept : (j : ℕ) → HasRoomAt old j → HasRoomAt new j
  pub below : (n : ℕ) → end ≤ LINE_SIZE * n → AreBelow n old → AreBelow n new
  pub list : KeepsList lines news old new

-- The line's pending parts are changed, and nothing else is.
pub record ChangesLine (change : Pending Part → Pending Part) (line : ℕ) (old new : Queues) : Type 0 where
  pub here : pending_at new line ≡ change (pending_at old line)
  pub others : (j : ℕ) → j ≢ line → queue_at new j ≡ queue_at old j
  pub below : (n : ℕ) → AreBelow n old → AreBelow n new
  pub count : count_of new ≡ count_of old

-- The lines of a range are flushed, and nothing else is changed.
pub record FlushesLines (o n : ℕ) (old new : Queues) : Type 0 where
  pub pending : (j : ℕ) → pending_at new j ≡ cond (has_bytes j o n) (pending_flushed (pending_at old j))
      (pending_at old j)
  pub below : (k : ℕ) → AreBelow k old → AreBelow k new
  pub count : count_of new ≡ count_of old

-- The pending parts of some line have changed.
pub record ChangesSome (old new : Queues) : Type 0 where
  pub line : ℕ
  pub there : IsSome (queue_at old line)
  pub differs : pending_at new line ≢ pending_at old line

-- The line has an empty queue with room for a part, and nothing else is changed.
pub record GivesQueue (line : ℕ) (old new : Queues) : Type 0 where
  pub queue : Queue
  pub here : queue_at new line ≡ Some queue
  pub empty : pending_in queue ≡ none_pending
  pub room : QueueHasRoom queue
  pub others : (j : ℕ) → j ≢ line → queue_at new j ≡ queue_at old j
