-- The loose bytes of a range, by the queues of its lines.
use Rattle.std.specs.Prelude.{◌≡◌, ℕ, zero, suc, ◌+◌, ◌-◌, ◌*◌, ◌/◌, ◌<◌, ◌≤◌, List, [], ◌++◌, Option, Some, None, option_to_list}
use Rattle.hip_lines.specs.declared.part.Part.{Part}
use Rattle.hip_lines.specs.declared.part.LooseByte.{LooseByte}
use Rattle.hip_lines.specs.declared.queue.Queue.{Queue}
use Rattle.hip_lines.specs.declared.queues.Queues.{Queues}
use Rattle.hip_lines.specs.Pending.{Pending}
use Rattle.hip_lines.specs.Parts.{loose_in}
use Rattle.hip_lines.specs.Kept.{queue_at, pending_at}
use Rattle.hip_types.specs.declared.areas.TheConstants.{LINE_SIZE}

-- No byte from `from` up to `to` is loose.
abbrev pub NoneLoose : Pending Part → ℕ → ℕ → Type 0
NoneLoose w from to = (b : ℕ) → from ≤ b → b < to → loose_in w b ≡ None

-- The first loose byte from `from` up to `to`, if there is one.
abbrev pub IsFirstLoose : Pending Part → ℕ → ℕ → Option LooseByte → Type 0
IsFirstLoose w from to None = NoneLoose w from to
IsFirstLoose w from to (Some f) =
    (from ≤ f.offset) × (f.offset < to) × (loose_in w f.offset ≡ Some f) × NoneLoose w from f.offset

-- The loose bytes of the n bytes from offset o, ascending.
abbrev pub loose_of : Queues → ℕ → ℕ → List LooseByte
loose_of m o zero = []
loose_of m o (suc n) = option_to_list (loose_in (pending_at m (o / LINE_SIZE)) o) ++ loose_of m (suc o) n

-- How many lines have a byte before an offset.
abbrev pub lines_to : ℕ → ℕ
lines_to o = (o + (LINE_SIZE - 1)) / LINE_SIZE

-- No line from `from` up to `to` has a queue.
abbrev pub NoQueues : Queues → ℕ → ℕ → Type 0
NoQueues m from to = (j : ℕ) → from ≤ j → j < to → queue_at m j ≡ None

-- The first queue of a line from `from` up to `to`, if there is one.
abbrev pub IsQueueFrom : Queues → ℕ → ℕ → Option Queue → Type 0
IsQueueFrom m from to None = NoQueues m from to
IsQueueFrom m from to (Some q) = (queue_at m q.line ≡ Some q) × (from ≤ q.line) × (q.line < to)
    × NoQueues m from q.line

-- The queue of the line of byte `at`, where a search continues, or of the next line below `to` that has a queue.
abbrev pub IsNextQueue : Queues → ℕ → ℕ → Option Queue → Type 0
IsNextQueue m at to None = NoQueues m (at / LINE_SIZE) to
IsNextQueue m at to (Some q) =
    (queue_at m q.line ≡ Some q) × (at ≤ LINE_SIZE * q.line + LINE_SIZE) × (q.line < to)
    × NoQueues m (at / LINE_SIZE) q.line
