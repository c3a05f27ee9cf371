-- What the queue of a line represents.
use Rattle.std.specs.Prelude.{◌+◌, ◌<◌, ◌^◌, vec_len, vec_capacity}
use Rattle.hip_lines.specs.declared.part.Part.{Part}
use Rattle.hip_lines.specs.declared.queue.Queue.{Queue}
use Rattle.hip_lines.specs.Pending.{Pending}

-- The pending parts of a queue's line.
abbrev pub pending_in : Queue → Pending Part
pending_in q = q.history.pending

-- One more part can be added without allocating memory.
pub record QueueHasRoom (q : Queue) : Type 0 where
  pub capacity : vec_len q.tags < vec_capacity q.tags
  pub numbers : vec_len q.tags + 1 < 2 ^ 8
