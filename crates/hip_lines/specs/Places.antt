-- Queues in a list, and the directory that gives the place of each line's queue in it.
use Rattle.std.specs.Prelude.{◌≡◌, ◌≢◌, ℕ, zero, suc, ◌+◌, ◌-◌, ◌<◌, ◌≤◌, List, length, Option, Some, None, slice_get}
use Rattle.hip_directory.specs.declared.directory.Directory.{Directory}
use Rattle.hip_directory.specs.Directories.{number_at}
use Rattle.hip_lines.specs.declared.part.Part.{Part}
use Rattle.hip_lines.specs.declared.queue.Queue.{Queue}
use Rattle.hip_lines.specs.Pending.{Pending, none_pending}
use Rattle.hip_lines.specs.Queues.{pending_in, QueueHasRoom}

-- The queue at a place, counted from 1. There is no queue at place 0.
abbrev pub at_place : List Queue → ℕ → Option Queue
at_place qs zero = None
at_place qs (suc n) = slice_get qs n

-- The queue of line j, if it has one.
abbrev pub queue_in : Directory → List Queue → ℕ → Option Queue
queue_in d qs j = at_place qs (number_at d j)

-- Each queue that the directory gives for a line exists, and has the line's number.
pub record QueuesArePlaced (d : Directory) (qs : List Queue) : Type 0 where
  pub within : (j : ℕ) → number_at d j ≤ length qs
  pub numbered : (j : ℕ) (q : Queue) → queue_in d qs j ≡ Some q → q.line ≡ j

-- All queues but the one at a place, counted from 0, stay, and at most one queue is added.
pub record KeepsOthers (place : ℕ) (old new : List Queue) : Type 0 where
  pub others : (k : ℕ) → k ≢ place → slice_get new k ≡ slice_get old k
  pub least : length old ≤ length new
  pub most : length new ≤ length old + 1

-- The pending parts of the queue at a place, counted from 0, are changed, and nothing else is.
pub record ChangesPlace (change : Pending Part → Pending Part) (place : ℕ) (old new : List Queue) : Type 0 where
  pub others : (k : ℕ) → k ≢ place → slice_get new k ≡ slice_get old k
  pub count : length new ≡ length old
  pub here : (q : Queue) → slice_get old place ≡ Some q → (r : Queue) × (slice_get new place ≡ Some r)
      × (r.line ≡ q.line) × (pending_in r ≡ change (pending_in q))

-- The queue at a place, counted from 0, is an empty queue of line `number` that has room for a part.
pub record IsFreshAt (number place : ℕ) (qs : List Queue) : Type 0 where
  pub queue : Queue
  pub at : slice_get qs place ≡ Some queue
  pub numbered : queue.line ≡ number
  pub empty : pending_in queue ≡ none_pending
  pub room : QueueHasRoom queue

-- At a place, counted from 1, there is an empty queue with room, and no line has this place.
pub record IsFresh (d : Directory) (number place : ℕ) (qs : List Queue) : Type 0 where
  pub some : 0 < place
  pub free : (j : ℕ) → number_at d j ≢ place
  pub fresh : IsFreshAt number (place - 1) qs
