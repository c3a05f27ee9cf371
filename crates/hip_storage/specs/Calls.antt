-- What the calls of a storage do if they succeed, and what a refusal says.
use Rattle.std.specs.Prelude.{◌≡◌, ℕ, Option, Some, None}
use Rattle.hip_mem.specs.Areas.{bytes_in, block_address}
use Rattle.hip_types.specs.Bytes.{little_endian}
use Rattle.hip_runs.specs.declared.event.Event.{Event}
use Rattle.hip_runs.specs.declared.event.TrapKind.{TrapKind}
use Rattle.hip_storage.specs.Contents.{Contents, access_trap, block_trap, range_trap, after_store, after_push, store_event, flush_event, persist_event}
use Rattle.hip_storage.specs.declared.refusal.StorageRefusal.{StorageRefusal}
use Rattle.hip_storage.specs.declared.refusal.StorageRefusal.TheVariants.{Trap, NoMemory}

-- The value is the number of the n bytes from address a on, the lowest first, and the access does not trap.
pub record HasLoaded (s : Contents) (a n align value : ℕ) : Type 0 where
  pub allowed : access_trap s a n align ≡ None
  pub loaded : value ≡ little_endian (bytes_in s.areas a n)

-- The low n bytes of a number were stored.
pub record HasStored (old new : Contents) (event : Event) (a n align value : ℕ) : Type 0 where
  pub allowed : access_trap old a n align ≡ None
  pub contents : new ≡ after_store a n value old
  pub seen : event ≡ store_event old a n value

-- A block was made on the stack.
pub record HasPushed (old new : Contents) (block size align : ℕ) : Type 0 where
  pub allowed : block_trap old size align ≡ None
  pub contents : new ≡ after_push size align old
  pub address : block ≡ block_address old.areas align

-- The cache lines of a range may be flushed, and this event shows the flush.
pub record ShowsFlush (s : Contents) (event : Event) (a n : ℕ) : Type 0 where
  pub allowed : range_trap s a n ≡ None
  pub seen : event ≡ flush_event s a n

-- The cache lines of a range may be flushed with a fence after it, and this event shows the persist.
pub record ShowsPersist (s : Contents) (event : Event) (a n : ℕ) : Type 0 where
  pub allowed : range_trap s a n ≡ None
  pub seen : event ≡ persist_event s a n

-- A refusal is the trap of the run, or out of memory.
abbrev pub IsRefusedFor : Option TrapKind → StorageRefusal → Type 0
IsRefusedFor trap (Trap kind) = trap ≡ Some kind
IsRefusedFor trap NoMemory = Unit {0}
