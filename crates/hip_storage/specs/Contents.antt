-- What contracts see of the storage of a run, and how the actions of a step change it and are seen from outside.
use Rattle.std.specs.Prelude.{ℕ, Bool, cond, nat_le, [], Option, Some, None, option_map}
use Rattle.hip_tree.specs.declared.program.Program.{Program}
use Rattle.hip_mem.specs.Areas as areas
use Rattle.hip_mem.specs.Areas.{Areas, after_write, are_valid, pushed_mark}
use Rattle.hip_types.specs.Bytes.{bytes_of, little_endian}
use Rattle.hip_types.specs.Areas.{stack_end}
use Rattle.hip_mem.specs.declared.refusal.MemTrap.{MemTrap}
use Rattle.hip_mem.specs.declared.refusal.MemTrap.TheVariants as mem_traps
use Rattle.hip_globals.specs.Initial.{volatile_bytes}
use Rattle.hip_runs.specs.Actions.{Flushes, Persists, in_region}
use Rattle.hip_runs.specs.Step.{event_of}
use Rattle.hip_runs.specs.declared.event.Event.{Event}
use Rattle.hip_runs.specs.declared.event.Event.TheVariants as events
use Rattle.hip_runs.specs.declared.event.TrapKind.{TrapKind}
use Rattle.hip_runs.specs.declared.event.TrapKind.TheVariants as traps
use Rattle.hip_runs.specs.declared.input.Input.{Input}

-- The contents of a storage: the bytes of the memory.
pub record Contents : Type 0 where
  pub areas : Areas

-- The contents before the first step of a run: the initial bytes and an empty stack.
abbrev pub initial : Program → Input → Contents
initial P I =
    record { areas = record { base = I.base; volatile = volatile_bytes P I.base; stack = []; region = I.image } }

-- ---- the region

-- The region of the contents, as the region of an input.
abbrev pub region_of : Contents → Input
region_of s = record { base = s.areas.base; image = s.areas.region; numbers = []; limit = 0 }

-- Whether the n bytes from address a on are in the region.
abbrev pub lies_in_region : Contents → ℕ → ℕ → Bool
lies_in_region s a n = in_region (region_of s) a n

-- ---- traps

-- The trap of a run for each trap of the memory.
abbrev pub kind_of : MemTrap → TrapKind
kind_of mem_traps.Misaligned = traps.Misaligned
kind_of mem_traps.BadAddress = traps.Address

-- Why an access of n bytes traps, if it traps: first for its alignment, then for its bytes.
abbrev pub access_trap : Contents → ℕ → ℕ → ℕ → Option TrapKind
access_trap s a n align = option_map kind_of (areas.access_trap s.areas a n align)

-- A flush of a range traps if some byte of the range is not valid; a range of no bytes never traps.
abbrev pub range_trap : Contents → ℕ → ℕ → Option TrapKind
range_trap s a n = cond (are_valid s.areas a n) None (Some traps.Address)

-- A new block traps if it would end after the stack's end.
abbrev pub block_trap : Contents → ℕ → ℕ → Option TrapKind
block_trap s size align = cond (nat_le (pushed_mark s.areas size align) stack_end) None (Some traps.Stack)

-- ---- changes

-- The contents after a store of the low n bytes of a number from address a on.
abbrev pub after_store : ℕ → ℕ → ℕ → Contents → Contents
after_store a n value s = record { areas = after_write (record { addr = a; bytes = bytes_of n value }) s.areas }

-- The stack with a new block.
abbrev pub after_push : ℕ → ℕ → Contents → Contents
after_push size align s = record s { areas = areas.after_push (pushed_mark s.areas size align) s.areas }

-- The stack with its mark set back to this one: the bytes from the mark on are gone.
abbrev pub after_pop : ℕ → Contents → Contents
after_pop mark s = record s { areas = areas.after_pop mark s.areas }

-- ---- what is seen from outside

-- A store within the region is seen, with the number of its n bytes; any other is not seen.
abbrev pub store_event : Contents → ℕ → ℕ → ℕ → Event
store_event s a n value =
    cond (lies_in_region s a n) (events.Store a (little_endian (bytes_of n value)) n) events.Quiet

-- A flush is seen with the lines that have a byte of the range; a flush of no bytes, or not within the region, is not
-- seen.
abbrev pub flush_event : Contents → ℕ → ℕ → Event
flush_event s a n = event_of (region_of s) [] (Flushes a n)

-- A persist is seen with the lines that have a byte of the range; one that flushes no line is seen as a fence.
abbrev pub persist_event : Contents → ℕ → ℕ → Event
persist_event s a n = event_of (region_of s) [] (Persists a n)

-- A flush of lines with a fence after it is seen as a persist; if no line is flushed, the fence is seen.
abbrev pub with_fence : Event → Event
with_fence (events.Flush line size) = events.Persist line size
with_fence _ = events.Fence
