-- What contracts see of a `Ram`: the base of the region, and the bytes of the three areas that are valid.
use Rattle.std.specs.Prelude.{◌≡◌, ℕ, zero, suc, ◌+◌, ◌-◌, ◌%◌, ◌^◌, ◌≤◌, Bool, true, cond, ◌&&◌, ◌||◌, ◌==◌, List, [], ◌∷◌, ◌++◌, length, take, slice_index, Option, Some, None, Result, Ok, Err}
use Rattle.std.specs.Int.{next_multiple_of}
use Rattle.hip_mem.specs.declared.refusal.MemTrap.{MemTrap}
use Rattle.hip_mem.specs.declared.refusal.MemTrap.TheVariants.{Misaligned, BadAddress}
use Rattle.hip_mem.specs.Memory.{Write, byte_written, is_in, Memory, byte_at}
use Rattle.hip_types.specs.Areas.{volatile_start, stack_start}
use Rattle.hip_types.specs.Bytes.{little_endian, zeros}
use Rattle.hip_types.specs.declared.limits.TheConstants.{LARGEST_REGION, LARGEST_VOLATILE}
use Rattle.hip_types.specs.declared.areas.TheConstants.{STACK_SIZE}

-- The volatile globals, the stack below the mark, and the region.
pub record Areas : Type 0 where
  pub base : ℕ
  pub volatile : List ℕ
  pub stack : List ℕ
  pub region : List ℕ

-- The sizes and places of the areas of every `Ram`.
pub record IsLaidOut (r : Areas) : Type 0 where
  pub low : 2 ^ 32 ≤ r.base
  pub high : r.base ≤ 2 ^ 46
  pub aligned : r.base % 4096 ≡ 0
  pub volatile : length r.volatile ≤ LARGEST_VOLATILE
  pub stack : length r.stack ≤ STACK_SIZE
  pub region : length r.region ≤ LARGEST_REGION

-- The end of the stack's valid bytes.
abbrev pub mark_of : Areas → ℕ
mark_of r = stack_start + length r.stack

-- Whether the byte at address a is one of the volatile globals, of the stack below the mark, or of the region.
abbrev pub is_valid : Areas → ℕ → Bool
is_valid r a = is_in volatile_start r.volatile a || (is_in stack_start r.stack a || is_in r.base r.region a)

-- Whether the n bytes from address a on are all valid.
abbrev pub are_valid : Areas → ℕ → ℕ → Bool
are_valid r a zero = true
are_valid r a (suc n) = is_valid r a && are_valid r (suc a) n

-- The byte at a valid address.
abbrev pub byte_in : Areas → ℕ → ℕ
byte_in r a =
    cond (is_in volatile_start r.volatile a) (slice_index r.volatile (a - volatile_start))
    (cond (is_in stack_start r.stack a) (slice_index r.stack (a - stack_start)) (slice_index r.region (a - r.base)))

-- The n bytes from address a on, if all are valid.
abbrev pub bytes_in : Areas → ℕ → ℕ → List ℕ
bytes_in r a zero = []
bytes_in r a (suc n) = byte_in r a ∷ bytes_in r (suc a) n

-- Why an access of n bytes at address a traps: its address is misaligned, or else one of its bytes is not valid. `None`
-- if it does not trap.
abbrev pub access_trap : Areas → ℕ → ℕ → ℕ → Option MemTrap
access_trap r a n align = cond (a % align == 0) (cond (are_valid r a n) None (Some BadAddress)) (Some Misaligned)

-- The trap if there is one, else the value.
abbrev pub or_trap : {A : Type 0} → Option MemTrap → A → Result A MemTrap
or_trap None x = Ok x
or_trap (Some t) x = Err t

-- What a load of n bytes at address a gives.
abbrev pub loaded : Areas → ℕ → ℕ → ℕ → Result ℕ MemTrap
loaded r a n align = or_trap (access_trap r a n align) (little_endian (bytes_in r a n))

-- The bytes of an area after a write. The area begins at an address.
abbrev pub area_written : Write → ℕ → List ℕ → List ℕ
area_written w start [] = []
area_written w start (x ∷ xs) = byte_written w start x ∷ area_written w (suc start) xs

-- The areas after a write. Bytes of the write that are in no area change nothing.
abbrev pub after_write : Write → Areas → Areas
after_write w r =
    record {
      base = r.base;
      volatile = area_written w volatile_start r.volatile;
      stack = area_written w stack_start r.stack;
      region = area_written w r.base r.region;
    }

-- The address of a new stack block: the next multiple of its alignment, from the mark on.
abbrev pub block_address : Areas → ℕ → ℕ
block_address r align = next_multiple_of (mark_of r) align

-- The mark after a new stack block of a size: the end of the block. It may be past the end of the stack.
abbrev pub pushed_mark : Areas → ℕ → ℕ → ℕ
pushed_mark r size align = block_address r align + size

-- The areas after a new stack block; the bytes from the old mark up to the new one are zeros.
abbrev pub after_push : ℕ → Areas → Areas
after_push mark r =
    record { base = r.base; volatile = r.volatile; stack = r.stack ++ zeros (mark - mark_of r); region = r.region }

-- The areas without the bytes from a new mark on.
abbrev pub after_pop : ℕ → Areas → Areas
after_pop mark r =
    record { base = r.base; volatile = r.volatile; stack = take (mark - stack_start) r.stack; region = r.region }

-- The areas hold the bytes of the memory.
pub record Holds (r : Areas) (m : Memory) : Type 0 where
  pub base : r.base ≡ m.base
  pub volatile : length r.volatile ≡ length m.volatile
  pub region : length r.region ≡ length m.region
  pub bytes : (a : ℕ) → is_valid r a ≡ true → byte_in r a ≡ byte_at m a
