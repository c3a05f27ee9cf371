-- The memory of a machine: its initial bytes and the list of all writes so far.
use Rattle.std.specs.Prelude.{ℕ, suc, zero, ◌+◌, ◌-◌, Bool, cond, ◌&&◌, nat_lt, nat_le, List, [], ◌∷◌, ◌++◌, length, slice_index}
use Rattle.hip_types.specs.Areas.{volatile_start}

-- Whether address a is one of the `size` addresses from `start` on; a range of size 0 contains none.
abbrev pub range_contains : ℕ → ℕ → ℕ → Bool
range_contains start size a = nat_le start a && nat_lt a (start + size)

-- Bytes that were written from an address on: a store's, or the zeros of a new stack block.
pub record Write : Type 0 where
  pub addr : ℕ
  pub bytes : List ℕ

-- Whether a write has a byte at address a.
abbrev pub write_covers : Write → ℕ → Bool
write_covers w a = nat_le w.addr a && nat_lt a (w.addr + length w.bytes)

-- The byte at address a after a write, where it was `old` before.
abbrev pub byte_written : Write → ℕ → ℕ → ℕ
byte_written w a old = cond (write_covers w a) (slice_index w.bytes (a - w.addr)) old

-- The byte at address a after writes in order: the byte of the last write that covers the address, or `first`, the byte
-- before the writes, if no write covers it.
abbrev pub byte_from : List Write → ℕ → ℕ → ℕ
byte_from [] a first = first
byte_from (w ∷ ws) a first = byte_from ws a (byte_written w a first)

-- The base of the persistent region, the initial bytes of the volatile globals and of the region, and all writes so
-- far.
pub record Memory : Type 0 where
  pub base : ℕ
  pub volatile : List ℕ
  pub region : List ℕ
  pub writes : List Write

-- Whether address a is one of the addresses of a list of bytes that begins at an address.
abbrev pub is_in : ℕ → List ℕ → ℕ → Bool
is_in start xs a = nat_le start a && nat_lt a (start + length xs)

-- The byte at address a before all writes: an initial one of the volatile globals or of the region, 0 anywhere else.
abbrev pub initial_byte : Memory → ℕ → ℕ
initial_byte m a =
    cond (is_in volatile_start m.volatile a) (slice_index m.volatile (a - volatile_start))
    (cond (is_in m.base m.region a) (slice_index m.region (a - m.base)) 0)

-- The byte at address a after all writes.
abbrev pub byte_at : Memory → ℕ → ℕ
byte_at m a = byte_from m.writes a (initial_byte m a)

-- The n bytes from address a on.
abbrev pub bytes_at : Memory → ℕ → ℕ → List ℕ
bytes_at m a zero = []
bytes_at m a (suc n) = byte_at m a ∷ bytes_at m (suc a) n

-- The memory after one more write.
abbrev pub with_write : Write → Memory → Memory
with_write w m = record { base = m.base; volatile = m.volatile; region = m.region; writes = m.writes ++ w ∷ [] }
