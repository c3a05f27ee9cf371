-- What is kept of a cache line: its bytes after the durable stores, how many durable stores there are, the later stores
-- in order, and how many of these are flushed.
use Rattle.std.specs.Prelude.{ℕ, ◌+◌, ◌*◌, List, [], ◌∷◌, ◌++◌, length, drop, take}
use Rattle.hip_types.specs.declared.areas.TheConstants.{LINE_SIZE}
use Rattle.hip_crash.specs.Values.{bytes_after}
use Rattle.hip_crash.specs.declared.kept_line.KeptLine.{KeptLine}
use Rattle.hip_crash.specs.declared.values.StoredValue.{StoredValue}

-- What is kept of a cache line: its bytes after the durable stores, how many durable stores there are, the later
-- stores, the earliest first, and how many of these are flushed.
pub record Kept : Type 0 where
  pub bytes : List ℕ
  pub least : ℕ
  pub later : List StoredValue
  pub flushed : ℕ

-- What is kept of a line, without the line's number.
abbrev pub kept_in : KeptLine → Kept
kept_in x = record { bytes = x.bytes; least = x.least; later = x.later.items; flushed = x.flushed }

-- The line after one more store, which is not flushed.
abbrev pub with_store : StoredValue → Kept → Kept
with_store v k = record k { later = k.later ++ v ∷ [] }

-- The line after a flush, which flushes all of its later stores.
abbrev pub with_flush : Kept → Kept
with_flush k = record k { flushed = length k.later }

-- Line j after a fence, which makes its flushed stores durable.
abbrev pub with_fence : ℕ → Kept → Kept
with_fence j k =
    record {
      bytes = bytes_after (take k.flushed k.later) (LINE_SIZE * j) k.bytes;
      least = k.least + k.flushed;
      later = drop k.flushed k.later;
      flushed = 0;
    }
