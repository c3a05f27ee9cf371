-- What stores, flushes and fences do to the cache lines of the region, with the history that each part of a store
-- carries.
use Rattle.std.specs.Prelude.{ℕ, ◌+◌, ◌-◌, Bool, true, false, cond, nat_lt, ◌&&◌, List, map, length, take, drop, Option, Some, None}
use Rattle.hip_tree.specs.declared.site.Site.{Site}
use Rattle.hip_lines.specs.Line.{Line, map_line, flushed_line, fenced_line, start_in, end_in, change_range, stored}
use Rattle.hip_runs.specs.declared.input.Input.{Input}
use Rattle.hip_runs.specs.State.{Level, Flush, StorePart, Counts}
use Rattle.hip_runs.specs.Actions.{in_region}

-- The part in line j of a store of bytes at offset o: its bytes in that line.
abbrev pub part_of_store : Counts → Site → List Level → ℕ → List ℕ → ℕ → StorePart
part_of_store counts site levels o bytes j =
    record {
      offset = start_in j o;
      bytes = take (end_in j o (length bytes) - start_in j o) (drop (start_in j o - o) bytes);
      step = counts.steps;
      entry = counts.entries + 1;
      site = site;
      levels = levels;
      first_flush = None;
      fenced = false;
    }

-- The region's lines after a store of bytes at an address. If the store is in the region, it appends its part to each
-- line that has a byte of it.
abbrev pub stored_lines : Input → Counts → Site → List Level → ℕ → List ℕ → List (Line StorePart) →
    List (Line StorePart)
stored_lines I counts site levels a bytes ls =
    cond (in_region I a (length bytes))
    (stored (part_of_store counts site levels (a - I.base) bytes) (a - I.base) (length bytes) ls) ls

-- The first flush of a part after a flush: the flush that it had before, if there is one, else this one.
abbrev pub earlier : Option Flush → Flush → Option Flush
earlier None flush = Some flush
earlier (Some first) flush = Some first

-- The part after a flush of its line.
abbrev pub noted_flush : Flush → StorePart → StorePart
noted_flush flush p = record p { first_flush = earlier p.first_flush flush }

-- The part after a fence.
abbrev pub noted_fence : StorePart → StorePart
noted_fence p = record p { fenced = true }

-- A line after a flush: all its parts are flushed, and each that had no first flush has this one. (Intel's manual:
-- CLWB, CLFLUSHOPT, CLFLUSH.)
abbrev pub flush_line : Flush → Line StorePart → Line StorePart
flush_line flush l = flushed_line (map_line (noted_flush flush) l)

-- A line after a fence: its flushed parts are durable, and each part notes that a fence came after its store.
-- (Intel's manual: SFENCE.)
abbrev pub fence_line : Line StorePart → Line StorePart
fence_line l = fenced_line (map_line noted_fence l)

-- Whether a flush of a range flushes lines: it has bytes, and they lie in the region.
abbrev pub flushes_lines : Input → ℕ → ℕ → Bool
flushes_lines I a n = nat_lt 0 n && in_region I a n

-- The region's lines after a flush of the n bytes from address a: each line that has one of these bytes is flushed. No
-- line is flushed if some of the bytes are not in the region.
abbrev pub flushed_lines : Input → Flush → ℕ → ℕ → List (Line StorePart) → List (Line StorePart)
flushed_lines I flush a n ls =
    cond (flushes_lines I a n) (change_range (λ _ l. flush_line flush l) (a - I.base) n ls) ls

-- The lines of the region after a fence, which acts on each of them.
abbrev pub fenced_lines : List (Line StorePart) → List (Line StorePart)
fenced_lines ls = map fence_line ls
