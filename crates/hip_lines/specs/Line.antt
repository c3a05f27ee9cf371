-- Cache lines of a persistent region.
--
-- A line is 64 bytes at a multiple of 64. A part of a store is its bytes in one line. Each line keeps its parts in the
-- order of their stores, a flushed number and a durable number. A store appends each of its parts to that part's line,
-- a flush sets the flushed number of a line to the length of its list, and a fence sets the durable number of every
-- line to its flushed number. After Intel's Software Developer's Manual: CLWB and CLFLUSHOPT act on the line that
-- contains the address, are ordered after older stores to that line, and need a later fence.
use Rattle.std.specs.Prelude.{ℕ, suc, ◌+◌, ◌*◌, ◌≤◌, Bool, cond, nat_lt, min, max, List, [], ◌∷◌, ◌++◌, length, map, replicate}
use Rattle.hip_types.specs.declared.areas.TheConstants.{LINE_SIZE}

-- A line whose parts are of a type P: the parts in order, how many of them are flushed, and how many are durable.
pub record Line (P : Type 0) : Type 0 where
  pub parts : List P
  pub flushed : ℕ
  pub durable : ℕ

-- The durable number is at most the flushed number, and the flushed number is at most the number of parts.
pub record IsOrdered {P : Type 0} (l : Line P) : Type 0 where
  pub durable : l.durable ≤ l.flushed
  pub flushed : l.flushed ≤ length l.parts

-- Each line of a list is ordered.
abbrev pub AreOrdered : {P : Type 0} → List (Line P) → Type 0
AreOrdered [] = Unit {0}
AreOrdered (l ∷ ls) = IsOrdered l × AreOrdered ls

-- A line into which nothing was stored.
abbrev pub fresh_line : {P : Type 0} → Line P
fresh_line = record { parts = []; flushed = 0; durable = 0 }

-- The line after a store, whose part becomes the last one. Both numbers stay.
abbrev pub with_part : {P : Type 0} → P → Line P → Line P
with_part x l = record { parts = l.parts ++ x ∷ []; flushed = l.flushed; durable = l.durable }

-- The line after a flush: all its parts are flushed. (Intel's manual, CLWB and CLFLUSHOPT; that CLFLUSH waits for a
-- fence too is this project's choice.)
abbrev pub flushed_line : {P : Type 0} → Line P → Line P
flushed_line l = record { parts = l.parts; flushed = length l.parts; durable = l.durable }

-- The line after a fence: all flushed parts are durable. (Intel's manual, SFENCE.)
abbrev pub fenced_line : {P : Type 0} → Line P → Line P
fenced_line l = record { parts = l.parts; flushed = l.flushed; durable = l.flushed }

-- The line with a function applied to each part.
abbrev pub map_line : {P Q : Type 0} → (P → Q) → Line P → Line Q
map_line f l = record { parts = map f l.parts; flushed = l.flushed; durable = l.durable }

-- The first byte of line j that is not before the range from o.
abbrev pub start_in : ℕ → ℕ → ℕ
start_in j o = max o (LINE_SIZE * j)

-- The end of line j, or that of the range of n bytes from o if it comes first.
abbrev pub end_in : ℕ → ℕ → ℕ → ℕ
end_in j o n = min (o + n) (LINE_SIZE * j + LINE_SIZE)

-- Whether line j has a byte of the range of n bytes from o.
abbrev pub has_bytes : ℕ → ℕ → ℕ → Bool
has_bytes j o n = nat_lt (start_in j o) (end_in j o n)

-- The lines from number j on; each that has a byte of the range of n bytes from o is changed, by a function of its
-- number.
abbrev pub change_from : {L : Type 0} → (ℕ → L → L) → ℕ → ℕ → ℕ → List L → List L
change_from f o n j [] = []
change_from f o n j (l ∷ ls) = cond (has_bytes j o n) (f j l) l ∷ change_from f o n (suc j) ls

-- The lines of a region; each that has a byte of the range is changed.
abbrev pub change_range : {L : Type 0} → (ℕ → L → L) → ℕ → ℕ → List L → List L
change_range f o n ls = change_from f o n 0 ls

-- The lines after a store of n bytes at offset o, whose part in line j is `part j`.
abbrev pub stored : {P : Type 0} → (ℕ → P) → ℕ → ℕ → List (Line P) → List (Line P)
stored part o n ls = change_range (λ j l. with_part (part j) l) o n ls

-- The lines after a flush of the n bytes at offset o.
abbrev pub flushed : {P : Type 0} → ℕ → ℕ → List (Line P) → List (Line P)
flushed o n ls = change_range (λ _ l. flushed_line l) o n ls

-- The lines after a fence.
abbrev pub fenced : {P : Type 0} → List (Line P) → List (Line P)
fenced ls = map fenced_line ls

-- The lines of a region of n lines into which nothing was stored.
unfoldable pub fresh_lines : {P : Type 0} → ℕ → List (Line P)
fresh_lines n = replicate n fresh_line
