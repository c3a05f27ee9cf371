-- What a byte of a line shows: the tag of the last pending part over it, and whether that part is flushed.
use Rattle.std.specs.Prelude.{◌≡◌, ℕ, zero, suc, ◌/◌, ◌%◌, ◌<◌, ◌≤◌, Bool, nat_lt, List, length, Option, Some, None, option_map, slice_index}
use Rattle.hip_lines.specs.Loose.{last_over}
use Rattle.hip_lines.specs.Parts.{part_covers}
use Rattle.hip_lines.specs.Pending.{Pending}
use Rattle.hip_lines.specs.declared.part.Part.{Part}
use Rattle.hip_types.specs.declared.areas.TheConstants.{LINE_SIZE}

-- What the part at a place shows, where the parts before number `flushed` are flushed.
abbrev pub shown_by : ℕ → (ℕ × Part) → ℕ × Bool
shown_by flushed f = (f.1.tag, nat_lt f.0 flushed)

-- What byte b shows, by all pending parts of its line; nothing where no part covers it.
abbrev pub shown : Pending Part → ℕ → Option (ℕ × Bool)
shown w b = option_map (shown_by w.flushed) (last_over part_covers b w.parts)

-- What a kept tag shows, by its number, counted from 1, if the first `flushed` tags are flushed; `None` for number 0.
abbrev pub kept_at : List ℕ → ℕ → ℕ → Option (ℕ × Bool)
kept_at tags flushed zero = None
kept_at tags flushed (suc k) = Some (slice_index tags k, nat_lt k flushed)

-- The kept tags of a line, of which the first `flushed` are flushed, and for each byte the number of the tag that it
-- shows. Each byte shows what it shows by all pending parts of the line. Some part is flushed exactly if some tag is.
-- All parts are flushed exactly if all tags are.
pub record Shows (tags : List ℕ) (flushed : ℕ) (numbers : List ℕ) (line : ℕ) (w : Pending Part) : Type 0 where
  pub bytes : (b : ℕ) → b / LINE_SIZE ≡ line
      → kept_at tags flushed (slice_index numbers (b % LINE_SIZE)) ≡ shown w b
  pub some : flushed ≡ 0 → w.flushed ≡ 0
  pub none : w.flushed ≡ 0 → flushed ≡ 0
  pub all : flushed ≡ length tags → w.flushed ≡ length w.parts
  pub not_all : w.flushed ≡ length w.parts → flushed ≡ length tags
  pub ordered : w.flushed ≤ length w.parts

-- Each number is the number of a tag, or 0.
abbrev pub AreNumbers : ℕ → List ℕ → Type 0
AreNumbers count numbers = (i : ℕ) → slice_index numbers i ≤ count

-- The tags that have a use are moved to the front in their order, and `news` has the new number of each number with a
-- use: 0 stays, the other numbers keep their order, and the last number becomes the number of kept tags.
pub record IsRenumbered (uses news tags kept : List ℕ) : Type 0 where
  pub zero : slice_index news 0 ≡ 0
  pub moved : (k : ℕ) → k < length tags → 0 < slice_index uses (suc k)
      → (p : ℕ) × (slice_index news (suc k) ≡ suc p) × (slice_index kept p ≡ slice_index tags k)
  pub rising : (i j : ℕ) → i < j → j ≤ length tags → 0 < slice_index uses i → 0 < slice_index uses j
      → slice_index news i < slice_index news j
  pub last : 0 < slice_index uses (length tags) → slice_index news (length tags) ≡ length kept
