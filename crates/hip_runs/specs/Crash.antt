-- The crash images of a state.
use Rattle.std.specs.Prelude.{ℕ, suc, ◌+◌, ◌-◌, ◌*◌, Bool, true, ◌&&◌, nat_le, nat_lt, nat_eq, List, [], ◌∷◌, length, take, slice_index}
use Rattle.std.specs.List.{list_all, list_any, range_with_len}
use Rattle.hip_lines.specs.Image.{byte_after, IsImage, IsPick, image_of}
use Rattle.hip_lines.specs.Line.{Line}
use Rattle.hip_runs.specs.declared.input.Input.{Input}
use Rattle.hip_runs.specs.State.{StorePart, State}
use Rattle.hip_types.specs.declared.areas.TheConstants.{LINE_SIZE}

-- Whether a part covers the byte at an offset of the region.
abbrev pub covers : StorePart → ℕ → Bool
covers p b = nat_le p.offset b && nat_lt b (p.offset + length p.bytes)

-- The value that a part gives the byte at an offset of the region, where it covers that byte.
abbrev pub byte_of : StorePart → ℕ → ℕ
byte_of p b = slice_index p.bytes (b - p.offset)

-- A content of the region is a crash image of a state if each cache line, independently of the others, has its initial
-- bytes, changed by the first parts of its list, which include all durable ones.
abbrev pub IsCrashImage : Input → State → List ℕ → Type 0
IsCrashImage I s content = IsImage covers byte_of I.image s.lines content

-- A pick gives each line a number from its durable number to its length.
abbrev pub IsCrashPick : State → (ℕ → ℕ) → Type 0
IsCrashPick s pick = IsPick covers byte_of s.lines pick

-- The crash image of a pick: in each line the initial bytes, changed by as many first parts as the pick says.
abbrev pub crash_image : Input → State → (ℕ → ℕ) → List ℕ
crash_image I s pick = image_of covers byte_of s.lines pick I.image

-- ---- whether a content is a crash image, line by line

-- Whether, in line j, the content is `first` changed by the line's first q parts.
abbrev pub is_line_after : List ℕ → List ℕ → ℕ → Line StorePart → ℕ → Bool
is_line_after first content j l q =
    list_all
    (λ b. nat_eq (slice_index content b) (byte_after covers byte_of (take q l.parts) b (slice_index first b)))
    (range_with_len (LINE_SIZE * j) LINE_SIZE)

-- Whether, in line j, the content is `first` changed by some number of the line's first parts, which include all
-- durable ones.
abbrev pub is_line_image : List ℕ → List ℕ → ℕ → Line StorePart → Bool
is_line_image first content j l =
    list_any (is_line_after first content j l) (range_with_len l.durable (suc (length l.parts) - l.durable))

-- Whether each of these lines, the first of which has number j, has a content that a crash may leave.
abbrev pub are_line_images : List ℕ → List ℕ → ℕ → List (Line StorePart) → Bool
are_line_images first content j [] = true
are_line_images first content j (l ∷ ls) = is_line_image first content j l && are_line_images first content (suc j) ls

-- `IsCrashImage` as a test: the content is as long as the initial region, and each line is one that a crash may leave.
abbrev pub is_crash_image : Input → State → List ℕ → Bool
is_crash_image I s content = nat_eq (length content) (length I.image) && are_line_images I.image content 0 s.lines
