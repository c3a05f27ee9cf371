-- What survives a crash: each byte of the region that has the value of working memory in every crash image. (This
-- project's own.)
use Rattle.std.specs.Prelude.{◌≡◌, ℕ, ◌+◌, ◌/◌, ◌<◌, ◌≤◌, true, List, [], length, take, Option, Some, None, slice_get, slice_index}
use Rattle.hip_tree.specs.declared.program.Program.{Program}
use Rattle.hip_lines.specs.Image.{byte_after, parts_of}
use Rattle.hip_lines.specs.Line.{Line}
use Rattle.hip_lines.specs.Loose.{IsLoose, IsLooseBy}
use Rattle.hip_types.specs.declared.areas.TheConstants.{LINE_SIZE}
use Rattle.hip_mem.specs.Memory.{byte_at, bytes_at}
use Rattle.hip_runs.specs.Actions.{memory_of}
use Rattle.hip_runs.specs.Crash.{covers, byte_of, IsCrashImage, crash_image}
use Rattle.hip_runs.specs.Found.Reports.{Range, check_reports}
use Rattle.hip_runs.specs.StoredParts.Parts.{In}
use Rattle.hip_runs.specs.State.{StorePart, State}
use Rattle.hip_runs.specs.Step.{event, run}
use Rattle.hip_runs.specs.StoredParts.Since.{IsPartAt, stores}
use Rattle.hip_runs.specs.declared.input.Input.{Input}
use Rattle.hip_runs.specs.declared.report.Report.{Report}

-- ---- working memory

-- The byte of working memory at an offset of the region.
abbrev pub working_byte : Program → Input → State → ℕ → ℕ
working_byte P I s b = byte_at (memory_of P I s.world) (I.base + b)

-- The bytes of the region in working memory.
abbrev pub working_region : Program → Input → State → List ℕ
working_region P I s = bytes_at (memory_of P I s.world) I.base (length I.image)

-- The parts of stores in the cache line of byte b of the region, in order; none if the region has no such line.
abbrev pub parts_over : State → ℕ → List StorePart
parts_over s b = parts_of covers byte_of (slice_get s.lines (b / LINE_SIZE))

-- In working memory byte b of the region is the initial byte, changed by all parts of its line in order.
abbrev pub HasAllParts : Program → Input → State → ℕ → Type 0
HasAllParts P I s b =
    (working_byte P I s b ≡ byte_after covers byte_of (parts_over s b) b (slice_index I.image b))

-- The number of all parts of each line.
abbrev pub all_parts : State → ℕ → ℕ
all_parts s j = length (parts_of covers byte_of (slice_get s.lines j))

-- Working memory is the crash image that has all parts of each line.
pub record IsWholeImage (P : Program) (I : Input) (s : State) : Type 0 where
  pub is : working_region P I s ≡ crash_image I s (all_parts s)
  pub image : IsCrashImage I s (working_region P I s)

-- Every crash image is equal to working memory.
abbrev pub IsOnlyImage : Program → Input → State → Type 0
IsOnlyImage P I s = (content : List ℕ) → IsCrashImage I s content → content ≡ working_region P I s

-- ---- what a crash leaves

-- Byte b of the region is loose: the last part of its line that covers it is not durable.
abbrev pub IsLooseAt : State → ℕ → Type 0
IsLooseAt s b =
    (l : Line StorePart) × (slice_get s.lines (b / LINE_SIZE) ≡ Some l) × IsLoose covers l b

-- Byte b of the region survives a crash: every crash image of the state has the value that working memory has there.
abbrev pub Survives : Program → Input → State → ℕ → Type 0
Survives P I s b =
    (content : List ℕ) → IsCrashImage I s content → slice_index content b ≡ working_byte P I s b

-- In this content byte b of the region has the value of a part of the cache line, at this place or a later one.
pub record IsFromPartOn (s : State) (line place : ℕ) (content : List ℕ) (b : ℕ) : Type 0 where
  pub later : ℕ
  pub part : StorePart
  pub from : place ≤ later
  pub there : IsPartAt s line later part
  pub over : covers part b ≡ true
  pub value : slice_index content b ≡ byte_of part b

-- The durable parts of a line, if it is there.
abbrev pub durable_of : Option (Line StorePart) → List StorePart
durable_of None = []
durable_of (Some l) = take l.durable l.parts

-- Byte b of the region with the durable parts alone: the initial byte, changed by the durable parts of its line in
-- order.
abbrev pub durable_byte : Input → State → ℕ → ℕ
durable_byte I s b =
    byte_after covers byte_of (durable_of (slice_get s.lines (b / LINE_SIZE))) b (slice_index I.image b)

-- Each byte of the region in this content is what the durable parts alone give.
abbrev pub HasDurableAlone : Input → State → List ℕ → Type 0
HasDurableAlone I s content = (b : ℕ) → b < length I.image → slice_index content b ≡ durable_byte I s b

-- ---- the byte of a report

-- A report is of the store into the region that the run makes in the step after n steps: it names that store's entry
-- of the trace.
pub record IsOfStep (P : Program) (I : Input) (steps : ℕ) (r : Report) : Type 0 where
  pub store : stores (event P I (run P I steps)) ≡ true
  pub entry : r.entry ≡ (run P I steps).counts.entries + 1

-- A report is of a byte of the range that was checked. In working memory the byte has the value that the report's store
-- gave it. The part of that store is the last part over the byte and is not durable, and in some crash image the byte
-- is what the parts before it give. So if the store changed the byte, a crash may undo the change.
pub record IsOfByte (P : Program) (I : Input) (s : State) (range : Range) (r : Report) : Type 0 where
  pub byte : ℕ
  pub low : range.offset ≤ byte
  pub high : byte < range.offset + range.size
  pub line : Line StorePart
  pub at : slice_get s.lines (byte / LINE_SIZE) ≡ Some line
  pub place : ℕ
  pub part : StorePart
  pub loose : IsLooseBy covers line byte place part
  pub store : IsOfStep P I part.step r
  pub working : working_byte P I s byte ≡ byte_of part byte
  pub content : List ℕ
  pub image : IsCrashImage I s content
  pub before : slice_index content byte
      ≡ byte_after covers byte_of (take place line.parts) byte (slice_index I.image byte)

-- A report of the check of a range names the store whose part is the last over byte b, and that part is not durable.
pub record IsReportedAt (P : Program) (I : Input) (n : ℕ) (range : Range) (b : ℕ) : Type 0 where
  pub loose : IsLooseAt (run P I n) b
  pub report : Report
  pub there : In report (check_reports (run P I n) (Some range))
  pub store : IsOfStep P I loose.2.1.step report
