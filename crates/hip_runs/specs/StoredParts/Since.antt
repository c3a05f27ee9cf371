-- What came in a run since one of its steps: fences, and flushes of a cache line.
use Rattle.std.specs.Prelude.{◌≡◌, ℕ, ◌+◌, ◌-◌, ◌*◌, ◌/◌, ◌<◌, ◌≤◌, Bool, true, false, ◌&&◌, nat_le, nat_lt, List, [], ◌∷◌, Option, Some, None, slice_get, slice_index, length}
use Rattle.hip_tree.specs.declared.program.Program.{Program}
use Rattle.hip_tree.specs.declared.site.Site.{Site}
use Rattle.hip_lines.specs.Line.{Line}
use Rattle.hip_types.specs.Bytes.{little_endian, bytes_of}
use Rattle.hip_runs.specs.declared.event.Event.{Event}
use Rattle.hip_runs.specs.declared.input.Input.{Input}
use Rattle.hip_runs.specs.Crash.{covers, byte_of}
use Rattle.hip_runs.specs.State.{Flush, StorePart, Frame, State, levels_of, site_of}
use Rattle.hip_runs.specs.Step.{event, run}
use Rattle.hip_runs.specs.declared.event.Event.TheVariants as events
use Rattle.hip_types.specs.declared.areas.TheConstants.{LINE_SIZE}

-- Whether a step with this event stores into the region.
abbrev pub stores : Event → Bool
stores (events.Store addr value size) = true
stores _ = false

-- Whether a step with this event is a fence, alone or after the flushes of a persist.
abbrev pub fences : Event → Bool
fences events.Fence = true
fences (events.Persist line size) = true
fences _ = false

-- Whether cache line j of a region at a base lies in a range of whole lines.
abbrev pub has_line : ℕ → ℕ → ℕ → ℕ → Bool
has_line base j line size = nat_le line (base + LINE_SIZE * j) && nat_lt (base + LINE_SIZE * j) (line + size)

-- Whether a step with this event flushes cache line j of the region at a base.
abbrev pub flushes : ℕ → ℕ → Event → Bool
flushes base j (events.Flush line size) = has_line base j line size
flushes base j (events.Persist line size) = has_line base j line size
flushes base j _ = false

-- A step between step `from` and step n is a fence.
abbrev pub FencedSince : Program → Input → ℕ → ℕ → Type 0
FencedSince P I from n = (m : ℕ) × (from < m) × (m < n) × (fences (event P I (run P I m)) ≡ true)

-- No step between step `from` and step n flushes cache line j.
abbrev pub NotFlushedSince : Program → Input → ℕ → ℕ → ℕ → Type 0
NotFlushedSince P I j from n = (m : ℕ) → from < m → m < n → flushes I.base j (event P I (run P I m)) ≡ false

-- The site of the top frame.
abbrev pub top_site : List Frame → Option Site
top_site [] = None
top_site (f ∷ fs) = Some (site_of f)

-- The flush is the first flush of line j between step `from` and step n, and the top frame was at its site then.
pub record IsFirst (P : Program) (I : Input) (j from n : ℕ) (flush : Flush) : Type 0 where
  pub after : from < flush.step
  pub before : flush.step < n
  pub flushed : flushes I.base j (event P I (run P I flush.step)) ≡ true
  pub first : NotFlushedSince P I j from flush.step
  pub site : top_site (run P I flush.step).frames ≡ Some flush.site

-- The first flush of line j between step `from` and step n, if there is one.
abbrev pub IsFirstFlush : Program → Input → ℕ → ℕ → ℕ → Option Flush → Type 0
IsFirstFlush P I j from n None = NotFlushedSince P I j from n
IsFirstFlush P I j from n (Some flush) = IsFirst P I j from n flush

-- A step between step `from` and step n flushes cache line j.
abbrev pub FlushedSince : Program → Input → ℕ → ℕ → ℕ → Type 0
FlushedSince P I j from n = (m : ℕ) × (from < m) × (m < n) × (flushes I.base j (event P I (run P I m)) ≡ true)

-- A step after step `from` flushes cache line j, and a fence comes in that step or later, before step n. (Intel's
-- manual: a line is durable if it was flushed and a fence came after the flush.)
pub record IsFlushedThenFenced (P : Program) (I : Input) (j from n : ℕ) : Type 0 where
  pub flush : ℕ
  pub fence : ℕ
  pub after : from < flush
  pub ordered : flush ≤ fence
  pub before : fence < n
  pub flushed : flushes I.base j (event P I (run P I flush)) ≡ true
  pub fenced : fences (event P I (run P I fence)) ≡ true

-- ---- parts at their places

-- There is a line, and it has the part at place k.
abbrev pub IsPartIn : Option (Line StorePart) → ℕ → StorePart → Type 0
IsPartIn None k x = ⊥
IsPartIn (Some l) k x = slice_get l.parts k ≡ Some x

-- The part is at place k of cache line m.
abbrev pub IsPartAt : State → ℕ → ℕ → StorePart → Type 0
IsPartAt s m k x = IsPartIn (slice_get s.lines m) k x

-- There is a line, and it has the part at place k, which is before its durable number.
abbrev pub IsDurableIn : Option (Line StorePart) → ℕ → StorePart → Type 0
IsDurableIn None k x = ⊥
IsDurableIn (Some l) k x = (slice_get l.parts k ≡ Some x) × (k < l.durable)

-- The part at place k of cache line m is durable.
abbrev pub IsDurableAt : State → ℕ → ℕ → StorePart → Type 0
IsDurableAt s m k x = IsDurableIn (slice_get s.lines m) k x

-- The part is a part of the store of its step. It has those bytes of the stored value that are in its cache line, the
-- site of the top frame and the calls that had not returned at that step, and the store's entry in the trace.
pub record IsOfStore (P : Program) (I : Input) (x : StorePart) : Type 0 where
  pub addr : ℕ
  pub bytes : List ℕ
  pub stored : event P I (run P I x.step) ≡ events.Store addr (little_endian bytes) (length bytes)
  pub written : bytes_of (length bytes) (little_endian bytes) ≡ bytes
  pub site : top_site (run P I x.step).frames ≡ Some x.site
  pub levels : x.levels ≡ levels_of (run P I x.step).frames
  pub entry : x.entry ≡ (run P I x.step).counts.entries + 1
  pub covered : (b : ℕ) → covers x b ≡ true → (addr ≤ I.base + b) × (I.base + b < addr + length bytes)
      × (b / LINE_SIZE ≡ x.offset / LINE_SIZE) × (byte_of x b ≡ slice_index bytes (I.base + b - addr))
  pub whole : (b : ℕ) → addr ≤ I.base + b → I.base + b < addr + length bytes
      → b / LINE_SIZE ≡ x.offset / LINE_SIZE →
      covers x b ≡ true
