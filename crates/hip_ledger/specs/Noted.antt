-- What a tracker notes of a run.
use Rattle.std.specs.Prelude.{◌≡◌, ◌⊎◌, ℕ, ◌+◌, ◌-◌, ◌≤◌, ◌<◌, ◌^◌, ◌*◌, ◌/◌, Bool, true, cond, filter, List, [], ◌∷◌, ◌++◌, length, Option, Some, None, option_map, IsSome}
use Rattle.hip_tree.specs.declared.program.Program.{Program}
use Rattle.hip_tree.specs.declared.site.Site.{Site}
use Rattle.std.specs.BTreeMap as tree
use Rattle.std.specs.BTreeMap.{BTreeMap}
use Rattle.std.specs.Ordering.{nat_cmp}
use Rattle.hip_lines.specs.Line.{has_bytes}
use Rattle.hip_lines.specs.Parts.{loose_from}
use Rattle.hip_lines.specs.Pending.{Pending as Waiting}
use Rattle.hip_types.specs.declared.areas.TheConstants.{LINE_SIZE}
use Rattle.hip_lines.specs.declared.part.LooseByte.{LooseByte}
use Rattle.hip_lines.specs.declared.part.Part.{Part}
use Rattle.hip_runs.specs.Found.Marks.{hit, pointed}
use Rattle.hip_runs.specs.Found.Reports.{Range, reports}
use Rattle.hip_runs.specs.declared.report.Report.{Report}
use Rattle.hip_runs.specs.State.{Level, levels_of}
use Rattle.hip_runs.specs.Step.{header_entries, run}
use Rattle.hip_runs.specs.StoredParts.Order.{last_fence}
use Rattle.hip_runs.specs.StoredParts.Parts.{In}
use Rattle.hip_runs.specs.declared.event.Event.{Event}
use Rattle.hip_runs.specs.declared.event.Event.TheVariants as events
use Rattle.hip_runs.specs.declared.input.Input.{Input}
use Rattle.hip_ledger.specs.CheckGroups.{group_from, reports_stated}
use Rattle.hip_ledger.specs.declared.checks.Group.{Group}
use Rattle.hip_ledger.specs.MetMarks.{AreMet, WereHit}
use Rattle.hip_ledger.specs.Pending.{first_after, FlushesAscend, lines_of, with_flush, with_store}
use Rattle.hip_ledger.specs.Sufficiency.{TellsLoose}
use Rattle.hip_ledger.specs.declared.ledger.Ledger.{Ledger}
use Rattle.hip_ledger.specs.declared.sought.Sought.{Sought}
use Rattle.hip_ledger.specs.declared.sought.Sought.TheVariants.{Findings}
use Rattle.hip_ledger.specs.declared.pending.Pending.{Pending}
use Rattle.hip_ledger.specs.declared.pending.FlushNote.{FlushNote}
use Rattle.hip_ledger.specs.declared.pending.LineNote.{LineNote}
use Rattle.hip_ledger.specs.declared.pending.StoreNote.{StoreNote}

-- These were the standing calls after n steps of a run, or after fewer.
pub record Stood (P : Program) (I : Input) (n : ℕ) (calls : List Level) : Type 0 where
  pub steps : ℕ
  pub few : steps ≤ n
  pub are : calls ≡ levels_of (run P I steps).frames

-- The ledger after n steps of a run: its counts and last fence, the standing calls at the last look at them, and what is
-- kept of pending stores and reports, and of marks if they are sought. The numbers of entries in the ledger is right if
-- the entries of the header were counted right.
pub record IsLedger (P : Program) (I : Input) (n : ℕ) (c : Ledger) : Type 0 where
  pub steps : c.steps ≡ n
  pub counted : (run P I n).counts.steps ≡ n
  pub entries : c.header ≡ header_entries I → c.entries ≡ (run P I n).counts.entries
  pub few : c.entries ≤ c.header + n
  pub header : c.header ≤ 2 ^ 64
  pub fence : c.fence ≡ last_fence P I n
  pub calls : Stood P I n c.calls
  pub pending : TellsLoose P I n c.header c.pending.stores.items (lines_of c.pending.lines)
  pub marks : c.sought ≡ Findings → c.marks.keys ≡ pointed P I n
  pub recent : AreMet c.marks.keys c.recent.items
  pub hit : c.sought ≡ Findings → c.hit.keys ≡ hit P I n
  pub flags : WereHit c.hit.keys c.flags.items
  pub reports : c.header ≡ header_entries I → c.reports ≡ reports P I n

-- The ledger of no steps, where this is sought and the trace has this number of entries before the first step: the
-- entries are counted, and nothing else is noted.
pub record AreOfNoSteps (before : ℕ) (what : Sought) (c : Ledger) : Type 0 where
  pub sought : c.sought ≡ what
  pub header : c.header ≡ before
  pub steps : c.steps ≡ 0
  pub entries : c.entries ≡ before
  pub fence : c.fence ≡ None
  pub calls : c.calls ≡ []
  pub stores : c.pending.stores.items ≡ []
  pub lines : (j : ℕ) → lines_of c.pending.lines j ≡ None
  pub marks : c.marks.keys ≡ []
  pub recent : AreMet [] c.recent.items
  pub hit : c.hit.keys ≡ []
  pub flags : WereHit [] c.flags.items
  pub reports : c.reports ≡ []

-- ---- what an event does to what is kept of pending stores

-- The lines that contain one of n bytes at offset o are changed.
abbrev pub ChangeLines : (Option LineNote → Option LineNote) → ℕ → ℕ → Pending → Pending → Type 0
ChangeLines to o n old new = (j : ℕ)
    → lines_of new.lines j ≡ cond (has_bytes j o n) (to (lines_of old.lines j)) (lines_of old.lines j)

-- The notes of stores and those of lines are as they were.
abbrev pub StaySame : Pending → Pending → Type 0
StaySame old new = (new.stores.items ≡ old.stores.items)
    × ((j : ℕ) → lines_of new.lines j ≡ lines_of old.lines j)

-- A note of a store by a step at a site, with this entry and under these calls.
pub record IsNoteOf (step entry : ℕ) (site : Site) (calls : List Level) (note : StoreNote) : Type 0 where
  pub tag : note.tag ≡ step
  pub entry_is : note.entry ≡ entry
  pub site_is : note.site ≡ site
  pub calls_are : note.calls.value ≡ calls

-- A store of m bytes at offset o appends its note, and its lines are noted as stored into; without a site nothing is
-- required.
abbrev pub StoredAt : Option Site → ℕ → ℕ → List Level → ℕ → ℕ → Pending → Pending → Type 0
StoredAt None step entry calls o m old new = Unit {0}
StoredAt (Some site) step entry calls o m old new =
    ((note : StoreNote) × IsNoteOf step entry site calls note
    × (new.stores.items ≡ old.stores.items ++ note ∷ []))
    × ChangeLines (λ l. Some (with_store l)) o m old new

-- A flush of n bytes at offset o is noted in each of its lines that was stored into since its last flush, and the ledger
-- of stores stay; without a site nothing is required.
abbrev pub FlushedAt : Option Site → ℕ → ℕ → ℕ → Pending → Pending → Type 0
FlushedAt None step o n old new = Unit {0}
FlushedAt (Some site) step o n old new =
    (new.stores.items ≡ old.stores.items)
    × ChangeLines (option_map (with_flush (record { step = step; site = site }))) o n old new

-- What a step with this event does to what is kept, in a region from a base on: a store and a flush are noted, and any
-- other event changes nothing. (A persist needs no note: its lines have no loose byte after it.)
abbrev pub Follows : Event → Option Site → ℕ → ℕ → ℕ → List Level → Pending → Pending → Type 0
Follows (events.Store a v m) site base step entry calls old new = StoredAt site step entry calls (a - base) m old new
Follows (events.Flush line size) site base step entry calls old new = FlushedAt site step (line - base) size old new
Follows _ site base step entry calls old new = StaySame old new

-- A store or a flush ends below 2^64, counted from a base.
abbrev pub EndsBelow : ℕ → Event → Type 0
EndsBelow base (events.Store a v m) = (a - base) + m < 2 ^ 64
EndsBelow base (events.Flush line size) = (line - base) + size < 2 ^ 64
EndsBelow base _ = Unit {0}

-- ---- what an event checks

-- The reports after an event: if it checks a range, those of the check are appended.
abbrev pub Reported : Option Range → List ℕ → ℕ → Option ℕ → Pending → List (Waiting Part)
    → List Report
    → List Report → Type 0
Reported None births entry fence p lines old new = new ≡ old
Reported (Some r) births entry fence p lines old new =
    (groups : BTreeMap ℕ Group) × tree.IsOrdered nat_cmp groups
    × ((tag : ℕ)
    → tree.get nat_cmp groups tag ≡ group_from (lines_of p.lines) tag None (loose_from lines r.offset r.size))
    × (new ≡ old ++ reports_stated births entry fence p.stores.items groups.entries)

-- ---- what is let go

-- The loose bytes of line j.
unfoldable pub loose_of_line : List (Waiting Part) → ℕ → List LooseByte
loose_of_line ws j = loose_from ws (LINE_SIZE * j) LINE_SIZE

-- The flush as a list, if its step is among these.
abbrev pub flush_among : (ℕ → Bool) → FlushNote → List FlushNote
flush_among steps f = cond (steps f.step) (f ∷ []) []

-- Fewer flushes of line j are kept, but each loose byte of the line still has the same first flush after its store.
pub record IsThinned (ws : List (Waiting Part)) (j : ℕ) (old new : List FlushNote) : Type 0 where
  pub ascend : (a b : ℕ) → FlushesAscend a b old → FlushesAscend a b new
  pub first : (x : LooseByte) → In x (loose_of_line ws j) → first_after x.tag new ≡ first_after x.tag old

-- Line j is in the region, and each offset in the region is below 2^64.
abbrev pub HasLine : List (Waiting Part) → ℕ → Type 0
HasLine ws j = (j < length ws) × (LINE_SIZE * length ws < 2 ^ 64)

-- The new notes have a note of line j if `notes` has one, and a note of each line of which the old notes have one.
pub record KeepsNote (notes : BTreeMap ℕ LineNote) (j : ℕ) (old new : BTreeMap ℕ LineNote) : Type 0 where
  pub here : IsSome (lines_of notes j) → IsSome (lines_of new j)
  pub others : (i : ℕ) → IsSome (lines_of old i) → IsSome (lines_of new i)

-- Line j has no note now, or it has its old note, perhaps with fewer flushes.
abbrev pub MayThin : List (Waiting Part) → ℕ → Option LineNote → Option LineNote → Type 0
MayThin ws j old None = Unit {0}
MayThin ws j None (Some new) = ⊥
MayThin ws j (Some old) (Some new) = (new.stored ≡ old.stored) × IsThinned ws j old.flushes new.flushes

-- What is kept of the ledger, where these parts are pending: each store by which a byte is loose, and perhaps others;
-- and the note of each line that has a loose byte, perhaps with fewer flushes.
pub record IsLetGo (ws : List (Waiting Part)) (region : ℕ) (old new : Pending) : Type 0 where
  pub tags : ℕ → Bool
  pub stated : (x : LooseByte) → In x (loose_from ws 0 region) → tags x.tag ≡ true
  pub stores : new.stores.items ≡ filter (λ note. tags note.tag) old.stores.items
  pub lines : (j : ℕ) → MayThin ws j (lines_of old.lines j) (lines_of new.lines j)
  pub there : (x : LooseByte) → In x (loose_from ws 0 region) → IsSome (lines_of old.lines (x.offset / LINE_SIZE))
      → IsSome (lines_of new.lines (x.offset / LINE_SIZE))

-- All is kept, or at least what the loose bytes need.
abbrev pub IsForgotten : List (Waiting Part) → ℕ → Pending → Pending → Type 0
IsForgotten ws region old new = (new ≡ old) ⊎ IsLetGo ws region old new
