-- The loose bytes of a check, grouped by their stores, and what the check finds of each store.
use Rattle.std.specs.Prelude.{◌≡◌, ℕ, Bool, cond, ◌&&◌, nat_eq, nat_lt, ◌/◌, List, [], ◌∷◌, ◌++◌, map, Option, Some, None, option_map}
use Rattle.std.specs.BTreeMap as tree
use Rattle.std.specs.BTreeMap.{BTreeMap}
use Rattle.std.specs.Ordering.{nat_cmp}
use Rattle.hip_tree.specs.declared.site.Site.{Site}
use Rattle.hip_types.specs.declared.areas.TheConstants.{LINE_SIZE}
use Rattle.hip_lines.specs.declared.part.LooseByte.{LooseByte}
use Rattle.hip_runs.specs.Found.Reports.{kind_of}
use Rattle.hip_runs.specs.StoredParts.Order.{is_before}
use Rattle.hip_runs.specs.declared.report.Report.{Report}
use Rattle.hip_findings.specs.CallPaths.{call_sites, closed_by}
use Rattle.hip_findings.specs.Shared.{report_at}
use Rattle.hip_findings.specs.declared.store_report.StoreReport.{StoreReport}
use Rattle.hip_ledger.specs.Pending.{first_after, flushes_in, note_of}
use Rattle.hip_ledger.specs.declared.checks.Group.{Group}
use Rattle.hip_ledger.specs.declared.pending.FlushNote.{FlushNote}
use Rattle.hip_ledger.specs.declared.pending.LineNote.{LineNote}
use Rattle.hip_ledger.specs.declared.pending.StoreNote.{StoreNote}

-- The later of two flushes.
abbrev pub later_note : Option FlushNote → Option FlushNote → Option FlushNote
later_note None b = b
later_note (Some a) None = Some a
later_note (Some a) (Some b) = cond (nat_lt a.step b.step) (Some b) (Some a)

-- The first flush of a loose byte's line after the store of the byte.
abbrev pub flush_stated : (ℕ → Option LineNote) → LooseByte → Option FlushNote
flush_stated lines b = first_after b.tag (flushes_in (lines (b.offset / LINE_SIZE)))

-- The group of a store after one more of its loose bytes.
abbrev pub joined : Bool → Option FlushNote → Option Group → Group
joined flushed flush None = record { flushed = flushed; latest = flush }
joined flushed flush (Some g) = record { flushed = g.flushed && flushed; latest = later_note g.latest flush }

-- The group of the store of a step after more loose bytes; those of other stores do not count.
abbrev pub group_from : (ℕ → Option LineNote) → ℕ → Option Group → List LooseByte → Option Group
group_from lines tag g [] = g
group_from lines tag g (b ∷ bs) =
    group_from lines tag (cond (nat_eq b.tag tag) (Some (joined b.flushed (flush_stated lines b) g)) g) bs

-- One more loose byte is added to the groups of the stores.
abbrev pub AddsByte : (ℕ → Option LineNote) → BTreeMap ℕ Group → BTreeMap ℕ Group → LooseByte → Type 0
AddsByte lines old new b = (tag : ℕ)
    → tree.get nat_cmp new tag
    ≡ cond (nat_eq b.tag tag) (Some (joined b.flushed (flush_stated lines b) (tree.get nat_cmp old tag)))
    (tree.get nat_cmp old tag)

-- The group of a loose byte's store stays the same if the byte is added once more.
pub record StaysWith (lines : ℕ → Option LineNote) (groups : BTreeMap ℕ Group) (b : LooseByte) : Type 0 where
  pub group : Group
  pub there : tree.get nat_cmp groups b.tag ≡ Some group
  pub same : joined b.flushed (flush_stated lines b) (Some group) ≡ group

-- The same for the byte that was added last, if there is one.
abbrev pub StaysWithLast : (ℕ → Option LineNote) → BTreeMap ℕ Group → Option LooseByte → Type 0
StaysWithLast lines groups None = Unit {0}
StaysWithLast lines groups (Some b) = StaysWith lines groups b

-- Two loose bytes of one store in one line, both flushed or neither: they change the groups alike.
pub record ChangeAlike (a b : LooseByte) : Type 0 where
  pub tag : a.tag ≡ b.tag
  pub line : a.offset / LINE_SIZE ≡ b.offset / LINE_SIZE
  pub flushed : a.flushed ≡ b.flushed

-- A loose byte is like the one that was added last.
abbrev pub RepeatsLast : Option LooseByte → LooseByte → Type 0
RepeatsLast None b = ⊥
RepeatsLast (Some a) b = ChangeAlike a b

-- The site of the flush that lacks a fence: the latest flush, if all loose bytes of the store are flushed; else none.
abbrev pub site_stated : Bool → Option FlushNote → Option Site
site_stated flushed latest = cond flushed (option_map (λ f. f.site) latest) None

-- What a check reports of a store, where the standing calls have these births.
abbrev pub store_stated : List ℕ → Option ℕ → StoreNote → Group → StoreReport
store_stated births fence note g =
    record {
      entry = note.entry;
      kind = kind_of g.flushed (is_before note.tag fence);
      flush_site = site_stated g.flushed g.latest;
      path = note.site ∷ call_sites note.calls.value;
      closed = closed_by births note.calls.value;
    }

-- What a check reports of a store that has a note; nothing if it has none.
abbrev pub store_in : List ℕ → Option ℕ → Option StoreNote → Group → List StoreReport
store_in births fence None g = []
store_in births fence (Some note) g = store_stated births fence note g ∷ []

-- What a check reports of the stores of these steps.
abbrev pub stores_stated : List ℕ → Option ℕ → List StoreNote → List (ℕ × Group) → List StoreReport
stores_stated births fence notes [] = []
stores_stated births fence notes (e ∷ es) =
    store_in births fence (note_of notes e.0) e.1 ++ stores_stated births fence notes es

-- The reports of the stores of these steps, at a check with this entry.
abbrev pub reports_stated : List ℕ → ℕ → Option ℕ → List StoreNote → List (ℕ × Group) → List Report
reports_stated births check fence notes es = map (report_at check) (stores_stated births fence notes es)
