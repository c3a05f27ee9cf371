-- What is kept of a run for the checks to come: its stores that may still be reported, and the flushes of their lines.
use Rattle.std.specs.Prelude.{◌≡◌, ◌^◌, ℕ, ◌+◌, ◌<◌, ◌≤◌, Bool, true, false, cond, ◌&&◌, nat_eq, nat_le, nat_lt, List, [], ◌∷◌, ◌++◌, Option, Some, None}
use Rattle.std.specs.Ordering.{nat_cmp}
use Rattle.std.specs.BTreeMap as tree
use Rattle.std.specs.BTreeMap.{BTreeMap}
use Rattle.hip_ledger.specs.declared.pending.FlushNote.{FlushNote}
use Rattle.hip_ledger.specs.declared.pending.LineNote.{LineNote}
use Rattle.hip_ledger.specs.declared.pending.Pending.{Pending}
use Rattle.hip_ledger.specs.declared.pending.StoreNote.{StoreNote}

-- ---- stores

-- The first note of the store that a step made.
abbrev pub note_of : List StoreNote → ℕ → Option StoreNote
note_of [] tag = None
note_of (x ∷ xs) tag = cond (nat_eq x.tag tag) (Some x) (note_of xs tag)

-- The steps of the stores ascend; the first is at least a, and all are below b.
abbrev pub StoresAscend : ℕ → ℕ → List StoreNote → Type 0
StoresAscend a b [] = Unit {0}
StoresAscend a b (x ∷ xs) = (a ≤ x.tag) × (x.tag < b) × StoresAscend (x.tag + 1) b xs

-- The same for the steps of flushes.
abbrev pub FlushesAscend : ℕ → ℕ → List FlushNote → Type 0
FlushesAscend a b [] = Unit {0}
FlushesAscend a b (x ∷ xs) = (a ≤ x.step) × (x.step < b) × FlushesAscend (x.step + 1) b xs

-- ---- flushes

-- The first flush after a step.
abbrev pub first_after : ℕ → List FlushNote → Option FlushNote
first_after step [] = None
first_after step (f ∷ fs) = cond (nat_lt step f.step) (Some f) (first_after step fs)

-- The note of cache line j, if it has one.
abbrev pub lines_of : BTreeMap ℕ LineNote → ℕ → Option LineNote
lines_of m j = tree.get nat_cmp m j

-- Whether line j is at or after the first line, and before the end.
abbrev pub is_between : ℕ → ℕ → ℕ → Bool
is_between first end j = nat_le first j && nat_lt j end

-- The noted flushes of a line, the earliest first; none if it has no note.
abbrev pub flushes_in : Option LineNote → List FlushNote
flushes_in None = []
flushes_in (Some l) = l.flushes

-- A line after a store into it.
abbrev pub with_store : Option LineNote → LineNote
with_store l = record { stored = true; flushes = flushes_in l }

-- A line after a flush of it. The flush is noted if the line was stored into since the flush before.
abbrev pub with_flush : FlushNote → LineNote → LineNote
with_flush f l = cond l.stored (record { stored = false; flushes = l.flushes ++ f ∷ [] }) l

-- ---- both

-- The steps of the stores ascend, and so do those of the flushes of each line.
pub record StepsAscend (p : Pending) : Type 0 where
  pub stores : StoresAscend 0 (2 ^ 128) p.stores.items
  pub flushes : (j : ℕ) (l : LineNote) → lines_of p.lines j ≡ Some l → FlushesAscend 0 (2 ^ 128) l.flushes
