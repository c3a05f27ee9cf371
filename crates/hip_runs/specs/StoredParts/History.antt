-- What is true in every run of the history that the parts of stores carry, and of the calls that they were made under.
use Rattle.std.specs.Prelude.{◌≡◌, ℕ, ◌<◌, false, List, [], ◌∷◌, ◌++◌, Some, slice_get}
use Rattle.hip_tree.specs.Sites.{instr_of}
use Rattle.hip_tree.specs.declared.instr.Instr.{Instr}
use Rattle.hip_tree.specs.declared.program.Program.{Program}
use Rattle.hip_lines.specs.Line.{Line}
use Rattle.hip_runs.specs.StoredParts.Parts.{In, PartOf}
use Rattle.hip_runs.specs.Found.Reports.{is_open}
use Rattle.hip_runs.specs.State.{Level, Flush, StorePart, State, levels_of}

-- The calls were made one after another, each before the one above it, and all before step n.
abbrev pub AreDescending : List Level → ℕ → Type 0
AreDescending [] n = Unit {0}
AreDescending (l ∷ ls) n = (l.birth < n) × AreDescending ls l.birth

-- The calls of a store are split into those that have returned, which are the innermost ones, and the rest, which are
-- the outermost ones of the calls that have not returned.
pub record IsParted (standing levels : List Level) : Type 0 where
  pub closed : List Level
  pub open_ones : List Level
  pub above : List Level
  pub are : levels ≡ closed ++ open_ones
  pub outermost : standing ≡ above ++ open_ones
  pub returned : (v : Level) → In v closed → is_open standing v ≡ false

-- What is true in each state of a run of the parts in its cache lines: when they were made and first flushed, what the
-- parts of one store share, that there are instructions at their sites, and which of their calls have not returned.
pub record HasHistory (P : Program) (s : State) : Type 0 where
  -- A part was made by an earlier step, and so was its first flush.
  pub made : (x : StorePart) → PartOf s.lines x → x.step < s.counts.steps
  pub flush_made : (x : StorePart) (f : Flush) → PartOf s.lines x → x.first_flush ≡ Some f
      → f.step < s.counts.steps
  -- The parts of one store have the same site, the same calls, the same entry and the same history of fences.
  pub site : (x y : StorePart) → PartOf s.lines x → PartOf s.lines y → x.step ≡ y.step → x.site ≡ y.site
  pub levels : (x y : StorePart) → PartOf s.lines x → PartOf s.lines y → x.step ≡ y.step
      → x.levels ≡ y.levels
  pub entry : (x y : StorePart) → PartOf s.lines x → PartOf s.lines y → x.step ≡ y.step → x.entry ≡ y.entry
  pub fenced : (x y : StorePart) → PartOf s.lines x → PartOf s.lines y → x.step ≡ y.step
      → x.fenced ≡ y.fenced
  -- A part that is flushed has a first flush.
  pub flushed : (m k : ℕ) (l : Line StorePart) (x : StorePart) → slice_get s.lines m ≡ Some l →
      slice_get l.parts k ≡ Some x → k < l.flushed → (f : Flush) × (x.first_flush ≡ Some f)
  -- There are instructions at the sites of stores, flushes and calls.
  pub site_there : (x : StorePart) → PartOf s.lines x → (i : Instr) × (instr_of P x.site ≡ Some i)
  pub flush_there : (x : StorePart) (f : Flush) → PartOf s.lines x → x.first_flush ≡ Some f →
      (i : Instr) × (instr_of P f.site ≡ Some i)
  pub call_there : (x : StorePart) (v : Level) → PartOf s.lines x → In v x.levels →
      (i : Instr) × (instr_of P v.call ≡ Some i)
  pub split : (x : StorePart) → PartOf s.lines x → IsParted (levels_of s.frames) x.levels
