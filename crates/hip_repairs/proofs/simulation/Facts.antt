-- The steps that must keep a fact about the cache lines of the two runs, so that it holds at all corresponding states.
use Rattle.std.proofs.Common.{◌≡◌, ℕ, ◌-◌, ◌<◌, Bool, true, false, cond, not, ◌&&◌, ◌||◌, List, [], ◌∷◌, length, Some}
use Rattle.hip_tree.specs.Sites.{has_site}
use Rattle.hip_tree.specs.declared.program.Program.{Program}
use Rattle.hip_tree.specs.declared.site.Site.{Site}
use Rattle.hip_lines.specs.Line.{Line, has_bytes, stored, fresh_lines}
use Rattle.hip_runs.specs.declared.input.Input.{Input}
use Rattle.hip_runs.specs.Actions.{in_region}
use Rattle.hip_runs.specs.StoredParts.Persistence.{part_of_store, flushes_lines, flushed_lines, fenced_lines}
use Rattle.hip_runs.specs.StoredParts.Parts.{In, PartOf}
use Rattle.hip_runs.specs.State.{Level, Flush, StorePart, Counts}
use Rattle.hip_repairs.specs.declared.plan.Plan.{Plan}
use Rattle.hip_repairs.specs.StayOutside.{StayOutside}

abbrev pub Lines : Type 0
Lines = List (Line StorePart)

-- The lines have a part whose first flush is this one.
abbrev pub Known : Lines → Flush → Type 0
Known ls f = (x : StorePart) × PartOf ls x × (x.first_flush ≡ Some f)

abbrev pub fence_if : Bool → Lines → Lines
fence_if b ls = cond b (fenced_lines ls) ls

abbrev pub flush_if : Bool → Input → Flush → ℕ → ℕ → Lines → Lines
flush_if b I flush a n ls = cond b (flushed_lines I flush a n ls) ls

-- A fact about the calls that made the program's frames, its lines, and the lines of the repaired program once the
-- inserted instructions that come next are done.
pub record Keeps (P : Program) (plan : Plan) (skip : Site → Bool) (I : Input) (Holds : List Level → Lines → Lines → Type 0) : Type 0 where
  pub start : (n : ℕ) → Holds [] (fresh_lines n) (fresh_lines n)
  pub fence : (up : List Level) (ls ls' : Lines) → Holds up ls ls' → Holds up (fenced_lines ls) (fenced_lines ls')
  pub more_fence : (up : List Level) (ls ls' : Lines) → Holds up ls ls' → Holds up ls (fenced_lines ls')
  pub more_flush : (up : List Level) (ls ls' : Lines) (flush' : Flush) (a n : ℕ) → Holds up ls ls' → Holds up ls (flushed_lines I flush' a n ls')
  -- A flush of both, later than all before, and then the planned fence.
  pub flush : (up : List Level) (ls ls' : Lines) (flush flush' : Flush) (a n : ℕ) (c : Bool) → (has_site plan.fence_after flush.site ≡ true → c ≡ true) →
      ((f : Flush) → Known ls f → f.step < flush.step) →
      Holds up ls ls' → Holds up (flushed_lines I flush a n ls) (fence_if c (flushed_lines I flush' a n ls'))
  -- A flush with a fence of both.
  pub persist : (up : List Level) (ls ls' : Lines) (flush flush' : Flush) (a n : ℕ) →
      Holds up ls ls' → Holds up (fenced_lines (flushed_lines I flush a n ls)) (fenced_lines (flushed_lines I flush' a n ls'))
  -- A store of both into the region, at site s and at s', and then the inserted flush of n bytes, which reaches the
  -- store's lines, and the inserted fence.
  pub store : (up up' : List Level) (counts counts' : Counts) (s s' : Site) (a : ℕ) (bytes : List ℕ) (clone : Bool) (flush' : Flush) (n : ℕ) (ls ls' : Lines) →
      in_region I a (length bytes) ≡ true →
      flushes_lines I a n ≡ true →
      ((j : ℕ) → has_bytes j (a - I.base) n ≡ has_bytes j (a - I.base) (length bytes)) →
      (clone ≡ false → s'.function < length P.functions) →
      ((v : Level) → In v up → has_site plan.hoist v.call ≡ true → clone ≡ true) →
      (StayOutside P skip → skip s ≡ false) →
      Holds up ls ls' →
      Holds up (stored (part_of_store counts s up (a - I.base) bytes) (a - I.base) (length bytes) ls)
      (fence_if (has_site plan.fence_after s || has_site plan.hoist s) (flush_if (has_site plan.flush_after s || (clone && not (skip s))) I flush' a n (stored (part_of_store counts' s' up' (a - I.base) bytes) (a - I.base) (length bytes) ls')))
  -- A call, a return of a call that is not hoisted, and one of a hoisted call, which a fence follows.
  pub call : (up : List Level) (l : Level) (ls ls' : Lines) → Holds up ls ls' → Holds (l ∷ up) ls ls'
  pub return : (up : List Level) (l : Level) (ls ls' : Lines) → ¬ (has_site plan.hoist l.call ≡ true) → Holds (l ∷ up) ls ls' → Holds up ls ls'
  pub fenced_return : (up : List Level) (l : Level) (ls ls' : Lines) → Holds (l ∷ up) ls ls' → Holds up ls (fenced_lines ls')
