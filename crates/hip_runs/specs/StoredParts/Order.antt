-- The order of the parts of cache lines, of their flushes and fences, and of the calls that they were made under.
use Rattle.std.specs.Prelude.{◌≡◌, ℕ, zero, suc, ◌/◌, ◌<◌, Bool, true, false, cond, nat_lt, Option, Some, None, slice_get}
use Rattle.hip_tree.specs.declared.program.Program.{Program}
use Rattle.hip_lines.specs.Line.{Line}
use Rattle.hip_runs.specs.declared.input.Input.{Input}
use Rattle.hip_runs.specs.Crash.{covers}
use Rattle.hip_runs.specs.StoredParts.History.{AreDescending}
use Rattle.hip_runs.specs.StoredParts.Parts.{PartOf}
use Rattle.hip_runs.specs.StoredParts.Since.{fences}
use Rattle.hip_runs.specs.State.{Flush, StorePart, State, levels_of}
use Rattle.hip_runs.specs.Step.{event, run, step}
use Rattle.hip_types.specs.declared.areas.TheConstants.{LINE_SIZE}

-- The parts of a line are in the order of their stores' steps, a part is flushed exactly if it has a first flush, and
-- the bytes that a part covers are in its line.
pub record HasOrder (s : State) : Type 0 where
  pub ascend : (m : ℕ) (l : Line StorePart) (j k : ℕ) (x y : StorePart) →
      slice_get s.lines m ≡ Some l → slice_get l.parts j ≡ Some x → slice_get l.parts k ≡ Some y →
      j < k → x.step < y.step
  pub flushed : (m : ℕ) (l : Line StorePart) (k : ℕ) (x : StorePart) →
      slice_get s.lines m ≡ Some l → slice_get l.parts k ≡ Some x → k < l.flushed →
      (f : Flush) × (x.first_flush ≡ Some f)
  pub by_flush : (m : ℕ) (l : Line StorePart) (k : ℕ) (x : StorePart) (f : Flush) →
      slice_get s.lines m ≡ Some l → slice_get l.parts k ≡ Some x → x.first_flush ≡ Some f → k < l.flushed
  pub inside : (m : ℕ) (l : Line StorePart) (k : ℕ) (x : StorePart) →
      slice_get s.lines m ≡ Some l → slice_get l.parts k ≡ Some x → (b : ℕ) → covers x b ≡ true
      → b / LINE_SIZE ≡ m

-- The calls that have not returned were made one after another, and so were the calls of each part, before its store.
pub record HasCalls (s : State) : Type 0 where
  pub born : AreDescending (levels_of s.frames) s.counts.steps
  pub births : (x : StorePart) → PartOf s.lines x → AreDescending x.levels x.step

-- The last of the first n steps that is a fence.
unfoldable pub last_fence : Program → Input → ℕ → Option ℕ
last_fence P I zero = None
last_fence P I (suc n) = cond (fences (event P I (run P I n))) (Some n) (last_fence P I n)

-- Whether a step is before another step; false if there is no other.
abbrev pub is_before : ℕ → Option ℕ → Bool
is_before step None = false
is_before step (Some m) = nat_lt step m
