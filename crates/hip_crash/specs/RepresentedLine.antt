-- What is kept of a cache line represents that line of a run.
use Rattle.std.specs.Prelude.{◌≡◌, ℕ, ◌+◌, ◌*◌, ◌<◌, ◌≤◌, true, List, [], ◌∷◌, length, drop, take, Some, slice_get, slice_index}
use Rattle.hip_lines.specs.Image.{byte_after}
use Rattle.hip_lines.specs.Line.{Line}
use Rattle.hip_types.specs.declared.areas.TheConstants.{LINE_SIZE}
use Rattle.hip_runs.specs.Crash.{covers, byte_of}
use Rattle.hip_runs.specs.State.{StorePart}
use Rattle.hip_crash.specs.Kept.{Kept}
use Rattle.hip_crash.specs.Values.{stored_covers, stored_byte}
use Rattle.hip_crash.specs.declared.values.StoredValue.{StoredValue}

-- The stored value gives line j the same bytes as the part.
pub record IsAlike (j : ℕ) (v : StoredValue) (x : StorePart) : Type 0 where
  pub same_covers : (b : ℕ) → LINE_SIZE * j ≤ b → b < LINE_SIZE * j + LINE_SIZE
      → stored_covers v b ≡ covers x b
  pub same_bytes : (b : ℕ) → LINE_SIZE * j ≤ b → b < LINE_SIZE * j + LINE_SIZE → covers x b ≡ true →
      stored_byte v b ≡ byte_of x b

-- There are as many stored values as parts, and each value gives line j the same bytes as the part at its place.
abbrev pub AreAlike : ℕ → List StoredValue → List StorePart → Type 0
AreAlike j [] [] = Unit {0}
AreAlike j (v ∷ vs) (x ∷ xs) = IsAlike j v x × AreAlike j vs xs
AreAlike j [] (x ∷ xs) = ⊥
AreAlike j (v ∷ vs) [] = ⊥

-- k is what is kept of line j of a run over these initial bytes.
pub record IsKeptOf (image : List ℕ) (j : ℕ) (k : Kept) (l : Line StorePart) : Type 0 where
  pub least : k.least ≡ l.durable
  pub flushed : l.durable + k.flushed ≡ l.flushed
  pub later : AreAlike j k.later (drop l.durable l.parts)
  pub long : length k.bytes ≡ LINE_SIZE
  pub bytes : (i : ℕ) → i < LINE_SIZE → slice_index k.bytes i
      ≡ byte_after covers byte_of (take l.durable l.parts) (LINE_SIZE * j + i) (slice_index image (LINE_SIZE * j + i))

-- The same for all lines.
pub record AreKeptOf (image : List ℕ) (see : ℕ → Kept) (ls : List (Line StorePart)) : Type 0 where
  pub are : (j : ℕ) (l : Line StorePart) → slice_get ls j ≡ Some l → IsKeptOf image j (see j) l
