-- Crash images: the contents that a crash may leave in the region.
use Rattle.std.specs.Prelude.{◌≡◌, ℕ, suc, ◌+◌, ◌*◌, ◌/◌, ◌<◌, ◌≤◌, Bool, cond, List, [], ◌∷◌, length, take, Option, Some, None, slice_get, slice_index}
use Rattle.hip_lines.specs.Line.{Line}
use Rattle.hip_types.specs.declared.areas.TheConstants.{LINE_SIZE}

-- P's parts cover bytes, and give each byte that they cover its value.
module _ {P : Type 0} (covers : P → ℕ → Bool) (value : P → ℕ → ℕ) where
  -- Byte b after the parts in order, where it was `first` before.
  abbrev pub byte_after : List P → ℕ → ℕ → ℕ
  byte_after [] b first = first
  byte_after (p ∷ ps) b first = byte_after ps b (cond (covers p b) (value p b) first)

  -- In line j, the content r is `first` changed by the first q parts of the line, and these have all durable parts.
  pub record IsLineImageAt (first r : List ℕ) (j : ℕ) (l : Line P) (q : ℕ) : Type 0 where
    pub least : l.durable ≤ q
    pub most : q ≤ length l.parts
    pub bytes : (b : ℕ) → LINE_SIZE * j ≤ b → b < LINE_SIZE * j + LINE_SIZE
        → slice_index r b ≡ byte_after (take q l.parts) b (slice_index first b)

  -- In line j, a crash may leave the content r.
  abbrev pub IsLineImage : List ℕ → List ℕ → ℕ → Line P → Type 0
  IsLineImage first r j l = (q : ℕ) × IsLineImageAt first r j l q

  -- A possible content after a crash: each line, independently of the others, has its initial bytes changed by some
  -- first parts of its list, which include all durable parts.
  pub record IsImage (first : List ℕ) (ls : List (Line P)) (r : List ℕ) : Type 0 where
    pub whole : length r ≡ length first
    pub lines : (j : ℕ) (l : Line P) → slice_get ls j ≡ Some l → IsLineImage first r j l

  -- The parts of a line, if it is there.
  abbrev pub parts_of : Option (Line P) → List P
  parts_of None = []
  parts_of (Some l) = l.parts

  -- The content that a pick gives, from byte b on: each line has as many of its first parts as the pick gives for it.
  abbrev pub image_from : List (Line P) → (ℕ → ℕ) → ℕ → List ℕ → List ℕ
  image_from ls pick b [] = []
  image_from ls pick b (x ∷ xs) =
      byte_after (take (pick (b / LINE_SIZE)) (parts_of (slice_get ls (b / LINE_SIZE)))) b x
      ∷ image_from ls pick (suc b) xs

  abbrev pub image_of : List (Line P) → (ℕ → ℕ) → List ℕ → List ℕ
  image_of ls pick first = image_from ls pick 0 first

  -- A pick gives each line a number from its durable number to its length.
  abbrev pub IsPick : List (Line P) → (ℕ → ℕ) → Type 0
  IsPick ls pick = (j : ℕ) (l : Line P) → slice_get ls j ≡ Some l → (l.durable ≤ pick j)
      × (pick j ≤ length l.parts)
