-- Loose bytes: those that a crash may lose.
use Rattle.std.specs.Prelude.{◌≡◌, ℕ, suc, ◌<◌, ◌≤◌, Bool, true, false, cond, List, [], ◌∷◌, Option, Some, None, slice_get}
use Rattle.hip_lines.specs.Line.{Line}

module _ {P : Type 0} (covers : P → ℕ → Bool) where
  -- Part x is at place k and covers byte b, and no later part covers it.
  pub record IsLastOver (ps : List P) (b k : ℕ) (x : P) : Type 0 where
    pub at : slice_get ps k ≡ Some x
    pub over : covers x b ≡ true
    pub last : (j : ℕ) (y : P) → k < j → slice_get ps j ≡ Some y → covers y b ≡ false

  -- Byte b is loose, by the part x at place k: the last part over it, which is not durable.
  pub record IsLooseBy (l : Line P) (b k : ℕ) (x : P) : Type 0 where
    pub last_over : IsLastOver l.parts b k x
    pub not_durable : l.durable ≤ k

  -- A byte is loose if some part covers it and the last part that covers it is not durable.
  abbrev pub IsLoose : Line P → ℕ → Type 0
  IsLoose l b = (k : ℕ) × (x : P) × IsLooseBy l b k x

  -- The later of two search results. The place in the second result is counted from place 1 of the whole list.
  abbrev pub later : Option (ℕ × P) → Option (ℕ × P) → Option (ℕ × P)
  later first None = first
  later first (Some (k, x)) = Some (suc k, x)

  -- The last part over byte b with its place, if there is one.
  abbrev pub last_over : ℕ → List P → Option (ℕ × P)
  last_over b [] = None
  last_over b (p ∷ ps) = later (cond (covers p b) (Some (0, p)) None) (last_over b ps)
