-- The loose bytes of a range, from which loose parts and reports follow: the tag of a loose byte is the step of its
-- store.
use Rattle.std.specs.Prelude.{◌≡◌, ℕ, Some, slice_get, nat_lt, ◌+◌, ◌<◌, ◌≤◌, Bool, not, ◌||◌, nat_eq, List, [], ◌∷◌}
use Rattle.std.specs.List.{list_all, list_any}
use Rattle.hip_grammar.specs.Spelling.{not_empty}
use Rattle.hip_lines.specs.Line.{Line}
use Rattle.hip_lines.specs.Loose.{IsLooseBy}
use Rattle.hip_lines.specs.declared.part.LooseByte.{LooseByte}
use Rattle.hip_runs.specs.Crash.{covers}
use Rattle.hip_runs.specs.StoredParts.Parts.{In}
use Rattle.hip_runs.specs.Found.Reports.{LoosePart, Range, all_flushed}
use Rattle.hip_runs.specs.StoredParts.Shown.{shown}
use Rattle.hip_runs.specs.State.{StorePart, State}
use Rattle.hip_lines.specs.Parts as bytes

-- The loose bytes of a range of a state's lines, as the code's lines give them.
abbrev pub loose_bytes : State → ℕ → ℕ → List LooseByte
loose_bytes s o n = bytes.loose_from (shown s.lines) o n

-- A part of a step's store is loose, in the n bytes from o, if some byte of them is loose by it: it is the last part
-- over the byte, and is not durable. It is flushed if its place is before the flushed number of its line.
pub record IsLoosePart (o n made : ℕ) (ls : List (Line StorePart)) (p : LoosePart) : Type 0 where
  pub line : ℕ
  pub of : Line StorePart
  pub place : ℕ
  pub byte : ℕ
  pub line_at : slice_get ls line ≡ Some of
  pub loose : IsLooseBy covers of byte place p.part
  pub low : o ≤ byte
  pub high : byte < o + n
  pub step : p.part.step ≡ made
  pub flushed : p.flushed ≡ nat_lt place of.flushed

-- Whether one of the loose bytes has the tag.
abbrev pub has_tag : ℕ → List LooseByte → Bool
has_tag made bs = list_any (λ b. nat_eq b.tag made) bs

-- Whether all loose bytes that have the tag are flushed.
abbrev pub tag_flushed : ℕ → List LooseByte → Bool
tag_flushed made bs = list_all (λ b. not (nat_eq b.tag made) || b.flushed) bs

-- For each loose part of a store there is a loose byte with the store's tag that is flushed exactly if the part is, and
-- for each loose byte with the tag there is a part that is flushed exactly if the byte is.
pub record AreAlike (ps : List LoosePart) (bs : List LooseByte) (made : ℕ) : Type 0 where
  pub byte_of : (p : LoosePart) → In p ps → (b : LooseByte) × In b bs × (b.tag ≡ made)
      × (b.flushed ≡ p.flushed)
  pub part_of : (b : LooseByte) → In b bs → b.tag ≡ made → (p : LoosePart) × In p ps
      × (p.flushed ≡ b.flushed)

-- A store has loose parts exactly if some loose byte has its tag, and all parts are flushed exactly if all those bytes
-- are.
pub record AreStatedBy (ps : List LoosePart) (bs : List LooseByte) (made : ℕ) : Type 0 where
  pub alike : AreAlike ps bs made
  pub some : not_empty ps ≡ has_tag made bs
  pub flushed : all_flushed ps ≡ tag_flushed made bs

-- The numbers ascend. Each is at least a and below b.
abbrev pub AscendWithin : ℕ → ℕ → List ℕ → Type 0
AscendWithin a b [] = Unit {0}
AscendWithin a b (x ∷ xs) = (a ≤ x) × (x < b) × AscendWithin (x + 1) b xs

-- A function has nothing at the numbers from a up to b that are not in the list.
abbrev pub IsNoneBeside : {A : Type 0} → (ℕ → List A) → ℕ → ℕ → List ℕ → Type 0
IsNoneBeside f a b xs = (y : ℕ) → a ≤ y → y < b → ¬ In y xs → f y ≡ []

-- The ascending list holds the tags of all loose bytes of the range.
pub record HoldsTags (s : State) (range : Range) (tags : List ℕ) : Type 0 where
  pub ascend : AscendWithin 0 s.counts.steps tags
  pub holds : (b : LooseByte) → In b (loose_bytes s range.offset range.size) → In b.tag tags
