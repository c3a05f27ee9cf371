-- Laws of lines: what a change of some lines does to each line, what it does to the lines with a function applied to
-- each, and which lines a range reaches.
use Rattle.std.proofs.Common.{◌≡◌, ℕ, zero, suc, ◌+◌, ◌/◌, ◌-◌, ◌<◌, ◌≤◌, Bool, true, false, cond, List, [], ◌∷◌, length, map, Some, option_map, slice_get, refl, sym, ap, ap₂, ◌∙◌, subst, arith, length-append}
use Rattle.std.proofs.lemmas.List.{map-append, length-map}
use Rattle.std.proofs.lemmas.Bool.Decides.{nat_tests}
use Rattle.hip_lines.specs.Line.{Line, IsOrdered, AreOrdered, with_part, flushed_line, fenced_line, map_line, start_in, end_in, has_bytes, change_from, change_range, stored, flushed, fenced, fresh_lines}
use Rattle.hip_types.specs.declared.areas.TheConstants.{LINE_SIZE}

-- ---- which lines a range reaches

-- A byte of the range is in the part of its line.
pub has_bytes-of_byte : (o n b : ℕ) → o ≤ b → b < o + n → (has_bytes (b / LINE_SIZE) o n ≡ true)
    × (start_in (b / LINE_SIZE) o ≤ b) × (b < end_in (b / LINE_SIZE) o n)
has_bytes-of_byte o n b h k = (grind (arith, nat_tests), omega arith, omega arith)

-- A byte of a line's part of the range is in the range and in that line.
pub byte-of_part : (o n j b : ℕ) → start_in j o ≤ b → b < end_in j o n → (o ≤ b) × (b < o + n)
    × (b / LINE_SIZE ≡ j)
byte-of_part o n j b h k = (omega arith, omega arith, omega arith)

-- A range reaches only the lines from the line of its first byte up to the line of its last byte.
pub has_bytes-other : (o n j : ℕ) → has_bytes j o n ≡ true → (o / LINE_SIZE ≤ j)
    × (j ≤ (o + n - 1) / LINE_SIZE)
    × (0 < n)
has_bytes-other o n j h = (grind (arith, nat_tests), grind (arith, nat_tests), grind (arith, nat_tests))

-- ---- changes line by line

module _ {L : Type 0} (f : ℕ → L → L) (o n : ℕ) where
  pub length-change_from : (j : ℕ) (ls : List L) → length (change_from f o n j ls) ≡ length ls
  length-change_from j [] = refl
  length-change_from j (l ∷ ls) = ap suc (length-change_from (suc j) ls)

  pub slice_get-change_from : (j : ℕ) (ls : List L) (k : ℕ)
      → slice_get (change_from f o n j ls) k ≡ option_map (λ l. cond (has_bytes (j + k) o n) (f (j + k) l) l)
      (slice_get ls k)
  slice_get-change_from j [] k = refl
  slice_get-change_from j (l ∷ ls) zero =
      ap (λ i. Some (cond (has_bytes i o n) (f i l) l)) (let e : j ≡ j + 0 = omega arith in e)
  slice_get-change_from j (l ∷ ls) (suc k) =
      slice_get-change_from (suc j) ls k ∙ ap
      (λ i. option_map (λ l. cond (has_bytes i o n) (f i l) l) (slice_get ls k))
      (let e : suc j + k ≡ j + suc k = omega arith in e)

  pub slice_get-change_range : (ls : List L) (k : ℕ)
      → slice_get (change_range f o n ls) k ≡ option_map (λ l. cond (has_bytes k o n) (f k l) l) (slice_get ls k)
  slice_get-change_range ls k =
      slice_get-change_from 0 ls k ∙ ap (λ i. option_map (λ l. cond (has_bytes i o n) (f i l) l) (slice_get ls k))
      (let e : 0 + k ≡ k = omega arith in e)

-- To change lines and then apply a function g to each is to apply g first and then make the matching change.
pub map-change_from : {L M : Type 0} (g : L → M) (f : ℕ → L → L) (f' : ℕ → M → M) (o n : ℕ)
    → ((j : ℕ) (l : L) → g (f j l) ≡ f' j (g l)) → (j : ℕ) (ls : List L)
    → map g (change_from f o n j ls) ≡ change_from f' o n j (map g ls)
map-change_from g f f' o n h j [] = refl
map-change_from {L} {M} g f f' o n h j (l ∷ ls) =
    ap₂ (λ x xs. x ∷ xs) (here (has_bytes j o n)) (map-change_from g f f' o n h (suc j) ls)
  where
    here : (b : Bool) → g (cond b (f j l) l) ≡ cond b (f' j (g l)) (g l)
    here true = h j l
    here false = refl

-- ---- order

pub ordered-with_part : {P : Type 0} (x : P) (l : Line P) → IsOrdered l → IsOrdered (with_part x l)
ordered-with_part x l h =
    record { durable = h.durable; flushed = omega (arith, h.flushed, length-append l.parts (x ∷ [])) }

pub ordered-flushed_line : {P : Type 0} (l : Line P) → IsOrdered l → IsOrdered (flushed_line l)
ordered-flushed_line l h = record { durable = omega (arith, h.durable, h.flushed); flushed = omega arith }

pub ordered-fenced_line : {P : Type 0} (l : Line P) → IsOrdered l → IsOrdered (fenced_line l)
ordered-fenced_line l h = record { durable = omega arith; flushed = h.flushed }

pub ordered-map_line : {P Q : Type 0} (f : P → Q) (l : Line P) → IsOrdered l → IsOrdered (map_line f l)
ordered-map_line f l h = record { durable = h.durable; flushed = omega (arith, h.flushed, length-map l.parts f) }

pub ordered-change_from : {P : Type 0} (f : ℕ → Line P → Line P) (o n : ℕ)
    → ((j : ℕ) (l : Line P) → IsOrdered l → IsOrdered (f j l)) → (j : ℕ) (ls : List (Line P))
    → AreOrdered ls
    → AreOrdered (change_from f o n j ls)
ordered-change_from f o n h j [] a = a
ordered-change_from f o n h j (l ∷ ls) a = (here (has_bytes j o n), ordered-change_from f o n h (suc j) ls a.1)
  where
    here : (b : Bool) → IsOrdered (cond b (f j l) l)
    here true = h j l a.0
    here false = a.0

pub ordered-stored : {P : Type 0} (part : ℕ → P) (o n : ℕ) (ls : List (Line P)) → AreOrdered ls
    → AreOrdered (stored part o n ls)
ordered-stored part o n ls a =
    ordered-change_from (λ j l. with_part (part j) l) o n (λ j l h. ordered-with_part (part j) l h) 0 ls a

pub ordered-flushed : {P : Type 0} (o n : ℕ) (ls : List (Line P)) → AreOrdered ls → AreOrdered (flushed o n ls)
ordered-flushed o n ls a = ordered-change_from (λ _ l. flushed_line l) o n (λ _ l h. ordered-flushed_line l h) 0 ls a

pub ordered-fenced : {P : Type 0} (ls : List (Line P)) → AreOrdered ls → AreOrdered (fenced ls)
ordered-fenced [] a = a
ordered-fenced (l ∷ ls) a = (ordered-fenced_line l a.0, ordered-fenced ls a.1)

pub ordered-fresh_lines : (P : Type 0) (n : ℕ) → AreOrdered (fresh_lines {P = P} n)
unfolding fresh_lines
ordered-fresh_lines P zero = tt
ordered-fresh_lines P (suc n) = (record { durable = omega arith; flushed = omega arith }, ordered-fresh_lines P n)

-- A line of ordered lines is ordered.
pub ordered-at : {P : Type 0} (ls : List (Line P)) (j : ℕ) (l : Line P) → AreOrdered ls
    → slice_get ls j ≡ Some l
    → IsOrdered l
ordered-at [] j l a e = absurd (let h : ⊥ = cc in h)
ordered-at (x ∷ ls) zero l a e = let h : x ≡ l = cc in subst IsOrdered h a.0
ordered-at (x ∷ ls) (suc j) l a e = ordered-at ls j l a.1 e

-- ---- lines seen through a function of their parts

pub map_line-with_part : {P Q : Type 0} (f : P → Q) (x : P) (l : Line P)
    → map_line f (with_part x l) ≡ with_part (f x) (map_line f l)
map_line-with_part f x l =
    ap (λ ps. record { parts = ps; flushed = l.flushed; durable = l.durable }) (map-append f l.parts (x ∷ []))

pub map_line-flushed_line : {P Q : Type 0} (f : P → Q) (l : Line P)
    → map_line f (flushed_line l) ≡ flushed_line (map_line f l)
map_line-flushed_line f l =
    ap (λ n. record { parts = map f l.parts; flushed = n; durable = l.durable }) (sym (length-map l.parts f))

pub map-stored : {P Q : Type 0} (f : P → Q) (part : ℕ → P) (o n : ℕ) (ls : List (Line P))
    → map (map_line f) (stored part o n ls) ≡ stored (λ j. f (part j)) o n (map (map_line f) ls)
map-stored f part o n ls =
    map-change_from (map_line f) (λ j l. with_part (part j) l) (λ j l. with_part (f (part j)) l) o n
    (λ j l. map_line-with_part f (part j) l) 0 ls

pub map-flushed : {P Q : Type 0} (f : P → Q) (o n : ℕ) (ls : List (Line P))
    → map (map_line f) (flushed o n ls) ≡ flushed o n (map (map_line f) ls)
map-flushed f o n ls =
    map-change_from (map_line f) (λ _ l. flushed_line l) (λ _ l. flushed_line l) o n
    (λ _ l. map_line-flushed_line f l) 0 ls

pub map-fenced : {P Q : Type 0} (f : P → Q) (ls : List (Line P))
    → map (map_line f) (fenced ls) ≡ fenced (map (map_line f) ls)
map-fenced f [] = refl
map-fenced f (l ∷ ls) = ap (λ xs. fenced_line (map_line f l) ∷ xs) (map-fenced f ls)
