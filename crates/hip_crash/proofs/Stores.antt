-- A store is taken up line by line.
use Rattle.std.proofs.Common.{◌≡◌, ◌≢◌, ◌⊎◌, inl, inr, ℕ, ◌+◌, ◌/◌, ◌<◌, ◌≤◌, ◌==◌, Bool, true, false, cond, ◌&&◌, max, nat_le, nat_lt, List, [], ◌∷◌, length, refl, sym, ap, ◌∙◌, subst, arith, length-append}
use Rattle.std.proofs.lemmas.Bool.Decides.{nat_tests}
use Rattle.hip_lines.specs.Line.{has_bytes}
use Rattle.hip_crash.specs.Kept.{Kept, with_store}
use Rattle.hip_crash.specs.PendingChange.{with_waiting, WaitsWithin}
use Rattle.hip_crash.specs.declared.values.StoredValue.{StoredValue}
use Rattle.hip_crash.specs.declared.pending_change.Waiting.{Waiting}
use Rattle.hip_crash.specs.declared.pending_change.Waiting.TheVariants as waits
use Rattle.hip_lines.specs.Laws.ItemLaws.{equal_or_not}

-- The parts of a store wait in its lines from this one on.
pub record WaitsFrom (v : StoredValue) (line : ℕ) (w : Waiting) : Type 0 where
  pub from : ℕ
  pub waiting : w ≡ waits.Store v from
  pub same : (j : ℕ) → v.offset / 64 ≤ j → nat_le from j ≡ nat_le line j

pub waits-start : (v : StoredValue) (from line : ℕ) (w : Waiting) → w ≡ waits.Store v from → line ≡ max from (v.offset / 64) → WaitsFrom v line w
waits-start v from line w e m = record { from = from; waiting = e; same = λ j h. same j (v.offset / 64) h m }
  where
    same : (j low : ℕ) → low ≤ j → line ≡ max from low → nat_le from j ≡ nat_le line j
    same j low h m = grind (arith, nat_tests)

pub waits-more : (v : StoredValue) (line : ℕ) (w : Waiting) → w ≡ waits.Store v (line + 1) → WaitsFrom v (line + 1) w
waits-more v line w e = record { from = line + 1; waiting = e; same = λ j h. refl }

pub waits-within : (v : StoredValue) (line : ℕ) (w : Waiting) (image : List ℕ) → WaitsFrom v line w → v.offset + v.size ≤ length image → WaitsWithin w image
waits-within v line w image f h = subst (λ x. WaitsWithin x image) (sym f.waiting) h

module _ (v : StoredValue) (first end : ℕ) (e : first ≡ v.offset / 64) (ends : (j : ℕ) → has_bytes j v.offset v.size ≡ (nat_le first j && nat_lt j end)) where
  range : (j : ℕ) → has_bytes j v.offset v.size ≡ true → (first ≤ j) × (j < end)
  range j h = inside j (sym (ends j) ∙ h)
    where
      inside : (j : ℕ) → nat_le first j && nat_lt j end ≡ true → (first ≤ j) × (j < end)
      inside j h = (grind (arith, nat_tests), grind (arith, nat_tests))

  has_line : (line : ℕ) → first ≤ line → line < end → has_bytes line v.offset v.size ≡ true
  has_line line h k = ends line ∙ inside h k
    where
      inside : first ≤ line → line < end → nat_le first line && nat_lt line end ≡ true
      inside h k = grind (arith, nat_tests)

  is_below : (line j : ℕ) → line ≤ j → nat_le line j ≡ true
  is_below line j h = grind (arith, nat_tests)

  is_above : (line j : ℕ) → j < line → nat_le line j ≡ false
  is_above line j h = grind (arith, nat_tests)

  one_more : (line j : ℕ) → j ≢ line → nat_le line j ≡ nat_le (line + 1) j
  one_more line j ne = grind (arith, nat_tests)

  -- The first line in which a part waits is seen with the store.
  pub seen-here : (w : Waiting) (line : ℕ) (k : Kept) → first ≤ line → line < end → WaitsFrom v line w → with_waiting w line k ≡ with_store v k
  seen-here w line k low lt f =
      ap (λ x. with_waiting x line k) f.waiting
      ∙ ap (λ b. cond b (with_store v k) k) (ap (λ b. b && nat_le f.from line) (has_line line low lt) ∙ f.same line (subst (λ i. i ≤ line) e low) ∙ is_below line line (omega arith))

  -- What is seen after one more part is taken up.
  pub seen-more : (w w' : Waiting) (line j : ℕ) (k k' : Kept) → first ≤ line → line < end → WaitsFrom v line w → w' ≡ waits.Store v (line + 1) → k' ≡ cond (j == line) (with_store v k) k
      → with_waiting w' j k' ≡ with_waiting w j k
  seen-more w w' line j k k' low lt f e' q = go (equal_or_not j line)
    where
      new : with_waiting w' j k' ≡ cond (has_bytes j v.offset v.size && nat_le (line + 1) j) (with_store v k') k'
      new = ap (λ x. with_waiting x j k') e'

      old : with_waiting w j k ≡ cond (has_bytes j v.offset v.size && nat_le f.from j) (with_store v k) k
      old = ap (λ x. with_waiting x j k) f.waiting

      and_false : (b t : Bool) → t ≡ false → b && t ≡ false
      and_false true t z = z
      and_false false t z = refl

      both : (b : Bool) → has_bytes j v.offset v.size ≡ b → j ≢ line → b && nat_le (line + 1) j ≡ (b && nat_le f.from j)
      both true h ne = sym (f.same j (subst (λ i. i ≤ j) e (range j h).0) ∙ one_more line j ne)
      both false h ne = refl

      go : (((j == line) ≡ true) × (j ≡ line)) ⊎ (((j == line) ≡ false) × (j ≢ line)) → with_waiting w' j k' ≡ with_waiting w j k
      go (inl s) =
          new ∙ ap (λ b. cond b (with_store v k') k') (and_false (has_bytes j v.offset v.size) (nat_le (line + 1) j) (is_above (line + 1) j (omega (arith, s.1))))
          ∙ q ∙ ap (λ b. cond b (with_store v k) k) s.0 ∙ sym (subst (λ i. with_waiting w i k ≡ with_store v k) (sym s.1) (seen-here w line k low lt f))
      go (inr s) =
          let same : k' ≡ k = q ∙ ap (λ b. cond b (with_store v k) k) s.0 in
          new ∙ ap (λ x. cond (has_bytes j v.offset v.size && nat_le (line + 1) j) (with_store v x) x) same ∙ ap (λ b. cond b (with_store v k) k) (both (has_bytes j v.offset v.size) refl s.1) ∙ sym old

  -- After the last line no part waits.
  pub seen-end : (w : Waiting) (line j : ℕ) (k : Kept) → end ≤ line → WaitsFrom v line w → k ≡ with_waiting w j k
  seen-end w line j k h f = sym (ap (λ x. with_waiting x j k) f.waiting ∙ ap (λ b. cond b (with_store v k) k) (none (has_bytes j v.offset v.size) refl))
    where
      none : (b : Bool) → has_bytes j v.offset v.size ≡ b → b && nat_le f.from j ≡ false
      none true g = f.same j (subst (λ i. i ≤ j) e (range j g).0) ∙ is_above line j (omega (arith, h, (range j g).1))
      none false g = refl

pub room-left : (v : StoredValue) (k k' : Kept) (n : ℕ) → k' ≡ with_store v k → k'.least + length k'.later < n → k.least + length k.later + 1 < n
room-left v k k' n e h = let g = subst (λ (x : Kept). x.least + length x.later < n) e h in omega (arith, g, length-append k.later (v ∷ []))
