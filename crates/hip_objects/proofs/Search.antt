-- The search among items that follow one another: of the items that begin at or before an address, only the last one
-- may have the byte there.
use Rattle.std.proofs.Common.{ℕ, zero, suc, ◌+◌, ◌<◌, ◌≤◌, ◌≡◌, Bool, true, false, cond, nat_le, nat_lt, List, [], ◌∷◌, ◌++◌, Some, None, length, slice_index_or, length-append, refl, sym, ap, ◌∙◌, ◌⊎◌, inl, inr, arith, subst}
use Rattle.std.proofs.Math.Seq.{get_or-append_seam}
use Rattle.std.specs.List.Sorted.{IsPartitionPoint, IsPartitionedBy}
use Rattle.std.proofs.lemmas.Bool.{leb-true, leb-false, le-leb, ltb-true, ltb-false}
use Rattle.std.proofs.lemmas.List.{get_or_append_left, get_or_default}
use Rattle.hip_mem.specs.Memory.{range_contains}
use Rattle.hip_objects.specs.Order.{AreInOrder, AreSplit, first_at}

pub contains-before : (at size a : ℕ) → a < at → range_contains at size a ≡ false
contains-before at size a h = grind (arith, h)

pub contains-past : (at size a : ℕ) → at + size ≤ a → range_contains at size a ≡ false
contains-past at size a h = grind (arith, h)

contains-within : (at size a : ℕ) → at ≤ a → a < at + size → range_contains at size a ≡ true
contains-within at size a h k = grind (arith, h, k)

pub split : (i k : ℕ) → (i < k) ⊎ ((i ≡ k) ⊎ (k < i))
split i k = grind arith

module _ {X B : Type 0} (start size : X → ℕ) (stated : X → B) where
  -- No item has the byte at the address.
  abbrev pub NoneHas : ℕ → List X → Type 0
  NoneHas a xs = (i : ℕ) (d : X) → i < length xs → range_contains (start (slice_index_or xs i d)) (size (slice_index_or xs i d)) a ≡ false

  pub first_at-none : (xs : List X) (a : ℕ) → NoneHas a xs → first_at start size stated a xs ≡ None
  first_at-none [] a h = refl
  first_at-none (x ∷ xs) a h =
      ap (λ b. cond b (Some (stated x)) (first_at start size stated a xs)) (h 0 x (omega arith))
      ∙ first_at-none xs a (λ i d within. h (suc i) d (omega (arith, within)))

  pub later : (x : X) (xs : List X) → AreInOrder start size (x ∷ xs) → AreInOrder start size xs
  later x xs s = record { order = λ i j d before within. s.order (suc i) (suc j) d (omega (arith, before)) (omega (arith, within)) }

  first_at-found : (xs : List X) (a k : ℕ) (d : X) → AreInOrder start size xs → k < length xs →
      start (slice_index_or xs k d) ≤ a → a < start (slice_index_or xs k d) + size (slice_index_or xs k d) →
      first_at start size stated a xs ≡ Some (stated (slice_index_or xs k d))
  first_at-found [] a k d s within low high = absurd (omega (arith, within))
  first_at-found (x ∷ xs) a zero d s within low high =
      ap (λ b. cond b (Some (stated x)) (first_at start size stated a xs)) (contains-within (start x) (size x) a low high)
  first_at-found (x ∷ xs) a (suc k) d s within low high =
      let first = s.order 0 (suc k) d (omega arith) within in
      ap (λ b. cond b (Some (stated x)) (first_at start size stated a xs)) (contains-past (start x) (size x) a (omega (arith, first, low)))
      ∙ first_at-found xs a k d (later x xs s) (omega (arith, within)) low high

  pub none-of-none : (xs : List X) (a : ℕ) → AreSplit start xs a 0 → first_at start size stated a xs ≡ None
  none-of-none xs a p = first_at-none xs a (λ i d within. contains-before _ _ a (p.past i d (omega arith) within))

  none-but-last : (xs : List X) (a k : ℕ) → AreInOrder start size xs → AreSplit start xs a (suc k) → k < length xs →
      ((d : X) → start (slice_index_or xs k d) + size (slice_index_or xs k d) ≤ a) → first_at start size stated a xs ≡ None
  none-but-last xs a k s p within end = first_at-none xs a (λ i d inside. go i d inside (split i k))
    where
      go : (i : ℕ) (d : X) → i < length xs → (i < k) ⊎ ((i ≡ k) ⊎ (k < i)) → range_contains (start (slice_index_or xs i d)) (size (slice_index_or xs i d)) a ≡ false
      go i d inside (inl before) = contains-past _ _ a (
          let first = s.order i k d before within in
          let at = p.before k d (omega arith) within in omega (arith, first, at))
      go i d inside (inr (inl same)) = subst (λ j. range_contains (start (slice_index_or xs j d)) (size (slice_index_or xs j d)) a ≡ false) (sym same) (contains-past _ _ a (end d))
      go i d inside (inr (inr past)) = contains-before _ _ a (p.past i d (omega (arith, past)) inside)

  pub last_by : (xs : List X) (a n k : ℕ) (d : X) → AreInOrder start size xs → AreSplit start xs a n → n ≤ length xs → n ≡ suc k →
      cond (nat_lt a (start (slice_index_or xs k d) + size (slice_index_or xs k d))) (Some (stated (slice_index_or xs k d))) None ≡ first_at start size stated a xs
  last_by xs a n k d s p few some = go (nat_lt a (start (slice_index_or xs k d) + size (slice_index_or xs k d))) refl
    where
      go : (b : Bool) → nat_lt a (start (slice_index_or xs k d) + size (slice_index_or xs k d)) ≡ b →
          cond b (Some (stated (slice_index_or xs k d))) None ≡ first_at start size stated a xs
      go true high = sym (first_at-found xs a k d s (omega (arith, few, some)) (p.before k d (omega (arith, some)) (omega (arith, few, some))) (ltb-true _ _ high))
      go false end = sym (none-but-last xs a k s (subst (λ m. AreSplit start xs a m) some p) (omega (arith, few, some))
          (λ e. subst (λ y. start y + size y ≤ a) (get_or_default xs k d e (omega (arith, few, some))) (ltb-false _ _ end)))

  -- ---- what `partition_point` answers

  pub starts-in-order : (xs : List X) (a : ℕ) → AreInOrder start size xs → IsPartitionedBy (λ b. nat_le (start b) a) xs
  starts-in-order xs a s i j d upto within at = go (split i j)
    where
      go : (i < j) ⊎ ((i ≡ j) ⊎ (j < i)) → nat_le (start (slice_index_or xs i d)) a ≡ true
      go (inl before) = le-leb _ _ (let first = s.order i j d before within in let after = leb-true _ _ at in omega (arith, first, after))
      go (inr (inl same)) = subst (λ k. nat_le (start (slice_index_or xs k d)) a ≡ true) (sym same) at
      go (inr (inr past)) = absurd (omega (arith, past, upto))

  pub split_by : (xs : List X) (a n : ℕ) → IsPartitionPoint (λ b. nat_le (start b) a ≡ true) (λ b. nat_le (start b) a ≡ false) xs n → AreSplit start xs a n
  split_by xs a n (before, past) = record {
    before = λ i d first within. leb-true _ _ (before i d (omega arith) first);
    past = λ i d from within. leb-false _ _ (past i d from within);
  }

  -- ---- one more after them

  pub in_order-pushed : (xs : List X) (b : X) → AreInOrder start size xs → ((i : ℕ) (d : X) → i < length xs → start (slice_index_or xs i d) + size (slice_index_or xs i d) ≤ start b) →
      AreInOrder start size (xs ++ b ∷ [])
  in_order-pushed xs b s ends = record { order = λ i j d before within. go i j d before within (split j (length xs)) }
    where
      go : (i j : ℕ) (d : X) → i < j → j < length (xs ++ b ∷ []) → (j < length xs) ⊎ ((j ≡ length xs) ⊎ (length xs < j)) →
          start (slice_index_or (xs ++ b ∷ []) i d) + size (slice_index_or (xs ++ b ∷ []) i d) ≤ start (slice_index_or (xs ++ b ∷ []) j d)
      go i j d before within (inl inside) =
          let first = get_or_append_left xs (b ∷ []) d i (omega (arith, before, inside)) in
          let second = get_or_append_left xs (b ∷ []) d j inside in
          subst (λ x. start x + size x ≤ start (slice_index_or (xs ++ b ∷ []) j d)) (sym first)
          (subst (λ y. start (slice_index_or xs i d) + size (slice_index_or xs i d) ≤ start y) (sym second) (s.order i j d before inside))
      go i j d before within (inr (inl last)) =
          let inside : i < length xs = omega (arith, before, last) in
          let first = get_or_append_left xs (b ∷ []) d i inside in
          let second : slice_index_or (xs ++ b ∷ []) j d ≡ b = ap (λ k. slice_index_or (xs ++ b ∷ []) k d) last ∙ get_or-append_seam xs b [] d in
          subst (λ x. start x + size x ≤ start (slice_index_or (xs ++ b ∷ []) j d)) (sym first)
          (subst (λ y. start (slice_index_or xs i d) + size (slice_index_or xs i d) ≤ start y) (sym second) (ends i d inside))
      go i j d before within (inr (inr past)) = absurd (omega (arith, within, past, length-append xs (b ∷ [])))
