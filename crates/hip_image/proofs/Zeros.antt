-- Lists that end with zeros, and lines of them.
use Rattle.std.proofs.Common.{◌≡◌, ◌⊎◌, inl, inr, ℕ, ◌+◌, ◌-◌, ◌<◌, ◌≤◌, List, ◌++◌, length, replicate, take, drop, min, slice_index, slice_range, refl, sym, ap, ◌∙◌, arith, length-take}
use Rattle.std.proofs.lemmas.List.{ext_get_or, get_or-take, get_or-drop, get_or_past, get_or-replicate, get_or_append_left, get_or-append_right, length-replicate, length-drop}

below_or_not : (m n : ℕ) → (m < n) ⊎ (n ≤ m)
below_or_not m n = grind arith

-- Zeros at the end of a list do not change what is read at an index.
pub index-zeros : (xs : List ℕ) (n i : ℕ) → slice_index xs i ≡ slice_index (xs ++ replicate n 0) i
index-zeros xs n i = go (below_or_not i (length xs)) (below_or_not (i - length xs) n)
  where
    go : (i < length xs) ⊎ (length xs ≤ i) → (i - length xs < n) ⊎ (n ≤ i - length xs) → slice_index xs i ≡ slice_index (xs ++ replicate n 0) i
    go (inl l) y = sym (get_or_append_left xs (replicate n 0) 0 i l)
    go (inr l) (inl m) = get_or_past xs i 0 l ∙ sym (get_or-append_right xs (replicate n 0) (length xs) i 0 refl l ∙ get_or-replicate n (i - length xs) 0 0 m)
    go (inr l) (inr m) = get_or_past xs i 0 l ∙ sym (get_or-append_right xs (replicate n 0) (length xs) i 0 refl l ∙ get_or_past (replicate n 0) (i - length xs) 0 (omega (arith, m, length-replicate {A = ℕ} n 0)))

-- 64 bytes are those of a list from `start` on, if they are a part of it and then zeros from its end on.
pub index-front : (xs bytes : List ℕ) (start from to i : ℕ) → from ≡ min start (length xs) → to ≡ min (length xs) (from + 64)
    → ((j : ℕ) → j < length (slice_range xs from to) → slice_index bytes j ≡ slice_index (slice_range xs from to) j)
    → ((j : ℕ) → length (slice_range xs from to) ≤ j → slice_index bytes j ≡ slice_index (replicate 64 0) j)
    → i < 64 → slice_index bytes i ≡ slice_index xs (start + i)
index-front xs bytes start from to i f t low high h = go (below_or_not (start + i) (length xs))
  where
    len : length (slice_range xs from to) ≡ to - from
    len = omega (arith, length-take (to - from) (drop from xs), length-drop from xs, f, t)

    go : (start + i < length xs) ⊎ (length xs ≤ start + i) → slice_index bytes i ≡ slice_index xs (start + i)
    go (inl l) =
        let same : from ≡ start = omega (arith, f, l) in
        let within : i < to - from = omega (arith, f, t, l, h) in
        low i (omega (arith, len, within)) ∙ get_or-take (to - from) (drop from xs) i 0 within ∙ get_or-drop from xs i 0 ∙ ap (λ n. slice_index xs (n + i)) same
    go (inr l) = high i (omega (arith, len, f, t, l)) ∙ get_or-replicate 64 i 0 0 h ∙ sym (get_or_past xs (start + i) 0 l)

-- A line of a list that ends with zeros.
pub line-is : (xs bytes : List ℕ) (n at : ℕ) → length bytes ≡ 64 → at + 64 ≤ length (xs ++ replicate n 0)
    → ((i : ℕ) → i < 64 → slice_index bytes i ≡ slice_index xs (at + i)) → bytes ≡ take 64 (drop at (xs ++ replicate n 0))
line-is xs bytes n at len h f =
    ext_get_or 0 bytes (take 64 (drop at (xs ++ replicate n 0)))
    (omega (arith, len, h, length-take 64 (drop at (xs ++ replicate n 0)), length-drop at (xs ++ replicate n 0)))
    (λ i lt.
    f i (omega (arith, lt, len)) ∙ index-zeros xs n (at + i)
    ∙ sym (get_or-take 64 (drop at (xs ++ replicate n 0)) i 0 (omega (arith, lt, len)) ∙ get_or-drop at (xs ++ replicate n 0) i 0))
