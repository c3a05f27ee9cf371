-- The tags that have a use are moved to the front.
use Rattle.std.proofs.Common.{◌≡◌, ◌≢◌, ◌⊎◌, inl, inr, ℕ, zero, suc, ◌+◌, ◌-◌, ◌<◌, ◌≤◌, List, [], ◌∷◌, length, take, replicate, slice_index, slice_set, refl, sym, ap, subst, ◌∙◌, arith}
use Rattle.std.proofs.lemmas.List.{length-set, length-take}
use Rattle.hip_lines.specs.Shown.{IsRenumbered}
use Rattle.hip_directory.specs.Tables.{set_once, count_set}
use Rattle.hip_lines.specs.Uses.{NumbersAreNoted, AreUses}

set-here : (xs : List ℕ) (i v : ℕ) → i < length xs → slice_index (slice_set xs i v) i ≡ v
set-here [] i v h = absurd (omega arith)
set-here (x ∷ xs) zero v h = refl
set-here (x ∷ xs) (suc i) v h = set-here xs i v (omega arith)

set-other : (xs : List ℕ) (i j v : ℕ) → j ≢ i → slice_index (slice_set xs i v) j ≡ slice_index xs j
set-other [] i j v ne = refl
set-other (x ∷ xs) zero zero v ne = absurd (ne refl)
set-other (x ∷ xs) zero (suc j) v ne = refl
set-other (x ∷ xs) (suc i) zero v ne = refl
set-other (x ∷ xs) (suc i) (suc j) v ne = set-other xs i j v (λ e. ne (ap suc e))

set-keeps : (xs : List ℕ) (i j v : ℕ) → 0 < v → 0 < slice_index xs j → 0 < slice_index (slice_set xs i v) j
set-keeps [] i j v p h = h
set-keeps (x ∷ xs) zero zero v p h = p
set-keeps (x ∷ xs) zero (suc j) v p h = h
set-keeps (x ∷ xs) (suc i) zero v p h = h
set-keeps (x ∷ xs) (suc i) (suc j) v p h = set-keeps xs i j v p h

-- ---- how many are set

set_once-most : (n : ℕ) → set_once n ≤ 1
set_once-most zero = omega arith
set_once-most (suc n) = omega arith

count-set : (xs : List ℕ) (i v : ℕ) → count_set (slice_set xs i v) ≤ count_set xs + 1
count-set [] i v = omega arith
count-set (x ∷ xs) zero v = omega (arith, set_once-most v)
count-set (x ∷ xs) (suc i) v = omega (arith, count-set xs i v)

count-take : (xs : List ℕ) (n : ℕ) → count_set (take n xs) ≤ count_set xs
count-take xs zero = omega arith
count-take [] (suc n) = omega arith
count-take (x ∷ xs) (suc n) = omega (arith, count-take xs n)

count-take_more : (xs : List ℕ) (n : ℕ) → count_set (take n xs) ≤ count_set (take (suc n) xs)
count-take_more [] zero = omega arith
count-take_more [] (suc n) = omega arith
count-take_more (x ∷ xs) zero = omega arith
count-take_more (x ∷ xs) (suc n) = omega (arith, count-take_more xs n)

count-take_set : (xs : List ℕ) (n : ℕ) → 0 < slice_index xs n → count_set (take n xs) + 1 ≤ count_set (take (suc n) xs)
count-take_set [] n h = absurd (omega (arith, h))
count-take_set (zero ∷ xs) zero h = absurd (omega (arith, h))
count-take_set (suc x ∷ xs) zero h = omega arith
count-take_set (x ∷ xs) (suc n) h = omega (arith, count-take_set xs n h)

pub count-none : (n : ℕ) → count_set (replicate n 0) ≡ 0
count-none zero = refl
count-none (suc n) = omega (arith, count-none n)

-- ---- the uses

pub noted-none : (numbers uses : List ℕ) → NumbersAreNoted numbers 0 uses uses
noted-none numbers uses = record { size = refl; bytes = λ i h. absurd (omega (arith, h)); few = omega arith }

pub noted-more : (numbers old uses : List ℕ) (n : ℕ) → slice_index numbers n < length old → NumbersAreNoted numbers n old uses → NumbersAreNoted numbers (n + 1) old (slice_set uses (slice_index numbers n) 1)
noted-more numbers old uses n lt h = record {
  size = length-set uses (slice_index numbers n) 1 ∙ h.size;
  bytes = λ i less. go i (split i n less);
  few = omega (arith, h.few, count-set uses (slice_index numbers n) 1);
}
  where
    split : (i n : ℕ) → i < n + 1 → (i < n) ⊎ (n ≡ i)
    split i n h = grind arith

    go : (i : ℕ) → (i < n) ⊎ (n ≡ i) → 0 < slice_index (slice_set uses (slice_index numbers n) 1) (slice_index numbers i)
    go i (inl less) = set-keeps uses (slice_index numbers n) (slice_index numbers i) 1 (omega arith) (h.bytes i less)
    go i (inr e) = subst (λ j. 0 < slice_index (slice_set uses (slice_index numbers n) 1) (slice_index numbers j)) e (omega (arith, set-here uses (slice_index numbers n) 1 (omega (arith, lt, h.size))))

pub uses-noted : (numbers old uses : List ℕ) (flushed last : ℕ) → flushed ≤ last → last < 256 → length old ≡ 256 → count_set old ≡ 0 → length numbers ≡ 64 → NumbersAreNoted numbers (length numbers) old uses → AreUses numbers flushed last (slice_set (slice_set (slice_set uses 0 1) flushed 1) last 1)
uses-noted numbers old uses flushed last le lt size none line h =
    let a : List ℕ = slice_set uses 0 1 in
    let b : List ℕ = slice_set a flushed 1 in
    let one : 0 < 1 = omega arith in
    let size_a : length a ≡ 256 = length-set uses 0 1 ∙ h.size ∙ size in
    let size_b : length b ≡ 256 = length-set a flushed 1 ∙ size_a in
    record {
      size = length-set b last 1 ∙ size_b;
      line = line;
      at_bytes = λ i less. set-keeps b last (slice_index numbers i) 1 one (set-keeps a flushed (slice_index numbers i) 1 one (set-keeps uses 0 (slice_index numbers i) 1 one (h.bytes i less)));
      at_zero = set-keeps b last 0 1 one (set-keeps a flushed 0 1 one (omega (arith, set-here uses 0 1 (omega (arith, h.size, size)))));
      at_flushed = set-keeps b last flushed 1 one (omega (arith, set-here a flushed 1 (omega (arith, size_a, le, lt))));
      at_last = omega (arith, set-here b last 1 (omega (arith, size_b, lt)));
      few = omega (arith, h.few, none, count-set uses 0 1, count-set a flushed 1, count-set b last 1);
    }

-- ---- the tags, up to one of them

pub record Renumbered (uses news tags moved : List ℕ) (k kept : ℕ) : Type 0 where
  pub size : length news ≡ length uses
  pub len : length moved ≡ length tags
  pub few : kept ≤ k
  pub count : kept ≤ count_set (take (k + 1) uses)
  pub later : (m : ℕ) → k < m → slice_index news m ≡ slice_index uses m
  pub tags_later : (i : ℕ) → k ≤ i → slice_index moved i ≡ slice_index tags i
  pub some : (i : ℕ) → i < k → 0 < slice_index uses (suc i) → (0 < slice_index news (suc i)) × (slice_index news (suc i) ≤ kept)
  pub place : (i : ℕ) → i < k → 0 < slice_index uses (suc i) → slice_index moved (slice_index news (suc i) - 1) ≡ slice_index tags i
  pub rising : (i j : ℕ) → i < j → j < k → 0 < slice_index uses (suc i) → 0 < slice_index uses (suc j) → slice_index news (suc i) < slice_index news (suc j)
  pub top : (i : ℕ) → suc i ≡ k → 0 < slice_index uses (suc i) → slice_index news (suc i) ≡ kept

pub renumbered-none : (uses tags : List ℕ) → Renumbered uses uses tags tags 0 0
renumbered-none uses tags = record {
  size = refl;
  len = refl;
  few = omega arith;
  count = omega arith;
  later = λ m h. refl;
  tags_later = λ i h. refl;
  some = λ i h. absurd (omega (arith, h));
  place = λ i h. absurd (omega (arith, h));
  rising = λ i j lt h. absurd (omega (arith, h));
  top = λ i e. absurd (omega (arith, e));
}

split : (i k : ℕ) → i < k + 1 → (i < k) ⊎ (i ≡ k)
split i k h = grind arith

-- A tag without a use.
pub renumbered-skips : (uses news tags moved : List ℕ) (k kept : ℕ) → slice_index news (k + 1) ≡ 0 → Renumbered uses news tags moved k kept → Renumbered uses news tags moved (k + 1) kept
renumbered-skips uses news tags moved k kept z h = record {
  size = h.size;
  len = h.len;
  few = omega (arith, h.few);
  count = count;
  later = λ m lt. h.later m (omega (arith, lt));
  tags_later = λ i le. h.tags_later i (omega (arith, le));
  some = λ i lt p. some i (split i k lt) p;
  place = λ i lt p. place i (split i k lt) p;
  rising = λ i j lt less p q. rising i j lt (split j k less) p q;
  top = λ i e p. absurd (unused i (let s : i ≡ k = omega (arith, e) in s) p);
}
  where
    count : kept ≤ count_set (take (k + 1 + 1) uses)
    count = let more = count-take_more uses (k + 1) in let e : suc (k + 1) ≡ k + 1 + 1 = omega arith in omega (arith, h.count, subst (λ n. count_set (take (k + 1) uses) ≤ count_set (take n uses)) e more)

    unused : (i : ℕ) → i ≡ k → 0 < slice_index uses (suc i) → ⊥
    unused i e p =
        let s : suc i ≡ k + 1 = omega (arith, e) in
        let l = h.later (k + 1) (omega arith) in
        omega (arith, p, ap (slice_index uses) s, l, z)

    some : (i : ℕ) → (i < k) ⊎ (i ≡ k) → 0 < slice_index uses (suc i) → (0 < slice_index news (suc i)) × (slice_index news (suc i) ≤ kept)
    some i (inl lt) p = h.some i lt p
    some i (inr e) p = absurd (unused i e p)

    place : (i : ℕ) → (i < k) ⊎ (i ≡ k) → 0 < slice_index uses (suc i) → slice_index moved (slice_index news (suc i) - 1) ≡ slice_index tags i
    place i (inl lt) p = h.place i lt p
    place i (inr e) p = absurd (unused i e p)

    rising : (i j : ℕ) → i < j → (j < k) ⊎ (j ≡ k) → 0 < slice_index uses (suc i) → 0 < slice_index uses (suc j) → slice_index news (suc i) < slice_index news (suc j)
    rising i j lt (inl less) p q = h.rising i j lt less p q
    rising i j lt (inr e) p q = absurd (unused j e q)

-- A tag that has a use is moved to the front.
module _ (uses news tags moved : List ℕ) (k kept : ℕ) (used : slice_index news (k + 1) ≢ 0) (lt : k < length tags) (room : k + 1 < length uses) (h : Renumbered uses news tags moved k kept) where
  news' : List ℕ
  news' = slice_set news (k + 1) (kept + 1)

  moved' : List ℕ
  moved' = slice_set moved kept (slice_index moved k)

  news-here : (i : ℕ) → i ≡ k → slice_index news' (suc i) ≡ kept + 1
  unfolding news'
  news-here i e = ap (slice_index news') (let s : suc i ≡ k + 1 = omega (arith, e) in s) ∙ set-here news (k + 1) (kept + 1) (omega (arith, h.size, room))

  news-other : (i : ℕ) → i ≢ k → slice_index news' (suc i) ≡ slice_index news (suc i)
  unfolding news'
  news-other i ne = set-other news (k + 1) (suc i) (kept + 1) (λ e. ne (omega (arith, e)))

  some' : (i : ℕ) → (i < k) ⊎ (i ≡ k) → 0 < slice_index uses (suc i) → (0 < slice_index news' (suc i)) × (slice_index news' (suc i) ≤ kept + 1)
  some' i (inl less) p =
      let s = h.some i less p in
      let o = news-other i (λ e. omega (arith, e, less)) in
      (omega (arith, o, s.0), omega (arith, o, s.1))
  some' i (inr e) p = let o = news-here i e in (omega (arith, o), omega (arith, o))

  place' : (i : ℕ) → (i < k) ⊎ (i ≡ k) → 0 < slice_index uses (suc i) → slice_index moved' (slice_index news' (suc i) - 1) ≡ slice_index tags i
  unfolding moved'
  place' i (inl less) p =
      let s = h.some i less p in
      let o = news-other i (λ e. omega (arith, e, less)) in
      ap (λ n. slice_index moved' (n - 1)) o ∙ set-other moved kept (slice_index news (suc i) - 1) (slice_index moved k) (λ e. omega (arith, e, s.0, s.1)) ∙ h.place i less p
  place' i (inr e) p =
      let o = news-here i e in
      let n : slice_index news' (suc i) - 1 ≡ kept = omega (arith, o) in
      ap (slice_index moved') n ∙ set-here moved kept (slice_index moved k) (omega (arith, h.len, h.few, lt)) ∙ h.tags_later k (omega arith) ∙ ap (slice_index tags) (sym e)

  rising' : (i j : ℕ) → i < j → (j < k) ⊎ (j ≡ k) → 0 < slice_index uses (suc i) → 0 < slice_index uses (suc j) → slice_index news' (suc i) < slice_index news' (suc j)
  rising' i j less (inl below) p q =
      let a = news-other i (λ e. omega (arith, e, less, below)) in
      let b = news-other j (λ e. omega (arith, e, below)) in
      let r = h.rising i j less below p q in
      omega (arith, a, b, r)
  rising' i j less (inr e) p q =
      let a = news-other i (λ f. omega (arith, f, e, less)) in
      let b = news-here j e in
      let s = h.some i (omega (arith, e, less)) p in
      omega (arith, a, b, s.1)

  count' : kept + 1 ≤ count_set (take (k + 1 + 1) uses)
  count' =
      let l = h.later (k + 1) (omega arith) in
      let more = count-take_set uses (k + 1) (omega (arith, l, used)) in
      let e : suc (k + 1) ≡ k + 1 + 1 = omega arith in
      omega (arith, h.count, subst (λ n. count_set (take (k + 1) uses) + 1 ≤ count_set (take n uses)) e more)

  pub renumbered-keeps : Renumbered uses (slice_set news (k + 1) (kept + 1)) tags (slice_set moved kept (slice_index moved k)) (k + 1) (kept + 1)
  unfolding news' moved'
  renumbered-keeps = record {
    size = length-set news (k + 1) (kept + 1) ∙ h.size;
    len = length-set moved kept (slice_index moved k) ∙ h.len;
    few = omega (arith, h.few);
    count = count';
    later = λ m less. set-other news (k + 1) m (kept + 1) (λ e. omega (arith, e, less)) ∙ h.later m (omega (arith, less));
    tags_later = λ i le. set-other moved kept i (slice_index moved k) (λ e. omega (arith, e, le, h.few)) ∙ h.tags_later i (omega (arith, le));
    some = λ i less p. some' i (split i k less) p;
    place = λ i less p. place' i (split i k less) p;
    rising = λ i j less below p q. rising' i j less (split j k below) p q;
    top = λ i e p. news-here i (omega (arith, e));
  }

-- After the last tag.
module _ (uses news tags moved : List ℕ) (kept : ℕ) (h : Renumbered uses news tags moved (length tags) kept) where
  index-take : (xs : List ℕ) (n i : ℕ) → i < n → slice_index (take n xs) i ≡ slice_index xs i
  index-take xs zero i lt = absurd (omega (arith, lt))
  index-take [] (suc n) i lt = refl
  index-take (x ∷ xs) (suc n) zero lt = refl
  index-take (x ∷ xs) (suc n) (suc i) lt = index-take xs n i (omega (arith, lt))

  after : (i : ℕ) → slice_index (slice_set news 0 0) (suc i) ≡ slice_index news (suc i)
  after i = set-other news 0 (suc i) 0 (λ e. omega (arith, e))

  zero-first : (xs : List ℕ) → slice_index (slice_set xs 0 0) 0 ≡ 0
  zero-first [] = refl
  zero-first (x ∷ xs) = refl

  few : length (take kept moved) ≡ kept
  few = omega (arith, length-take kept moved, h.len, h.few)

  last : (n : ℕ) → n ≡ length tags → 0 < slice_index uses n → slice_index (slice_set news 0 0) n ≡ length (take kept moved)
  last zero e p = zero-first news ∙ sym (omega (arith, few, h.few, e))
  last (suc n) e p = after n ∙ h.top n e p ∙ sym few

  rising : (i j : ℕ) → i < j → j ≤ length tags → 0 < slice_index uses i → 0 < slice_index uses j → slice_index (slice_set news 0 0) i < slice_index (slice_set news 0 0) j
  rising i zero lt le p q = absurd (omega (arith, lt))
  rising zero (suc j) lt le p q = let s = h.some j (omega (arith, le)) q in let z = zero-first news in omega (arith, after j, s.0, z)
  rising (suc i) (suc j) lt le p q = let r = h.rising i j (omega (arith, lt)) (omega (arith, le)) p q in omega (arith, after i, after j, r)

  pub renumbered-all : IsRenumbered uses (slice_set news 0 0) tags (take kept moved)
  renumbered-all = record {
    zero = zero-first news;
    moved = λ k lt p.
        let s = h.some k lt p in
        (slice_index news (suc k) - 1, after k ∙ (let e : slice_index news (suc k) ≡ suc (slice_index news (suc k) - 1) = omega (arith, s.0) in e), index-take moved kept (slice_index news (suc k) - 1) (omega (arith, s.0, s.1)) ∙ h.place k lt p);
    rising = rising;
    last = last (length tags) refl;
  }

  pub renumbered-count : kept ≤ count_set uses
  renumbered-count = omega (arith, h.count, count-take uses (length tags + 1))
