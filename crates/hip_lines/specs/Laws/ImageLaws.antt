-- Laws of crash images: what a store, a flush and a fence do to them; that more flushes and fences only remove images;
-- and that the images are exactly the contents of picks.
use Rattle.std.proofs.Common.{Option, None, ◌≡◌, ◌⊎◌, inl, inr, ℕ, zero, suc, ◌+◌, ◌*◌, ◌/◌, ◌<◌, ◌≤◌, Bool, true, false, cond, List, [], ◌∷◌, ◌++◌, length, take, Some, slice_get, slice_index, refl, sym, ap, ◌∙◌, subst, arith, length-append}
use Rattle.std.proofs.lemmas.List.{take-append-le}
use Rattle.hip_lines.specs.Line.{Line, IsOrdered, AreOrdered, with_part, flushed_line, fenced_line, has_bytes, change_from, stored, flushed, fenced}
use Rattle.hip_lines.specs.Image.{byte_after, IsLineImageAt, IsLineImage, IsImage, parts_of, image_from, image_of, IsPick}
use Rattle.hip_types.specs.declared.areas.TheConstants.{LINE_SIZE}

-- Line l' has the parts of l, and at least as many of them are flushed and durable.
pub record IsAhead {P : Type 0} (l l' : Line P) : Type 0 where
  pub parts : l'.parts ≡ l.parts
  pub durable : l.durable ≤ l'.durable
  pub flushed : l.flushed ≤ l'.flushed
  pub ordered : IsOrdered l
  pub ordered_too : IsOrdered l'

-- Both lists have the same number of lines, and each line of the second list is ahead of the line at its place in the
-- first.
abbrev pub AreAhead : {P : Type 0} → List (Line P) → List (Line P) → Type 0
AreAhead [] [] = Unit {0}
AreAhead (l ∷ ls) (l' ∷ ls') = IsAhead l l' × AreAhead ls ls'
AreAhead [] (l' ∷ ls') = ⊥
AreAhead (l ∷ ls) [] = ⊥

module _ {P : Type 0} where
  same_length : (l l' : Line P) → IsAhead l l' → length l'.parts ≡ length l.parts
  same_length l l' a = ap length a.parts

  -- ---- one line

  pub ahead_refl : (l : Line P) → IsOrdered l → IsAhead l l
  ahead_refl l h = record { parts = refl; durable = omega arith; flushed = omega arith; ordered = h; ordered_too = h }

  pub ahead-with_part : (x : P) (l l' : Line P) → IsAhead l l' → IsAhead (with_part x l) (with_part x l')
  ahead-with_part x l l' a = record {
    parts = ap (λ ps. ps ++ x ∷ []) a.parts;
    durable = a.durable;
    flushed = a.flushed;
    ordered =
        record {
          durable = a.ordered.durable;
          flushed = omega
              (arith, a.ordered.flushed, length-append l.parts (x ∷ []));
        };
    ordered_too =
        record {
          durable = a.ordered_too.durable;
          flushed = omega (arith, a.ordered_too.flushed, length-append l'.parts (x ∷ []));
        };
  }

  pub ahead-flushed_line : (l l' : Line P) → IsAhead l l' → IsAhead (flushed_line l) (flushed_line l')
  ahead-flushed_line l l' a =
      let n = same_length l l' a in
      record {
        parts = a.parts;
        durable = a.durable;
        flushed = omega (arith, n);
        ordered = record { durable = omega (arith, a.ordered.durable, a.ordered.flushed); flushed = omega arith };
        ordered_too =
            record { durable = omega (arith, a.ordered_too.durable, a.ordered_too.flushed); flushed = omega arith };
      }

  pub ahead-fenced_line : (l l' : Line P) → IsAhead l l' → IsAhead (fenced_line l) (fenced_line l')
  ahead-fenced_line l l' a = record {
    parts = a.parts;
    durable = a.flushed;
    flushed = a.flushed;
    ordered = record { durable = omega arith; flushed = a.ordered.flushed };
    ordered_too = record { durable = omega arith; flushed = a.ordered_too.flushed };
  }

  -- One more flush or fence keeps a line ahead.
  pub ahead-more_flushed_line : (l l' : Line P) → IsAhead l l' → IsAhead l (flushed_line l')
  ahead-more_flushed_line l l' a =
      let n = same_length l l' a in
      record {
        parts = a.parts;
        durable = a.durable;
        flushed = omega (arith, n, a.ordered.flushed);
        ordered = a.ordered;
        ordered_too =
            record { durable = omega (arith, a.ordered_too.durable, a.ordered_too.flushed); flushed = omega arith };
      }

  pub ahead-more_fenced_line : (l l' : Line P) → IsAhead l l' → IsAhead l (fenced_line l')
  ahead-more_fenced_line l l' a = record {
    parts = a.parts;
    durable = omega (arith, a.ordered.durable, a.flushed);
    flushed = a.flushed;
    ordered = a.ordered;
    ordered_too = record { durable = omega arith; flushed = a.ordered_too.flushed };
  }

  -- ---- all lines

  pub ahead-change_from : (f f' : ℕ → Line P → Line P) (o n : ℕ)
      → ((j : ℕ) (l l' : Line P) → IsAhead l l' → IsAhead (f j l) (f' j l'))
      → (j : ℕ) (ls ls' : List (Line P))
      → AreAhead ls ls' → AreAhead (change_from f o n j ls) (change_from f' o n j ls')
  ahead-change_from f f' o n h j [] [] a = a
  ahead-change_from f f' o n h j (l ∷ ls) (l' ∷ ls') a =
      (here (has_bytes j o n), ahead-change_from f f' o n h (suc j) ls ls' a.1)
    where
      here : (b : Bool) → IsAhead (cond b (f j l) l) (cond b (f' j l') l')
      here true = h j l l' a.0
      here false = a.0
  ahead-change_from f f' o n h j [] (l' ∷ ls') a = absurd a
  ahead-change_from f f' o n h j (l ∷ ls) [] a = absurd a

  pub ahead-more_change_from : (f' : ℕ → Line P → Line P) (o n : ℕ)
      → ((j : ℕ) (l l' : Line P) → IsAhead l l' → IsAhead l (f' j l')) → (j : ℕ) (ls ls' : List (Line P))
      → AreAhead ls ls' → AreAhead ls (change_from f' o n j ls')
  ahead-more_change_from f' o n h j [] [] a = a
  ahead-more_change_from f' o n h j (l ∷ ls) (l' ∷ ls') a =
      (here (has_bytes j o n), ahead-more_change_from f' o n h (suc j) ls ls' a.1)
    where
      here : (b : Bool) → IsAhead l (cond b (f' j l') l')
      here true = h j l l' a.0
      here false = a.0
  ahead-more_change_from f' o n h j [] (l' ∷ ls') a = absurd a
  ahead-more_change_from f' o n h j (l ∷ ls) [] a = absurd a

  pub ahead-stored : (part : ℕ → P) (o n : ℕ) (ls ls' : List (Line P)) → AreAhead ls ls'
      → AreAhead (stored part o n ls) (stored part o n ls')
  ahead-stored part o n ls ls' a =
      ahead-change_from (λ j l. with_part (part j) l) (λ j l. with_part (part j) l) o n
      (λ j l l' h. ahead-with_part (part j) l l' h) 0 ls ls' a

  pub ahead-flushed : (o n : ℕ) (ls ls' : List (Line P)) → AreAhead ls ls'
      → AreAhead (flushed o n ls) (flushed o n ls')
  ahead-flushed o n ls ls' a =
      ahead-change_from (λ _ l. flushed_line l) (λ _ l. flushed_line l) o n
      (λ _ l l' h. ahead-flushed_line l l' h) 0 ls ls' a

  pub ahead-more_flushed : (o n : ℕ) (ls ls' : List (Line P)) → AreAhead ls ls' → AreAhead ls (flushed o n ls')
  ahead-more_flushed o n ls ls' a =
      ahead-more_change_from (λ _ l. flushed_line l) o n (λ _ l l' h. ahead-more_flushed_line l l' h) 0 ls ls' a

  pub ahead-fenced : (ls ls' : List (Line P)) → AreAhead ls ls' → AreAhead (fenced ls) (fenced ls')
  ahead-fenced [] [] a = a
  ahead-fenced (l ∷ ls) (l' ∷ ls') a = (ahead-fenced_line l l' a.0, ahead-fenced ls ls' a.1)
  ahead-fenced [] (l' ∷ ls') a = absurd a
  ahead-fenced (l ∷ ls) [] a = absurd a

  pub ahead-more_fenced : (ls ls' : List (Line P)) → AreAhead ls ls' → AreAhead ls (fenced ls')
  ahead-more_fenced [] [] a = a
  ahead-more_fenced (l ∷ ls) (l' ∷ ls') a = (ahead-more_fenced_line l l' a.0, ahead-more_fenced ls ls' a.1)
  ahead-more_fenced [] (l' ∷ ls') a = absurd a
  ahead-more_fenced (l ∷ ls) [] a = absurd a

  pub are_ahead_refl : (ls : List (Line P)) → AreOrdered ls → AreAhead ls ls
  are_ahead_refl [] a = tt
  are_ahead_refl (l ∷ ls) a = (ahead_refl l a.0, are_ahead_refl ls a.1)

  -- The line of ls' at the place of l in ls.
  pub ahead-at : (ls ls' : List (Line P)) (k : ℕ) (l : Line P) → AreAhead ls ls' → slice_get ls k ≡ Some l
      → (l' : Line P) × (slice_get ls' k ≡ Some l') × IsAhead l l'
  ahead-at [] [] k l a e = absurd (let h : ⊥ = cc in h)
  ahead-at (x ∷ ls) (x' ∷ ls') zero l a e = let h : x ≡ l = cc in (x', refl, subst (λ y. IsAhead y x') h a.0)
  ahead-at (x ∷ ls) (x' ∷ ls') (suc k) l a e = ahead-at ls ls' k l a.1 e
  ahead-at [] (x' ∷ ls') k l a e = absurd a
  ahead-at (x ∷ ls) [] k l a e = absurd a

module _ {P : Type 0} (covers : P → ℕ → Bool) (value : P → ℕ → ℕ) where
  -- ---- images

  pub line_image-ahead : (first r : List ℕ) (j : ℕ) (l l' : Line P) → IsAhead l l'
      → IsLineImage covers value first r j l' → IsLineImage covers value first r j l
  line_image-ahead first r j l l' a h = (
    h.0,
    record {
      least = omega (arith, a.durable, h.1.least);
      most = omega (arith, ap length a.parts, h.1.most);
      bytes =
          λ b from to. h.1.bytes b from to ∙ ap
          (λ ps. byte_after covers value (take h.0 ps) b (slice_index first b))
          a.parts;
    },
  )

  -- If more parts of the lines are flushed and durable, each image of the new lines is an image of the old ones.
  pub image-ahead : (first r : List ℕ) (ls ls' : List (Line P)) → AreAhead ls ls'
      → IsImage covers value first ls' r
      → IsImage covers value first ls r
  image-ahead first r ls ls' a h =
      record {
        whole = h.whole;
        lines = λ j l e. let x = ahead-at ls ls' j l a e in
            line_image-ahead first r j l x.0 x.2 (h.lines j x.0 x.1);
      }

  -- A flush leaves a line's images as they are.
  pub line_image-flushed_line : (first r : List ℕ) (j : ℕ) (l : Line P) → IsLineImage covers value first r j l
      → IsLineImage covers value first r j (flushed_line l)
  line_image-flushed_line first r j l h = (h.0, record { least = h.1.least; most = h.1.most; bytes = h.1.bytes })

  pub flushed_line-line_image : (first r : List ℕ) (j : ℕ) (l : Line P)
      → IsLineImage covers value first r j (flushed_line l) → IsLineImage covers value first r j l
  flushed_line-line_image first r j l h = (h.0, record { least = h.1.least; most = h.1.most; bytes = h.1.bytes })

  -- A fence keeps exactly those images that have all flushed parts.
  pub line_image-fenced_line : (first r : List ℕ) (j : ℕ) (l : Line P) (q : ℕ) → l.flushed ≤ q
      → IsLineImageAt covers value first r j l q → IsLineImageAt covers value first r j (fenced_line l) q
  line_image-fenced_line first r j l q f h = record { least = f; most = h.most; bytes = h.bytes }

  pub fenced_line-line_image : (first r : List ℕ) (j : ℕ) (l : Line P) (q : ℕ) → IsOrdered l
      → IsLineImageAt covers value first r j (fenced_line l) q → IsLineImageAt covers value first r j l q
      × (l.flushed ≤ q)
  fenced_line-line_image first r j l q o h =
      (record { least = omega (arith, o.durable, h.least); most = h.most; bytes = h.bytes }, h.least)

  -- A store keeps each image of its line and adds those that have the whole list.
  pub line_image-with_part : (first r : List ℕ) (j : ℕ) (x : P) (l : Line P)
      → IsLineImage covers value first r j l
      → IsLineImage covers value first r j (with_part x l)
  line_image-with_part first r j x l h = (
    h.0,
    record {
      least = h.1.least;
      most = omega (arith, h.1.most, length-append l.parts (x ∷ []));
      bytes =
          λ b from to. h.1.bytes b from to ∙ ap (λ ps. byte_after covers value ps b (slice_index first b))
          (let m = h.1.most in sym (take-append-le h.0 l.parts (x ∷ []) m));
    },
  )

  pub with_part-line_image : (first r : List ℕ) (j : ℕ) (x : P) (l : Line P) (q : ℕ)
      → IsLineImageAt covers value first r j (with_part x l) q → (IsLineImageAt covers value first r j l q)
      ⊎ (q ≡ length l.parts + 1)
  with_part-line_image first r j x l q h =
      go (split q (length l.parts) (omega (arith, h.most, length-append l.parts (x ∷ []))))
    where
      split : (q m : ℕ) → q ≤ m + 1 → (q ≤ m) ⊎ (q ≡ m + 1)
      split q m k = grind arith

      go : (q ≤ length l.parts) ⊎ (q ≡ length l.parts + 1) → (IsLineImageAt covers value first r j l q)
          ⊎ (q ≡ length l.parts + 1)
      go (inl m) =
          inl (record {
            least = h.least;
            most = m;
            bytes = λ b from to. h.bytes b from to
                ∙ ap (λ ps. byte_after covers value ps b (slice_index first b))
                (take-append-le q l.parts (x ∷ []) m);
          })
      go (inr e) = inr e

  -- ---- picks

  pub length-image_from : (ls : List (Line P)) (pick : ℕ → ℕ) (b : ℕ) (xs : List ℕ)
      → length (image_from covers value ls pick b xs) ≡ length xs
  length-image_from ls pick b [] = refl
  length-image_from ls pick b (x ∷ xs) = ap suc (length-image_from ls pick (suc b) xs)

  pub slice_index-image_from : (ls : List (Line P)) (pick : ℕ → ℕ) (b : ℕ) (xs : List ℕ) (i : ℕ)
      → i < length xs
      → slice_index (image_from covers value ls pick b xs) i
      ≡ byte_after covers value (take (pick ((b + i) / LINE_SIZE))
      (parts_of covers value (slice_get ls ((b + i) / LINE_SIZE)))) (b + i) (slice_index xs i)
  slice_index-image_from ls pick b [] i h = absurd (omega arith)
  slice_index-image_from ls pick b (x ∷ xs) zero h =
      ap (λ c. byte_after covers value (take (pick (c / LINE_SIZE))
      (parts_of covers value (slice_get ls (c / LINE_SIZE)))) c x) (let e : b ≡ b + 0 = omega arith in e)
  slice_index-image_from ls pick b (x ∷ xs) (suc i) h =
      slice_index-image_from ls pick (suc b) xs i (omega arith)
      ∙ ap (λ c. byte_after covers value (take (pick (c / LINE_SIZE))
      (parts_of covers value (slice_get ls (c / LINE_SIZE)))) c (slice_index xs i))
      (let e : suc b + i ≡ b + suc i = omega arith in e)

  index_past : (xs : List ℕ) (i : ℕ) → length xs ≤ i → slice_index xs i ≡ 0
  index_past [] i h = refl
  index_past (x ∷ xs) zero h = absurd (omega arith)
  index_past (x ∷ xs) (suc i) h = index_past xs i (omega arith)

  get_below : (ls : List (Line P)) (j : ℕ) (l : Line P) → slice_get ls j ≡ Some l → j < length ls
  get_below [] j l e = absurd (let h : ⊥ = cc in h)
  get_below (x ∷ ls) zero l e = omega arith
  get_below (x ∷ ls) (suc j) l e = omega (arith, get_below ls j l e)

  -- The content of a pick is an image.
  pub image_of-image : (ls : List (Line P)) (pick : ℕ → ℕ) (first : List ℕ)
      → length first ≡ LINE_SIZE * length ls
      → IsPick covers value ls pick → IsImage covers value first ls (image_of covers value ls pick first)
  image_of-image ls pick first n p = record {
    whole = length-image_from ls pick 0 first;
    lines = λ j l e. (
      pick j,
      record {
        least = (p j l e).0;
        most = (p j l e).1;
        bytes = λ b from to.
            let c : b < length first = omega (arith, n, get_below ls j l e) in
            let q : (0 + b) / LINE_SIZE ≡ j = omega arith in
            let z : 0 + b ≡ b = omega arith in
            slice_index-image_from ls pick 0 first b c
            ∙ ap (λ i. byte_after covers value (take (pick i) (parts_of covers value (slice_get ls i))) (0 + b)
            (slice_index first b)) q
            ∙ ap (λ o. byte_after covers value (take (pick j) (parts_of covers value o)) (0 + b)
            (slice_index first b))
            e
            ∙ ap (λ a. byte_after covers value (take (pick j) l.parts) a (slice_index first b)) z;
      },
    );
  }

  -- Every image is the content of a pick.

  get_there : (ls : List (Line P)) (j : ℕ) → j < length ls → (l : Line P) × (slice_get ls j ≡ Some l)
  get_there [] j h = absurd (omega arith)
  get_there (x ∷ ls) zero h = (x, refl)
  get_there (x ∷ ls) (suc j) h = get_there ls j (omega arith)

  some_line : (l l' : Line P) (o : Option (Line P)) → o ≡ Some l → o ≡ Some l' → l ≡ l'
  some_line l l' o e f = cc

  -- How many parts of the line at a place an image has.
  pick_by : (first r : List ℕ) (ls : List (Line P)) → IsImage covers value first ls r
      → (j : ℕ) (o : Option (Line P))
      → slice_get ls j ≡ o → ℕ
  pick_by first r ls h j None e = 0
  pick_by first r ls h j (Some l) e = (h.lines j l e).0

  pub pick_of : (first r : List ℕ) (ls : List (Line P)) → IsImage covers value first ls r → ℕ → ℕ
  pick_of first r ls h j = pick_by first r ls h j (slice_get ls j) refl

  same_lists : (xs ys : List ℕ) → length xs ≡ length ys
      → ((i : ℕ) → i < length xs → slice_index xs i ≡ slice_index ys i) → xs ≡ ys
  same_lists [] [] n h = refl
  same_lists [] (y ∷ ys) n h = absurd (omega (arith, n))
  same_lists (x ∷ xs) [] n h = absurd (omega (arith, n))
  same_lists (x ∷ xs) (y ∷ ys) n h =
      ap (λ z. z ∷ xs) (h 0 (omega arith)) ∙ ap (λ zs. y ∷ zs)
      (same_lists xs ys (omega (arith, n)) (λ i lt. h (suc i) (omega arith)))

  pub pick_of-pick : (first r : List ℕ) (ls : List (Line P)) (h : IsImage covers value first ls r)
      → IsPick covers value ls (pick_of first r ls h)
  unfolding pick_of pick_by
  pick_of-pick first r ls h j l e = go (slice_get ls j) refl e
    where
      go : (o : Option (Line P)) (f : slice_get ls j ≡ o) → o ≡ Some l
          → (l.durable ≤ pick_by first r ls h j o f)
          × (pick_by first r ls h j o f ≤ length l.parts)
      go None f g = absurd (let z : ⊥ = cc in z)
      go (Some l') f g =
          let s : l' ≡ l = some_line l' l (Some l') refl g in
          subst (λ (m : Line P). (m.durable ≤ (h.lines j l' f).0) × ((h.lines j l' f).0 ≤ length m.parts)) s
          ((h.lines j l' f).1.least, (h.lines j l' f).1.most)

  pub image-image_of : (first r : List ℕ) (ls : List (Line P)) (h : IsImage covers value first ls r)
      → length first ≡ LINE_SIZE * length ls → r ≡ image_of covers value ls (pick_of first r ls h) first
  unfolding pick_of pick_by
  image-image_of first r ls h n =
      same_lists r (image_of covers value ls (pick_of first r ls h) first)
      (h.whole ∙ sym (length-image_from ls (pick_of first r ls h) 0 first)) at
    where
      at : (b : ℕ) → b < length r → slice_index r b
          ≡ slice_index (image_of covers value ls (pick_of first r ls h) first) b
      at b lt =
          line (slice_get ls (b / LINE_SIZE)) refl
          ∙ sym (slice_index-image_from ls (pick_of first r ls h) 0 first b (omega (arith, h.whole))
          ∙ ap (λ a. byte_after covers value (take (pick_of first r ls h (a / LINE_SIZE))
          (parts_of covers value (slice_get ls (a / LINE_SIZE)))) a (slice_index first b))
          (let z : 0 + b ≡ b = omega arith in z))
        where
          line : (o : Option (Line P)) (f : slice_get ls (b / LINE_SIZE) ≡ o)
              → slice_index r b ≡ byte_after covers value
              (take (pick_by first r ls h (b / LINE_SIZE) o f) (parts_of covers value o)) b (slice_index first b)
          line None f =
              absurd (let t = get_there ls (b / LINE_SIZE) (omega (arith, h.whole, n, lt)) in let g = t.1 in
              let z : ⊥ = cc in z)
          line (Some l) f = (h.lines (b / LINE_SIZE) l f).1.bytes b (omega arith) (omega arith)
