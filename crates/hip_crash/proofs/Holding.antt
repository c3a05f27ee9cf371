-- What is kept of a line follows the line of the run.
use Rattle.std.proofs.Common.{◌≡◌, ℕ, zero, suc, ◌+◌, ◌-◌, ◌*◌, ◌<◌, ◌≤◌, Bool, true, false, cond, ◌&&◌, nat_le, nat_lt, List, [], ◌∷◌, ◌++◌, length, map, take, drop, Option, Some, None, option_map, slice_get, slice_index, refl, sym, ap, ◌∙◌, subst, arith, length-drop}
use Rattle.std.proofs.lemmas.Bool.Decides.{nat_tests}
use Rattle.std.proofs.lemmas.List.{take-append-le, drop-append-le, drop-drop, length-map, length-take-le}
use Rattle.std.specs.List.{take-map, drop-map}
use Rattle.hip_tree.specs.declared.site.Site.{Site}
use Rattle.hip_lines.specs.Image.{byte_after}
use Rattle.hip_lines.specs.Line.{Line, IsOrdered, AreOrdered, with_part, fresh_line, start_in, end_in, has_bytes, change_range, stored}
use Rattle.hip_lines.specs.Laws.LineLaws.{ordered-at, slice_get-change_range}
use Rattle.hip_types.specs.Bytes.{bytes_of}
use Rattle.hip_mem.specs.Laws.BytesLaws.{length-bytes_of}
use Rattle.hip_runs.specs.Crash.{covers, byte_of}
use Rattle.hip_runs.specs.Laws.ImageLaws.{past_durable}
use Rattle.hip_runs.specs.State.{Counts, Flush, Level, StorePart}
use Rattle.hip_runs.specs.StoredParts.Persistence.{part_of_store, noted_flush, noted_fence, flush_line, fence_line, fenced_lines}
use Rattle.hip_crash.specs.RepresentedLine.{IsAlike, AreAlike, IsKeptOf, AreKeptOf}
use Rattle.hip_crash.specs.Kept.{Kept, with_store, with_flush, with_fence}
use Rattle.hip_crash.specs.Now.{fresh}
use Rattle.hip_crash.specs.Values.{stored_covers, stored_byte}
use Rattle.hip_crash.specs.declared.values.StoredValue.{StoredValue}
use Rattle.hip_crash.proofs.Bytes.{index-bytes_after, length-bytes_after, same_test, index-take}

-- ---- values and parts side by side

module _ (j : ℕ) where
  pub alike-length : (vs : List StoredValue) (xs : List StorePart) → AreAlike j vs xs → length vs ≡ length xs
  alike-length [] [] a = refl
  alike-length (v ∷ vs) (x ∷ xs) a = ap suc (alike-length vs xs a.1)
  alike-length [] (x ∷ xs) a = absurd a
  alike-length (v ∷ vs) [] a = absurd a

  pub alike-take : (q : ℕ) (vs : List StoredValue) (xs : List StorePart) → AreAlike j vs xs → AreAlike j (take q vs) (take q xs)
  alike-take zero vs xs a = tt
  alike-take (suc q) [] [] a = tt
  alike-take (suc q) (v ∷ vs) (x ∷ xs) a = (a.0, alike-take q vs xs a.1)
  alike-take (suc q) [] (x ∷ xs) a = absurd a
  alike-take (suc q) (v ∷ vs) [] a = absurd a

  pub alike-drop : (q : ℕ) (vs : List StoredValue) (xs : List StorePart) → AreAlike j vs xs → AreAlike j (drop q vs) (drop q xs)
  alike-drop zero vs xs a = a
  alike-drop (suc q) [] [] a = tt
  alike-drop (suc q) (v ∷ vs) (x ∷ xs) a = alike-drop q vs xs a.1
  alike-drop (suc q) [] (x ∷ xs) a = absurd a
  alike-drop (suc q) (v ∷ vs) [] a = absurd a

  alike-push : (vs : List StoredValue) (xs : List StorePart) (v : StoredValue) (x : StorePart) → AreAlike j vs xs → IsAlike j v x → AreAlike j (vs ++ v ∷ []) (xs ++ x ∷ [])
  alike-push [] [] v x a h = (h, tt)
  alike-push (w ∷ vs) (y ∷ xs) v x a h = (a.0, alike-push vs xs v x a.1 h)
  alike-push [] (y ∷ xs) v x a h = absurd a
  alike-push (w ∷ vs) [] v x a h = absurd a

  alike-flush : (f : Flush) (vs : List StoredValue) (xs : List StorePart) → AreAlike j vs xs → AreAlike j vs (map (noted_flush f) xs)
  alike-flush f [] [] a = tt
  alike-flush f (v ∷ vs) (x ∷ xs) a = (record { same_covers = a.0.same_covers; same_bytes = a.0.same_bytes }, alike-flush f vs xs a.1)
  alike-flush f [] (x ∷ xs) a = absurd a
  alike-flush f (v ∷ vs) [] a = absurd a

  alike-fence : (vs : List StoredValue) (xs : List StorePart) → AreAlike j vs xs → AreAlike j vs (map noted_fence xs)
  alike-fence [] [] a = tt
  alike-fence (v ∷ vs) (x ∷ xs) a = (record { same_covers = a.0.same_covers; same_bytes = a.0.same_bytes }, alike-fence vs xs a.1)
  alike-fence [] (x ∷ xs) a = absurd a
  alike-fence (v ∷ vs) [] a = absurd a

  -- A byte of the line is the same after the stored values as after the parts.
  pub after-alike : (vs : List StoredValue) (xs : List StorePart) (b y : ℕ) → AreAlike j vs xs → 64 * j ≤ b → b < 64 * j + 64
      → byte_after stored_covers stored_byte vs b y ≡ byte_after covers byte_of xs b y
  after-alike [] [] b y a h k = refl
  after-alike (v ∷ vs) (x ∷ xs) b y a h k = ap (byte_after stored_covers stored_byte vs b) (one (covers x b) refl) ∙ after-alike vs xs b (cond (covers x b) (byte_of x b) y) a.1 h k
    where
      one : (t : Bool) → covers x b ≡ t → cond (stored_covers v b) (stored_byte v b) y ≡ cond (covers x b) (byte_of x b) y
      one true e = ap (λ s. cond s (stored_byte v b) y) (a.0.same_covers b h k) ∙ ap (λ s. cond s (stored_byte v b) y) e ∙ a.0.same_bytes b h k e ∙ ap (λ s. cond s (byte_of x b) y) (sym e)
      one false e = ap (λ s. cond s (stored_byte v b) y) (a.0.same_covers b h k) ∙ ap (λ s. cond s (stored_byte v b) y) e ∙ ap (λ s. cond s (byte_of x b) y) (sym e)
  after-alike [] (x ∷ xs) b y a h k = absurd a
  after-alike (v ∷ vs) [] b y a h k = absurd a

after-flush : (f : Flush) (xs : List StorePart) (b y : ℕ) → byte_after covers byte_of (map (noted_flush f) xs) b y ≡ byte_after covers byte_of xs b y
after-flush f [] b y = refl
after-flush f (x ∷ xs) b y = after-flush f xs b (cond (covers x b) (byte_of x b) y)

after-fence : (xs : List StorePart) (b y : ℕ) → byte_after covers byte_of (map noted_fence xs) b y ≡ byte_after covers byte_of xs b y
after-fence [] b y = refl
after-fence (x ∷ xs) b y = after-fence xs b (cond (covers x b) (byte_of x b) y)

-- ---- one line

module _ (image : List ℕ) (j : ℕ) where
  pub index-drop : (n : ℕ) (xs : List ℕ) (i : ℕ) → slice_index (drop n xs) i ≡ slice_index xs (n + i)
  index-drop zero xs i = let e : i ≡ 0 + i = omega arith in ap (slice_index xs) e
  index-drop (suc n) [] i = refl
  index-drop (suc n) (x ∷ xs) i = index-drop n xs i ∙ (let e : suc (n + i) ≡ suc n + i = omega arith in ap (slice_index (x ∷ xs)) e)

  pub kept-fresh : 64 * j + 64 ≤ length image → IsKeptOf image j (fresh image j) fresh_line
  kept-fresh h = record {
    least = refl;
    flushed = refl;
    later = tt;
    long = length-take-le 64 (drop (64 * j) image) (rest (length image) (length (drop (64 * j) image)) h (length-drop (64 * j) image));
    bytes = λ i lt. index-take 64 (drop (64 * j) image) i lt ∙ index-drop (64 * j) image i;
  }
    where
      rest : (n m : ℕ) → 64 * j + 64 ≤ n → m ≡ n - 64 * j → 64 ≤ m
      rest n m h e = omega (arith, h, e)

  pub kept-store : (k : Kept) (l : Line StorePart) (v : StoredValue) (x : StorePart) → IsOrdered l → IsKeptOf image j k l → IsAlike j v x → IsKeptOf image j (with_store v k) (with_part x l)
  kept-store k l v x o h a =
      let le : l.durable ≤ length l.parts = omega (arith, o.durable, o.flushed) in
      record {
        least = h.least;
        flushed = h.flushed;
        later = subst (AreAlike j (k.later ++ v ∷ [])) (sym (drop-append-le l.durable l.parts (x ∷ []) le)) (alike-push j k.later (drop l.durable l.parts) v x h.later a);
        long = h.long;
        bytes = λ i lt. h.bytes i lt ∙ ap (λ ps. byte_after covers byte_of ps (64 * j + i) (slice_index image (64 * j + i))) (sym (take-append-le l.durable l.parts (x ∷ []) le));
      }

  pub kept-flush : (k : Kept) (l : Line StorePart) (f : Flush) → IsOrdered l → IsKeptOf image j k l → IsKeptOf image j (with_flush k) (flush_line f l)
  kept-flush k l f o h = record {
    least = h.least;
    flushed = omega (arith, alike-length j k.later (drop l.durable l.parts) h.later, length-drop l.durable l.parts, length-map l.parts (noted_flush f), o.durable, o.flushed);
    later = subst (AreAlike j k.later) (sym (drop-map (noted_flush f) l.durable l.parts)) (alike-flush j f k.later (drop l.durable l.parts) h.later);
    long = h.long;
    bytes = λ i lt. h.bytes i lt ∙ sym (ap (λ ps. byte_after covers byte_of ps (64 * j + i) (slice_index image (64 * j + i))) (take-map (noted_flush f) l.durable l.parts) ∙ after-flush f (take l.durable l.parts) (64 * j + i) (slice_index image (64 * j + i)));
  }

  pub kept-fence : (k : Kept) (l : Line StorePart) → IsOrdered l → IsKeptOf image j k l → IsKeptOf image j (with_fence j k) (fence_line l)
  kept-fence k l o h = record {
    least = omega (arith, h.least, h.flushed);
    flushed = omega arith;
    later =
        subst (AreAlike j (drop k.flushed k.later)) (sym (drop-map noted_fence l.flushed l.parts))
        (alike-fence j (drop k.flushed k.later) (drop l.flushed l.parts)
        (subst (AreAlike j (drop k.flushed k.later)) (drop-drop k.flushed l.durable l.parts ∙ ap (λ n. drop n l.parts) h.flushed) (alike-drop j k.flushed k.later (drop l.durable l.parts) h.later)));
    long = length-bytes_after (take k.flushed k.later) (64 * j) k.bytes ∙ h.long;
    bytes = λ i lt.
        let first = slice_index image (64 * j + i) in
        let fit : i < length k.bytes = omega (arith, h.long, lt) in
        let more : l.flushed - l.durable ≡ k.flushed = omega (arith, h.flushed) in
        index-bytes_after (take k.flushed k.later) (64 * j) k.bytes i fit
        ∙ ap (byte_after stored_covers stored_byte (take k.flushed k.later) (64 * j + i)) (h.bytes i lt)
        ∙ after-alike j (take k.flushed k.later) (take k.flushed (drop l.durable l.parts)) (64 * j + i) (byte_after covers byte_of (take l.durable l.parts) (64 * j + i) first) (alike-take j k.flushed k.later (drop l.durable l.parts) h.later) (omega arith) (omega (arith, lt))
        ∙ ap (λ n. byte_after covers byte_of (take n (drop l.durable l.parts)) (64 * j + i) (byte_after covers byte_of (take l.durable l.parts) (64 * j + i) first)) (sym more)
        ∙ sym (past_durable l l.flushed (64 * j + i) first o.durable)
        ∙ sym (ap (λ ps. byte_after covers byte_of ps (64 * j + i) first) (take-map noted_fence l.flushed l.parts) ∙ after-fence (take l.flushed l.parts) (64 * j + i) first);
  }

-- ---- the part of a store

module _ (o n value j : ℕ) where
  abbrev Bytes : List ℕ
  Bytes = bytes_of n value

  abbrev Held : List ℕ
  Held = take (end_in j o (length Bytes) - start_in j o) (drop (start_in j o - o) Bytes)

  fits : (m rest : ℕ) → rest ≡ m - (start_in j o - o) → end_in j o m - start_in j o ≤ rest
  fits m rest e = omega (arith, e)

  length_held : length Held ≡ end_in j o (length Bytes) - start_in j o
  length_held = length-take-le (end_in j o (length Bytes) - start_in j o) (drop (start_in j o - o) Bytes) (fits (length Bytes) (length (drop (start_in j o - o) Bytes)) (length-drop (start_in j o - o) Bytes))

  tests : (a x b : ℕ) → nat_le a x && nat_lt x b ≡ true → (a ≤ x) × (x < b)
  tests a x b h = (grind (arith, nat_tests), grind (arith, nat_tests))

  test : (a x b : ℕ) → a ≤ x → x < b → nat_le a x && nat_lt x b ≡ true
  test a x b h k = grind (arith, nat_tests)

  start_within : (b m : ℕ) → start_in j o ≤ b → b < start_in j o + (end_in j o m - start_in j o) → (o ≤ b) × (b < o + m)
  start_within b m h k = (omega arith, omega arith)

  within_start : (b m : ℕ) → o ≤ b → b < o + m → 64 * j ≤ b → b < 64 * j + 64 → (start_in j o ≤ b) × (b < start_in j o + (end_in j o m - start_in j o))
  within_start b m h k l u = (omega arith, omega arith)

  sums : (b : ℕ) → start_in j o ≤ b → (start_in j o - o) + (b - start_in j o) ≡ b - o
  sums b h = omega arith

  short : (b m : ℕ) → start_in j o ≤ b → b < start_in j o + (end_in j o m - start_in j o) → b - start_in j o < end_in j o m - start_in j o
  short b m h k = omega arith

  -- A stored value is alike to its store's part in each line.
  pub alike-store : (counts : Counts) (site : Site) (levels : List Level) → IsAlike j (record { offset = o; value = value; size = n }) (part_of_store counts site levels o (bytes_of n value) j)
  alike-store counts site levels = record {
    same_covers = λ b l u. same_test (nat_le o b && nat_lt b (o + n)) (nat_le (start_in j o) b && nat_lt b (start_in j o + length Held))
        (λ t.
        let k = tests o b (o + n) t in
        let w = within_start b (length Bytes) k.0 (omega (arith, k.1, length-bytes_of n value)) l u in
        test (start_in j o) b (start_in j o + length Held) w.0 (omega (arith, w.1, length_held)))
        (λ t.
        let k = tests (start_in j o) b (start_in j o + length Held) t in
        let w = start_within b (length Bytes) k.0 (omega (arith, k.1, length_held)) in
        test o b (o + n) w.0 (omega (arith, w.1, length-bytes_of n value)));
    same_bytes = λ b l u t.
        let k = tests (start_in j o) b (start_in j o + length Held) t in
        let lt : b < start_in j o + (end_in j o (length Bytes) - start_in j o) = omega (arith, k.1, length_held) in
        sym (index-take (end_in j o (length Bytes) - start_in j o) (drop (start_in j o - o) Bytes) (b - start_in j o) (short b (length Bytes) k.0 lt)
        ∙ index-drop [] 0 (start_in j o - o) Bytes (b - start_in j o)
        ∙ ap (slice_index Bytes) (sums b k.0));
  }

-- ---- all lines

some_before : {A B : Type 0} (g : A → B) (o : Option A) (y : B) → option_map g o ≡ Some y → (x : A) × (o ≡ Some x) × (g x ≡ y)
some_before g None y e = absurd (let z : ⊥ = cc in z)
some_before g (Some x) y e = (x, refl, cc)

get_mapped : {A B : Type 0} (g : A → B) (xs : List A) (k : ℕ) → slice_get (map g xs) k ≡ option_map g (slice_get xs k)
get_mapped g [] k = refl
get_mapped g (x ∷ xs) zero = refl
get_mapped g (x ∷ xs) (suc k) = get_mapped g xs k

module _ (image : List ℕ) (see see' : ℕ → Kept) (ls : List (Line StorePart)) (ordered : AreOrdered ls) (h : AreKeptOf image see ls) where
  pub kept-stored : (v : StoredValue) (part : ℕ → StorePart) → ((j : ℕ) → IsAlike j v (part j)) → ((j : ℕ) → see' j ≡ cond (has_bytes j v.offset v.size) (with_store v (see j)) (see j))
      → AreKeptOf image see' (stored part v.offset v.size ls)
  kept-stored v part alike e = record { are = at }
    where
      at : (j : ℕ) (l : Line StorePart) → slice_get (stored part v.offset v.size ls) j ≡ Some l → IsKeptOf image j (see' j) l
      at j l q =
          let b = some_before _ (slice_get ls j) l (sym (slice_get-change_range (λ k x. with_part (part k) x) v.offset v.size ls j) ∙ q) in
          subst (IsKeptOf image j (see' j)) b.2 (subst (λ k. IsKeptOf image j k (cond (has_bytes j v.offset v.size) (with_part (part j) b.0) b.0)) (sym (e j)) (go (has_bytes j v.offset v.size) b.0 (ordered-at ls j b.0 ordered b.1) (h.are j b.0 b.1)))
        where
          go : (t : Bool) (x : Line StorePart) → IsOrdered x → IsKeptOf image j (see j) x → IsKeptOf image j (cond t (with_store v (see j)) (see j)) (cond t (with_part (part j) x) x)
          go true x o i = kept-store image j (see j) x v (part j) o i (alike j)
          go false x o i = i

  pub kept-flushed : (f : Flush) (o n : ℕ) → ((j : ℕ) → see' j ≡ cond (has_bytes j o n) (with_flush (see j)) (see j)) → AreKeptOf image see' (change_range (λ _ l. flush_line f l) o n ls)
  kept-flushed f o n e = record { are = at }
    where
      at : (j : ℕ) (l : Line StorePart) → slice_get (change_range (λ _ x. flush_line f x) o n ls) j ≡ Some l → IsKeptOf image j (see' j) l
      at j l q =
          let b = some_before _ (slice_get ls j) l (sym (slice_get-change_range (λ _ x. flush_line f x) o n ls j) ∙ q) in
          subst (IsKeptOf image j (see' j)) b.2 (subst (λ k. IsKeptOf image j k (cond (has_bytes j o n) (flush_line f b.0) b.0)) (sym (e j)) (go (has_bytes j o n) b.0 (ordered-at ls j b.0 ordered b.1) (h.are j b.0 b.1)))
        where
          go : (t : Bool) (x : Line StorePart) → IsOrdered x → IsKeptOf image j (see j) x → IsKeptOf image j (cond t (with_flush (see j)) (see j)) (cond t (flush_line f x) x)
          go true x o i = kept-flush image j (see j) x f o i
          go false x o i = i

  pub kept-fenced : ((j : ℕ) → see' j ≡ with_fence j (see j)) → AreKeptOf image see' (fenced_lines ls)
  kept-fenced e = record { are = at }
    where
      at : (j : ℕ) (l : Line StorePart) → slice_get (fenced_lines ls) j ≡ Some l → IsKeptOf image j (see' j) l
      at j l q =
          let b = some_before fence_line (slice_get ls j) l (sym (get_mapped fence_line ls j) ∙ q) in
          subst (IsKeptOf image j (see' j)) b.2 (subst (λ k. IsKeptOf image j k (fence_line b.0)) (sym (e j)) (kept-fence image j (see j) b.0 (ordered-at ls j b.0 ordered b.1) (h.are j b.0 b.1)))

pub kept-same : (image : List ℕ) (see see' : ℕ → Kept) (ls : List (Line StorePart)) → AreKeptOf image see ls → ((j : ℕ) → see' j ≡ see j) → AreKeptOf image see' ls
kept-same image see see' ls h e = record { are = λ j l q. subst (λ k. IsKeptOf image j k l) (sym (e j)) (h.are j l q) }
