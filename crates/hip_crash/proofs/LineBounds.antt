-- What is seen of a line represents the line of the run.
use Rattle.std.proofs.Common.{◌≡◌, ◌≢◌, ℕ, ◌+◌, ◌-◌, ◌*◌, ◌^◌, ◌<◌, ◌≤◌, List, [], length, take, drop, Some, None, slice_get, slice_index, refl, sym, ap, ap₂, ◌∙◌, subst, arith, length-drop}
use Rattle.std.proofs.lemmas.List.{length-take-le}
use Rattle.hip_lines.specs.Image.{byte_after}
use Rattle.hip_lines.specs.Line.{Line}
use Rattle.hip_runs.specs.Crash.{covers, byte_of, crash_image}
use Rattle.hip_runs.specs.Laws.CrashLaws.{same_size}
use Rattle.hip_runs.specs.Laws.ImageLaws.{past_durable}
use Rattle.hip_runs.specs.State.{StorePart}
use Rattle.hip_runs.specs.Step.{run}
use Rattle.hip_runs.specs.Seen.{Seen, state_of}
use Rattle.hip_crash.specs.RepresentedLine.{AreKeptOf}
use Rattle.hip_crash.specs.LogState.{view_of, IsLogging}
use Rattle.hip_crash.specs.Numbers.{IsNumberOf}
use Rattle.hip_crash.specs.Picks.{bounds_in, bounds_of}
use Rattle.hip_crash.specs.declared.values.StoredValue.{StoredValue}
use Rattle.hip_crash.specs.Region.{seen_at}
use Rattle.hip_crash.specs.Values.{stored_covers, stored_byte, bytes_after}
use Rattle.hip_crash.specs.declared.log.CrashLog.TheInside.{Inside}
use Rattle.hip_types.specs.declared.pick.Bounds.{Bounds}
use Rattle.hip_crash.proofs.Bytes.{index-bytes_after, index-take, length-bytes_after, same_lists}
use Rattle.hip_crash.proofs.Holding.{index-drop, after-alike, alike-take}
use Rattle.hip_crash.proofs.PickLaws.{piece}
use Rattle.hip_crash.proofs.Steps.{get_there, kept-count, kept-few}

module _ (x : Inside) (h : IsLogging x) (image : List ℕ) (e : image ≡ x.input.now.image) (s : Seen) (v : view_of x ≡ s) where
  pub seen-kept : AreKeptOf s.input.image (seen_at x.region image) (state_of s).lines
  seen-kept = subst (λ (y : Seen). AreKeptOf y.input.image (seen_at x.region image) (state_of y).lines) v (subst (λ xs. AreKeptOf x.input.now.image (seen_at x.region xs) (run x.checked.now x.input.now x.taken).lines) (sym e) h.kept)

  pub image-same : image ≡ s.input.image
  image-same = e ∙ ap (λ (y : Seen). y.input.image) v

  pub image-lines : length image ≡ 64 * length (state_of s).lines
  image-lines = ap length e ∙ same_size x.checked.now x.input.now x.taken h.valid ∙ ap (λ (y : Seen). 64 * length (state_of y).lines) v

  pub image-low : length image < 2 ^ 40
  image-low = omega (arith, ap length e, h.valid.image, h.sound.sizes.region)

  module _ (j : ℕ) (lt : j < length (state_of s).lines) where
    pub reach : 64 * j + 64 ≤ length image
    reach = omega (arith, lt, image-lines)

    pub start-low : 64 * j < 2 ^ 40
    start-low = omega (arith, reach, image-low)

    pub line-there : (l : Line StorePart) × (slice_get (state_of s).lines j ≡ Some l)
    line-there = get_there (state_of s).lines j lt

    pub few : (seen_at x.region image j).least + length (seen_at x.region image j).later < 2 ^ 63
    few = subst (λ xs. (seen_at x.region xs j).least + length (seen_at x.region xs j).later < 2 ^ 63) (sym e) (kept-few x.checked.now x.input.now x.taken (seen_at x.region x.input.now.image) h.valid h.kept j (omega (arith, reach, ap length e)))

    pub line-bounds : (l : Line StorePart) → slice_get (state_of s).lines j ≡ Some l → ((seen_at x.region image j).least ≡ l.durable) × ((seen_at x.region image j).least + length (seen_at x.region image j).later ≡ length l.parts)
    line-bounds l q = (
      (seen-kept.are j l q).least,
      kept-count s.program s.input s.taken (seen_at x.region image) seen-kept j l q,
    )

    pub bounds-are : (least most : ℕ) → least ≡ (seen_at x.region image j).least → most ≡ least + length (seen_at x.region image j).later → record { least = least; most = most } ≡ bounds_of (state_of s) j
    bounds-are least most a b =
        let l = line-there in
        let k = line-bounds l.0 l.1 in
        ap₂ (λ p q. record { least = p; most = q }) (a ∙ k.0) (b ∙ ap (λ n. n + length (seen_at x.region image j).later) a ∙ k.1) ∙ ap bounds_in (sym l.1)

    -- The bytes of the line after some first parts.
    pub bytes-are : (l : Line StorePart) → slice_get (state_of s).lines j ≡ Some l → (q i : ℕ) → l.durable ≤ q → i < 64
        → slice_index (bytes_after (take (q - l.durable) (seen_at x.region image j).later) (64 * j) (seen_at x.region image j).bytes) i ≡ byte_after covers byte_of (take q l.parts) (64 * j + i) (slice_index s.input.image (64 * j + i))
    bytes-are l g q i le lt =
        let k = seen-kept.are j l g in
        let first = slice_index s.input.image (64 * j + i) in
        let later = (seen_at x.region image j).later in
        let fit : i < length (seen_at x.region image j).bytes = omega (arith, k.long, lt) in
        index-bytes_after (take (q - l.durable) later) (64 * j) (seen_at x.region image j).bytes i fit
        ∙ ap (byte_after stored_covers stored_byte (take (q - l.durable) later) (64 * j + i)) (k.bytes i lt)
        ∙ after-alike j (take (q - l.durable) later) (take (q - l.durable) (drop l.durable l.parts)) (64 * j + i) (byte_after covers byte_of (take l.durable l.parts) (64 * j + i) first) (alike-take j (q - l.durable) later (drop l.durable l.parts) k.later) (omega arith) (omega (arith, lt))
        ∙ sym (past_durable l q (64 * j + i) first le)

    pub bounds-seen : ((bounds_of (state_of s) j).least ≡ (seen_at x.region image j).least) × ((bounds_of (state_of s) j).most ≡ (seen_at x.region image j).least + length (seen_at x.region image j).later)
    bounds-seen =
        let e = bounds-are (seen_at x.region image j).least ((seen_at x.region image j).least + length (seen_at x.region image j).later) refl refl in
        (sym (ap (λ (b : Bounds). b.least) e), sym (ap (λ (b : Bounds). b.most) e))

    whole-size : length s.input.image ≡ 64 * length (state_of s).lines
    whole-size = ap length (sym image-same) ∙ image-lines

    long : (vs : List StoredValue) → length (bytes_after vs (64 * j) (seen_at x.region image j).bytes) ≡ 64
    long vs = length-bytes_after vs (64 * j) (seen_at x.region image j).bytes ∙ (seen-kept.are j line-there.0 line-there.1).long

    -- The line in an image that a pick gives.
    pub piece-seen : (pick : ℕ → ℕ) (q : ℕ) (bs : List ℕ) → (seen_at x.region image j).least ≤ q → pick j ≡ q → bs ≡ bytes_after (take (q - (seen_at x.region image j).least) (seen_at x.region image j).later) (64 * j) (seen_at x.region image j).bytes
        → bs ≡ take 64 (drop (64 * j) (crash_image s.input (state_of s) pick))
    piece-seen pick q bs le e b =
        let l = line-there in
        let k = line-bounds l.0 l.1 in
        let same : (q - (seen_at x.region image j).least) ≡ q - l.0.durable = ap (λ n. q - n) k.0 in
        let at : bs ≡ bytes_after (take (q - l.0.durable) (seen_at x.region image j).later) (64 * j) (seen_at x.region image j).bytes = b ∙ ap (λ n. bytes_after (take n (seen_at x.region image j).later) (64 * j) (seen_at x.region image j).bytes) same in
        piece s.input (state_of s) pick j l.0 bs whole-size l.1 lt (ap length b ∙ long (take (q - (seen_at x.region image j).least) (seen_at x.region image j).later))
        (λ i low. ap (λ xs. slice_index xs i) at ∙ bytes-are l.0 l.1 q i (omega (arith, le, k.0)) low ∙ ap (λ n. byte_after covers byte_of (take n l.0.parts) (64 * j + i) (slice_index s.input.image (64 * j + i))) (sym e))

    module _ (r : List ℕ) (size : length r ≡ length s.input.image) (wanted : List ℕ) (w : wanted ≡ take 64 (drop (64 * j) r)) where
      wanted-byte : (i : ℕ) → i < 64 → slice_index wanted i ≡ slice_index r (64 * j + i)
      wanted-byte i low = ap (λ xs. slice_index xs i) w ∙ index-take 64 (drop (64 * j) r) i low ∙ index-drop [] 0 (64 * j) r i

      wanted-long : length wanted ≡ 64
      wanted-long = ap length w ∙ length-take-le 64 (drop (64 * j) r) (rest (length (drop (64 * j) r)) (length-drop (64 * j) r))
        where
          rest : (m : ℕ) → m ≡ length r - 64 * j → 64 ≤ m
          rest m q = omega (arith, q, size, whole-size, lt)

      -- If this many later stores give the line in the image, the picked number is that many more than the least.
      pub number-seen : (count : ℕ) → count ≤ length (seen_at x.region image j).later → bytes_after (take count (seen_at x.region image j).later) (64 * j) (seen_at x.region image j).bytes ≡ wanted
          → IsNumberOf s.input (state_of s) r j (Some ((seen_at x.region image j).least + count))
      number-seen count le e = record {
        is = λ l g.
            let k = line-bounds l g in
            let q = (seen_at x.region image j).least + count in
            let n : count ≡ q - l.durable = omega (arith, k.0) in
            record {
              least = omega (arith, k.0);
              most = omega (arith, k.1, le);
              bytes = λ b from to.
                  let i = b - 64 * j in
                  let low : i < 64 = omega (arith, from, to) in
                  let back : 64 * j + i ≡ b = omega (arith, from) in
                  ap (slice_index r) (sym back) ∙ sym (wanted-byte i low) ∙ ap (λ xs. slice_index xs i) (sym e ∙ ap (λ m. bytes_after (take m (seen_at x.region image j).later) (64 * j) (seen_at x.region image j).bytes) n)
                  ∙ bytes-are l g q i (omega (arith, k.0)) low ∙ ap (λ c. byte_after covers byte_of (take q l.parts) c (slice_index s.input.image c)) back;
            };
      }

      -- If no number of later stores gives the line in the image, no number of first parts does.
      pub number-none : ((q : ℕ) → q ≤ length (seen_at x.region image j).later → bytes_after (take q (seen_at x.region image j).later) (64 * j) (seen_at x.region image j).bytes ≢ wanted) → IsNumberOf s.input (state_of s) r j None
      number-none none = record {
        is = λ l g q h.
            let k = line-bounds l g in
            none (q - l.durable) (omega (arith, k.0, k.1, h.most)) (same_lists (bytes_after (take (q - l.durable) (seen_at x.region image j).later) (64 * j) (seen_at x.region image j).bytes) wanted (long (take (q - l.durable) (seen_at x.region image j).later) ∙ sym wanted-long) (λ i low.
            let fit : i < 64 = omega (arith, low, long (take (q - l.durable) (seen_at x.region image j).later)) in
            bytes-are l g q i h.least fit ∙ sym (h.bytes (64 * j + i) (omega arith) (omega (arith, fit))) ∙ sym (wanted-byte i fit)));
      }

    -- The same for a view of the line.
    module _ (vb : List ℕ) (vl : ℕ) (vs : List StoredValue) (start : ℕ) (eb : vb ≡ (seen_at x.region image j).bytes) (el : vl ≡ (seen_at x.region image j).least) (es : vs ≡ (seen_at x.region image j).later) (et : start ≡ 64 * j) where
      viewed : (count : ℕ) → bytes_after (take count vs) start vb ≡ bytes_after (take count (seen_at x.region image j).later) (64 * j) (seen_at x.region image j).bytes
      viewed count = ap (λ xs. bytes_after (take count xs) start vb) es ∙ ap (λ n. bytes_after (take count (seen_at x.region image j).later) n vb) et ∙ ap (λ xs. bytes_after (take count (seen_at x.region image j).later) (64 * j) xs) eb

      pub piece-viewed : (pick : ℕ → ℕ) (q count : ℕ) (bs : List ℕ) → vl ≤ q → count ≡ q - vl → pick j ≡ q → bs ≡ bytes_after (take count vs) start vb → bs ≡ take 64 (drop (64 * j) (crash_image s.input (state_of s) pick))
      piece-viewed pick q count bs le c e b = piece-seen pick q bs (omega (arith, le, el)) e (b ∙ viewed count ∙ ap (λ n. bytes_after (take n (seen_at x.region image j).later) (64 * j) (seen_at x.region image j).bytes) (c ∙ ap (λ n. q - n) el))

      pub number-viewed : (r : List ℕ) → length r ≡ length s.input.image → (wanted : List ℕ) → wanted ≡ take 64 (drop (64 * j) r) → (count : ℕ) → count ≤ length vs → bytes_after (take count vs) start vb ≡ wanted → IsNumberOf s.input (state_of s) r j (Some (vl + count))
      number-viewed r size wanted w count le e = subst (λ n. IsNumberOf s.input (state_of s) r j (Some (n + count))) (sym el) (number-seen r size wanted w count (omega (arith, le, ap length es)) (sym (viewed count) ∙ e))

      pub none-viewed : (r : List ℕ) → length r ≡ length s.input.image → (wanted : List ℕ) → wanted ≡ take 64 (drop (64 * j) r) → ((q : ℕ) → q ≤ length vs → bytes_after (take q vs) start vb ≢ wanted) → IsNumberOf s.input (state_of s) r j None
      none-viewed r size wanted w none = number-none r size wanted w (λ q le e. none q (omega (arith, le, ap length es)) (viewed q ∙ e))

      pub count-fits : (count : ℕ) → count ≤ length vs → vl + count < 2 ^ 63
      count-fits count le = let f = few in omega (arith, f, le, el, ap length es)

      pub bounds-least : (bounds_of (state_of s) j).least ≡ vl
      bounds-least = bounds-seen.0 ∙ sym el

      pub bounds-most : (bounds_of (state_of s) j).most ≡ vl + length vs
      bounds-most = bounds-seen.1 ∙ ap (λ n. n + length (seen_at x.region image j).later) (sym el) ∙ ap (λ xs. vl + length xs) (sym es)
