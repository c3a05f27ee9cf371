-- The loose bytes of a range, from queue to queue.
use Rattle.std.proofs.Common.{◌≡◌, ◌≢◌, ◌⊎◌, inl, inr, ℕ, zero, suc, ◌+◌, ◌*◌, ◌/◌, ◌-◌, ◌<◌, ◌≤◌, ◌^◌, IsSome, Bor, min, max, List, [], ◌∷◌, ◌++◌, length, Option, Some, None, option_map, option_to_list, refl, sym, ap, ap₂, ◌∙◌, slice_get, option_and_then, subst, arith}
use Rattle.std.specs.Iterator.{MakesProgress, item_count}
use Rattle.std.specs.Option.{option_copied}
use Rattle.hip_lines.specs.declared.part.Part.{Part}
use Rattle.hip_lines.specs.declared.part.LooseByte.{LooseByte}
use Rattle.hip_lines.specs.declared.queue.Queue.{Queue}
use Rattle.hip_lines.specs.declared.queues.Queues.{Queues}
use Rattle.hip_lines.specs.Loose.{last_over}
use Rattle.hip_lines.specs.Pending.{Pending}
use Rattle.hip_lines.specs.Parts.{part_covers, loose_by, loose_in, loose_from}
use Rattle.hip_lines.specs.Queues.{pending_in}
use Rattle.hip_lines.specs.Kept.{queue_at, pending_by, pending_at}
use Rattle.hip_lines.specs.Views.{table_from, lines_of}
use Rattle.hip_lines.proofs.Tables.{slice_get-table_from}
use Rattle.hip_lines.specs.Next.{NoneLoose, IsFirstLoose, loose_of, lines_to, IsQueueFrom, IsNextQueue}

-- How many lines there are from the queue's line on.
abbrev pub lines_left : ℕ → Option Queue → ℕ
lines_left to None = 0
lines_left to (Some q) = to - q.line

pub loose_in-offset : (w : Pending Part) (b : ℕ) (f : LooseByte) → loose_in w b ≡ Some f → f.offset ≡ b
loose_in-offset w b f e = go (last_over part_covers b w.parts) e
  where
    go : (o : Option (ℕ × Part)) → option_map (loose_by w b) o ≡ Some f → f.offset ≡ b
    go None e = absurd (let z : ⊥ = cc in z)
    go (Some x) e = let z : f ≡ loose_by w b x = cc in ap (λ (g : LooseByte). g.offset) z

loose_at_line : Queues → ℕ → Option LooseByte
loose_at_line m b = loose_in (pending_at m (b / 64)) b

pub loose_of-skip : (m : Queues) (k o n : ℕ) → k ≤ n → ((b : ℕ) → o ≤ b → b < o + k → loose_in (pending_at m (b / 64)) b ≡ None) → loose_of m o n ≡ loose_of m (o + k) (n - k)
loose_of-skip m zero o n h none = let z : o ≡ o + 0 = omega arith in let y : n ≡ n - 0 = omega arith in ap (λ i. loose_of m i n) z ∙ ap (λ i. loose_of m (o + 0) i) y
loose_of-skip m (suc k) o zero h none = absurd (omega arith)
loose_of-skip m (suc k) o (suc n) h none =
    let z : suc o + k ≡ o + suc k = omega arith in
    let y : n - k ≡ suc n - suc k = omega arith in
    ap (λ x. option_to_list x ++ loose_of m (suc o) n) (none o (omega arith) (omega arith))
    ∙ loose_of-skip m k (suc o) n (omega arith) (λ b from to. none b (omega arith) (omega arith))
    ∙ ap (λ i. loose_of m i (n - k)) z ∙ ap (λ i. loose_of m (o + suc k) i) y

-- Bytes before a stop may be skipped if none of them is loose.
pub loose_of-skip_to : (m : Queues) (at stop end : ℕ) → at ≤ stop → stop ≤ end → ((b : ℕ) → at ≤ b → b < stop → loose_in (pending_at m (b / 64)) b ≡ None) → loose_of m at (end - at) ≡ loose_of m stop (end - stop)
loose_of-skip_to m at stop end h k none =
    let z : at + (stop - at) ≡ stop = omega arith in
    let y : (end - at) - (stop - at) ≡ end - stop = omega arith in
    loose_of-skip m (stop - at) at (end - at) (omega arith) (λ b from to. none b from (omega (arith, z)))
    ∙ ap (λ i. loose_of m i ((end - at) - (stop - at))) z ∙ ap (λ i. loose_of m stop i) y

-- A byte of a line without a queue is not loose.
none_without : (m : Queues) (b : ℕ) → queue_at m (b / 64) ≡ None → loose_in (pending_at m (b / 64)) b ≡ None
none_without m b e = ap (λ o. loose_in (pending_by o) b) e

in_queue : (m : Queues) (b : ℕ) (q : Queue) → queue_at m q.line ≡ Some q → b / 64 ≡ q.line → pending_at m (b / 64) ≡ pending_in q
in_queue m b q e f = ap (pending_at m) f ∙ ap pending_by e

-- A search in the queue of a line that finds nothing shows that no byte from `at` up to `stop` is loose.
before : (m : Queues) (at end stop : ℕ) (q : Queue) → IsNextQueue m at (lines_to end) (Some q) → stop ≤ 64 * q.line + 64 → NoneLoose (pending_in q) (max at (q.line * 64)) stop → (b : ℕ) → at ≤ b → b < stop → loose_in (pending_at m (b / 64)) b ≡ None
before m at end stop q h s none b from to = go (split b)
  where
    split : (b : ℕ) → (b < q.line * 64) ⊎ (q.line * 64 ≤ b)
    split b = grind arith

    go : (b < q.line * 64) ⊎ (q.line * 64 ≤ b) → loose_in (pending_at m (b / 64)) b ≡ None
    go (inl lt) = none_without m b (h.3 (b / 64) (omega arith) (omega arith))
    go (inr ge) = ap (λ w. loose_in w b) (in_queue m b q h.0 (omega arith)) ∙ none b (omega arith) to

-- Where the search in a queue begins and ends.
pub record Searches (at end from stop : ℕ) (q : Queue) : Type 0 where
  pub from_is : from ≡ max at (q.line * 64)
  pub stop_is : stop ≡ min end ((q.line + 1) * 64)

pub rest-found : (m : Queues) (at end from stop : ℕ) (q : Queue) (f : LooseByte) → Searches at end from stop q → IsNextQueue m at (lines_to end) (Some q) → IsFirstLoose (pending_in q) from stop (Some f) → loose_of m at (end - at) ≡ f ∷ loose_of m (f.offset + 1) (end - (f.offset + 1))
rest-found m at end from stop q f c h s =
    let lo : at ≤ f.offset = omega (arith, c.from_is, s.0) in
    let hi : f.offset < end = omega (arith, c.stop_is, s.1) in
    let hi' : f.offset < (q.line + 1) * 64 = omega (arith, c.stop_is, s.1) in
    let lo' : q.line * 64 ≤ f.offset = omega (arith, c.from_is, s.0) in
    let n : end - f.offset ≡ suc (end - (f.offset + 1)) = omega arith in
    let o : suc f.offset ≡ f.offset + 1 = omega arith in
    let l : f.offset / 64 ≡ q.line = omega arith in
    loose_of-skip_to m at f.offset end lo (omega arith) (before m at end f.offset q h (omega arith) (subst (λ i. NoneLoose (pending_in q) i f.offset) c.from_is s.3))
    ∙ ap (loose_of m f.offset) n
    ∙ ap (λ w. option_to_list (loose_in w f.offset) ++ loose_of m (suc f.offset) (end - (f.offset + 1))) (in_queue m f.offset q h.0 l)
    ∙ ap (λ x. option_to_list x ++ loose_of m (suc f.offset) (end - (f.offset + 1))) s.2
    ∙ ap (λ i. f ∷ loose_of m i (end - (f.offset + 1))) o

pub next_queue-found : (m : Queues) (at end from stop : ℕ) (q : Queue) (f : LooseByte) → Searches at end from stop q → IsNextQueue m at (lines_to end) (Some q) → IsFirstLoose (pending_in q) from stop (Some f) → IsNextQueue m (f.offset + 1) (lines_to end) (Some q)
next_queue-found m at end from stop q f c h s = (h.0, omega (arith, c.stop_is, s.1), h.2, λ j low high. h.3 j (omega (arith, c.from_is, s.0)) high)

-- If nothing is found, the search continues at the next line.
none_before : (m : Queues) (at end from stop : ℕ) (q : Queue) → Searches at end from stop q → IsNextQueue m at (lines_to end) (Some q) → IsFirstLoose (pending_in q) from stop None → (b : ℕ) → at ≤ b → b < stop → loose_in (pending_at m (b / 64)) b ≡ None
none_before m at end from stop q c h s b low high = before m at end stop q h (omega (arith, c.stop_is)) (subst (λ i. NoneLoose (pending_in q) i stop) c.from_is s) b low high

pub rest-none : (m : Queues) (at end from stop : ℕ) (q : Queue) → Searches at end from stop q → IsNextQueue m at (lines_to end) (Some q) → IsFirstLoose (pending_in q) from stop None → stop ≢ end → loose_of m at (end - at) ≡ loose_of m stop (end - stop)
rest-none m at end from stop q c h s ne = loose_of-skip_to m at stop end (omega (arith, c.stop_is, h.1)) (omega (arith, c.stop_is)) (none_before m at end from stop q c h s)

pub next_queue-from : (m : Queues) (at end from stop : ℕ) (q : Queue) (o : Option Queue) → Searches at end from stop q → IsQueueFrom m (q.line + 1) (lines_to end) o → stop ≢ end → IsNextQueue m stop (lines_to end) o
next_queue-from m at end from stop q None c h ne = λ j low high. h j (omega (arith, c.stop_is, low)) high
next_queue-from m at end from stop q (Some r) c h ne = (h.0, omega (arith, c.stop_is, h.1), h.2, λ j low high. h.3 j (omega (arith, c.stop_is)) high)

-- Each step lowers the number of lines that are left.
pub lines_fall : (m : Queues) (to : ℕ) (q : Queue) (o : Option Queue) → q.line < to → IsQueueFrom m (q.line + 1) to o → lines_left to o < lines_left to (Some q)
lines_fall m to q None lt h = omega (arith, lt)
lines_fall m to q (Some r) lt h = omega (arith, lt, h.1)

pub rest-end : (m : Queues) (at end from stop : ℕ) (q : Queue) → Searches at end from stop q → IsNextQueue m at (lines_to end) (Some q) → IsFirstLoose (pending_in q) from stop None → stop ≡ end → loose_of m at (end - at) ≡ []
rest-end m at end from stop q c h s e = go (split at end)
  where
    split : (a b : ℕ) → (a ≤ b) ⊎ (b < a)
    split a b = grind arith

    go : (at ≤ end) ⊎ (end < at) → loose_of m at (end - at) ≡ []
    go (inl le) = let z : end - end ≡ 0 = omega arith in loose_of-skip_to m at end end le (omega arith) (λ b low high. none_before m at end from stop q c h s b low (omega (arith, e, high))) ∙ ap (loose_of m end) z
    go (inr gt) = let z : end - at ≡ 0 = omega arith in ap (loose_of m at) z

pub rest-no_queue : (m : Queues) (at end : ℕ) (o : Option (Bor Queue)) → IsNextQueue m at (lines_to end) (option_copied o) → ((q : Bor Queue) → o ≡ Some q → ⊥) → loose_of m at (end - at) ≡ []
rest-no_queue m at end (Some q) h n = absurd (n q refl)
rest-no_queue m at end None h n = go (split at end)
  where
    split : (a b : ℕ) → (a ≤ b) ⊎ (b < a)
    split a b = grind arith

    go : (at ≤ end) ⊎ (end < at) → loose_of m at (end - at) ≡ []
    go (inl le) = let z : end - end ≡ 0 = omega arith in loose_of-skip_to m at end end le (omega arith) (λ b from to. none_without m b (h (b / 64) (omega arith) (omega (arith, to)))) ∙ ap (loose_of m end) z
    go (inr gt) = let z : end - at ≡ 0 = omega arith in ap (loose_of m at) z

-- An iterator over a list makes progress when it gives one item.
pub goes_on : (xs ys : List LooseByte) (f : LooseByte) → xs ≡ f ∷ ys → MakesProgress {S = List LooseByte} {A = LooseByte} (λ _. Unit {0}) (item_count {S = List LooseByte} {A = LooseByte} (λ s. s)) xs (Some f) ys
goes_on xs ys f e = record { on = λ _. (tt, tt, omega (arith, ap length e)); keeps = tt; rests = λ _. tt }

-- The loose bytes by the queues are those by the lines.
pub loose_of-lines : (m : Queues) (count o n : ℕ) → o + n ≤ 64 * count → loose_of m o n ≡ loose_from (lines_of count m) o n
unfolding lines_of
loose_of-lines m count o zero h = refl
loose_of-lines m count o (suc n) h = ap₂ (λ x xs. option_to_list x ++ xs) (sym (ap (λ w. option_and_then (λ v. loose_in v o) w) (line (o / 64) (omega arith)))) (loose_of-lines m count (suc o) n (omega arith))
  where
    line : (k : ℕ) → k < count → slice_get (table_from (pending_at m) 0 count) k ≡ Some (pending_at m k)
    line k lt = let z : 0 + k ≡ k = omega arith in slice_get-table_from (pending_at m) 0 count k lt ∙ ap (λ i. Some (pending_at m i)) z
