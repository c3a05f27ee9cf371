-- What the loops over a store's lines keep.
use Rattle.std.proofs.Common.{◌≡◌, ◌≢◌, ◌⊎◌, inl, inr, ℕ, ◌<◌, ◌≤◌, cond, nat_lt, ◌&&◌, length, Some, None, IsSome, Result, Ok, Err, OnOk, OnErr, refl, sym, ap, ◌∙◌, subst, arith}
use Rattle.hip_lines.specs.declared.queue.Queue.{Queue}
use Rattle.hip_lines.specs.declared.queues.Queues.{Queues}
use Rattle.hip_lines.specs.Line.{has_bytes}
use Rattle.hip_lines.specs.declared.part.Part.{Part}
use Rattle.hip_lines.specs.Pending.{Pending, pending_with, pending_flushed}
use Rattle.hip_lines.specs.Queues.{pending_in}
use Rattle.hip_lines.specs.Parts.{part_in}
use Rattle.hip_lines.specs.Kept.{queue_at, count_of, pending_by, pending_at, HasRoomBy, HasRoomAt, AreBelow, ChangesLine, GivesQueue}

-- Room was made in the lines from `first` up to `line`.
pub record MadeRoom (first line : ℕ) (old new : Queues) : Type 0 where
  pub same : (j : ℕ) → pending_at new j ≡ pending_at old j
  pub kept : (j : ℕ) → HasRoomAt old j → HasRoomAt new j
  pub room : (j : ℕ) → first ≤ j → j < line → HasRoomAt new j
  pub below : (n : ℕ) → line ≤ n → AreBelow n old → AreBelow n new

-- The parts of a store in the lines below `line` were added.
pub record TookUp (o n tag line : ℕ) (old new : Queues) : Type 0 where
  pub pending : (j : ℕ) → pending_at new j ≡ cond (has_bytes j o n && nat_lt j line) (pending_with (part_in o n tag j) (pending_at old j)) (pending_at old j)
  pub room : (j : ℕ) → line ≤ j → queue_at new j ≡ queue_at old j
  pub below : (n : ℕ) → AreBelow n old → AreBelow n new
  pub count : count_of new ≡ count_of old

same_or_differs : (j k : ℕ) → (j ≡ k) ⊎ (j ≢ k)
same_or_differs j k = grind arith

-- ---- what one line's queue with more room is for all lines

pub changed-same : (line : ℕ) (old new : Queues) → ChangesLine (λ w. w) line old new → (j : ℕ) → pending_at new j ≡ pending_at old j
changed-same line old new c j = go (same_or_differs j line)
  where
    go : (j ≡ line) ⊎ (j ≢ line) → pending_at new j ≡ pending_at old j
    go (inl e) = ap (pending_at new) e ∙ c.here ∙ ap (pending_at old) (sym e)
    go (inr ne) = ap pending_by (c.others j ne)

pub changed-kept : (line : ℕ) (old new : Queues) → ChangesLine (λ w. w) line old new → (HasRoomAt old line → HasRoomAt new line) → (j : ℕ) → HasRoomAt old j → HasRoomAt new j
changed-kept line old new c k j h = go (same_or_differs j line)
  where
    go : (j ≡ line) ⊎ (j ≢ line) → HasRoomAt new j
    go (inl e) = subst (HasRoomAt new) (sym e) (k (subst (HasRoomAt old) e h))
    go (inr ne) = subst HasRoomBy (sym (c.others j ne)) h

-- ---- what a new queue of a line is for all lines

module _ (line : ℕ) (old new : Queues) (absent : queue_at old line ≡ None) (g : GivesQueue line old new) where
  same : (j : ℕ) → (j ≡ line) ⊎ (j ≢ line) → pending_at new j ≡ pending_at old j
  same j (inl e) = ap (pending_at new) e ∙ ap pending_by g.here ∙ g.empty ∙ sym (ap pending_by (ap (queue_at old) e ∙ absent))
  same j (inr ne) = ap pending_by (g.others j ne)

module _ (line : ℕ) (old new : Queues) (g : GivesQueue line old new) where
  room : HasRoomAt new line
  room = subst HasRoomBy (sym g.here) g.room

  kept : (j : ℕ) → (j ≡ line) ⊎ (j ≢ line) → HasRoomAt old j → HasRoomAt new j
  kept j (inl e) h = subst (HasRoomAt new) (sym e) room
  kept j (inr ne) h = subst HasRoomBy (sym (g.others j ne)) h

  below : (n j : ℕ) → (j ≡ line) ⊎ (j ≢ line) → line < n → AreBelow n old → IsSome (queue_at new j) → j < n
  below n j (inl e) lt b s = subst (λ i. i < n) (sym e) lt
  below n j (inr ne) lt b s = b j (subst IsSome (g.others j ne) s)

pub given-same : {A E : Type 0} (r : Result A E) (line : ℕ) (old new : Queues) → queue_at old line ≡ None → OnOk r (GivesQueue line old new) → OnErr r ((j : ℕ) → queue_at new j ≡ queue_at old j) → (j : ℕ) → pending_at new j ≡ pending_at old j
given-same (Ok x) line old new absent g k j = same line old new absent g j (same_or_differs j line)
given-same (Err e) line old new absent g k j = ap pending_by (k j)

pub given-kept : {A E : Type 0} (r : Result A E) (line : ℕ) (old new : Queues) → OnOk r (GivesQueue line old new) → OnErr r ((j : ℕ) → queue_at new j ≡ queue_at old j) → (j : ℕ) → HasRoomAt old j → HasRoomAt new j
given-kept (Ok x) line old new g k j h = kept line old new g j (same_or_differs j line) h
given-kept (Err e) line old new g k j h = subst HasRoomBy (sym (k j)) h

pub given-room : {A E : Type 0} (r : Result A E) (line : ℕ) (old new : Queues) → OnOk r (GivesQueue line old new) → OnOk r (HasRoomAt new line)
given-room (Ok x) line old new g = room line old new g
given-room (Err e) line old new g = tt

pub given-below : {A E : Type 0} (r : Result A E) (line : ℕ) (old new : Queues) → OnOk r (GivesQueue line old new) → OnErr r ((j : ℕ) → queue_at new j ≡ queue_at old j) → (n : ℕ) → line < n → AreBelow n old → AreBelow n new
given-below (Ok x) line old new g k n lt b j s = below line old new g n j (same_or_differs j line) lt b s
given-below (Err e) line old new g k n lt b j s = b j (subst IsSome (k j) s)

-- ---- a line that is flushed

pub pending-of : (m : Queues) (j : ℕ) (q : Queue) → Some q ≡ queue_at m j → pending_at m j ≡ pending_in q
pending-of m j q e = ap pending_by (sym e)

pub some-of : (m : Queues) (j : ℕ) (q : Queue) → Some q ≡ queue_at m j → IsSome (queue_at m j)
some-of m j q e = subst IsSome e refl

-- If nothing in a line's queue is flushed, the line has no flushed parts.
pub first-flush : (m : Queues) (j : ℕ) (q : Queue) → Some q ≡ queue_at m j → (pending_in q).flushed ≡ 0 → (pending_at m j).flushed ≡ 0
first-flush m j q e z = ap (λ (w : Pending Part). w.flushed) (pending-of m j q e) ∙ z

pub flushed-some : (m m' : Queues) (j : ℕ) (q : Queue) → Some q ≡ queue_at m j → pending_at m' j ≡ pending_flushed (pending_at m j) → (pending_in q).flushed ≡ 0 → (pending_in q).flushed ≢ length (pending_in q).parts → 0 < (pending_at m' j).flushed
flushed-some m m' j q e h z ne =
    let a : (pending_at m' j).flushed ≡ length (pending_in q).parts = ap (λ (w : Pending Part). w.flushed) h ∙ ap (λ (w : Pending Part). length w.parts) (pending-of m j q e) in
    positive (pending_at m' j).flushed (length (pending_in q).parts) a (λ y. ne (z ∙ sym y))
  where
    positive : (n k : ℕ) → n ≡ k → k ≢ 0 → 0 < n
    positive n k e ne = omega (arith, e, ne)

-- If all parts of a line are flushed already, a flush changes nothing.
pub flushed-already : (m : Queues) (j : ℕ) (q : Queue) → Some q ≡ queue_at m j → (pending_in q).flushed ≡ length (pending_in q).parts → ChangesLine pending_flushed j m m
flushed-already m j q e f = record {
  here = p ∙ ap (λ n. record { parts = (pending_in q).parts; flushed = n }) f ∙ sym (ap pending_flushed p);
  others = λ k ne. refl;
  below = λ n h. h;
  count = refl;
}
  where
    p : pending_at m j ≡ pending_in q
    p = pending-of m j q e

-- If not all parts of a line are flushed, a flush changes them.
pub flushed-differs : (m m' : Queues) (j : ℕ) (q : Queue) → Some q ≡ queue_at m j → ChangesLine pending_flushed j m m' → (pending_in q).flushed ≢ length (pending_in q).parts → pending_at m' j ≢ pending_at m j
flushed-differs m m' j q e c ne same =
    let p = pending-of m j q e in
    ne (ap (λ (w : Pending Part). w.flushed) (sym p ∙ sym same ∙ c.here ∙ ap pending_flushed p))
