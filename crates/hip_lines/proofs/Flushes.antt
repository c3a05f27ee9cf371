-- The flush of a range, line by line.
use Rattle.std.proofs.Common.{◌≡◌, ◌≢◌, ◌⊎◌, inl, inr, ℕ, ◌+◌, ◌/◌, ◌-◌, ◌<◌, ◌≤◌, Bool, true, false, cond, nat_lt, ◌&&◌, Option, Some, None, IsSome, refl, sym, ap, ◌∙◌, subst, arith}
use Rattle.std.proofs.lemmas.Bool.Decides.{nat_tests}
use Rattle.hip_lines.specs.declared.queue.Queue.{Queue}
use Rattle.hip_lines.specs.declared.queues.Queues.{Queues}
use Rattle.hip_lines.specs.Line.{has_bytes}
use Rattle.hip_lines.specs.Pending.{pending_flushed}
use Rattle.hip_lines.specs.Kept.{queue_at, count_of, pending_by, pending_at, AreBelow, ChangesLine, FlushesLines}
use Rattle.hip_lines.specs.Next.{IsQueueFrom}

-- The lines of the range below `next` were flushed, and `changed` says whether one of them changed.
pub record Flushed (o n next : ℕ) (changed : Bool) (old new : Queues) : Type 0 where
  pub first : o / 64 ≤ next
  pub pending : (j : ℕ) → pending_at new j ≡ cond (has_bytes j o n && nat_lt j next) (pending_flushed (pending_at old j)) (pending_at old j)
  pub above : (j : ℕ) → next ≤ j → queue_at new j ≡ queue_at old j
  pub below : (k : ℕ) → AreBelow k old → AreBelow k new
  pub count : count_of new ≡ count_of old
  pub changes : changed ≡ true → (j : ℕ) × (j < next) × IsSome (queue_at old j) × (pending_at new j ≢ pending_at old j)
  pub keeps : changed ≡ false → (j : ℕ) → queue_at new j ≡ queue_at old j

pub start : (o n : ℕ) (m : Queues) → Flushed o n (o / 64) false m m
start o n m = record {
  first = omega arith;
  pending = λ j. ap (λ b. cond b (pending_flushed (pending_at m j)) (pending_at m j)) (sym (off j));
  above = λ j h. refl;
  below = λ k b. b;
  count = refl;
  changes = λ e. absurd (let z : ⊥ = cc in z);
  keeps = λ e j. refl;
}
  where
    off : (j : ℕ) → (has_bytes j o n && nat_lt j (o / 64)) ≡ false
    off j = grind (arith, nat_tests)

-- A line of the range below `line + 1` is below `next`, or is one of the lines from `next` up to `line`.
test_at : (o n next line j : ℕ) → next ≤ line → ((has_bytes j o n && nat_lt j next) ≡ (has_bytes j o n && nat_lt j (line + 1))) ⊎ ((next ≤ j) × (j ≤ line))
test_at o n next line j h = grind (arith, nat_tests)

none_flushed : (b : Bool) (o : Option Queue) → o ≡ None → pending_by o ≡ cond b (pending_flushed (pending_by o)) (pending_by o)
none_flushed true None e = refl
none_flushed false None e = refl
none_flushed b (Some q) e = absurd (let z : ⊥ = cc in z)

here_test : (o n line : ℕ) → o / 64 ≤ line → line < (o + n - 1) / 64 + 1 → 0 < n → (has_bytes line o n && nat_lt line (line + 1)) ≡ true
here_test o n line h k p = grind (arith, nat_tests)

pub one_more : (o n next line : ℕ) (changed : Bool) (old m m' : Queues) (q : Queue) → q.line ≡ line → 0 < n → Flushed o n next changed old m → IsQueueFrom m next ((o + n - 1) / 64 + 1) (Some q) → ChangesLine pending_flushed line m m' → (c : Bool) → (c ≡ true → pending_at m' line ≢ pending_at m line) → (c ≡ false → (j : ℕ) → queue_at m' j ≡ queue_at m j) → (changed' : Bool) → changed' ≡ cond c true changed → Flushed o n (line + 1) changed' old m'
one_more o n next line changed old m m' q ql p f s c b differs same changed' ce = record {
  first = omega (arith, f.first, le);
  pending = λ j. at j (test_at o n next line j le) (three j);
  above = λ j h. c.others j (apart j h) ∙ f.above j (omega (arith, h, le));
  below = λ k a. c.below k (f.below k a);
  count = c.count ∙ f.count;
  changes = λ e. found b refl (sym ce ∙ e);
  keeps = λ e. kept b refl (sym ce ∙ e);
}
  where
    lt : line < (o + n - 1) / 64 + 1
    lt = omega (arith, s.2, ql)

    le : next ≤ line
    le = omega (arith, s.1, ql)

    apart : (j : ℕ) → line + 1 ≤ j → j ≢ line
    apart j h = λ e. omega (arith, e, h)

    three : (j : ℕ) → (j ≡ line) ⊎ ((j ≢ line) × ((j < line) ⊎ (line < j)))
    three j = grind arith

    old_here : pending_at m line ≡ pending_at old line
    old_here = ap pending_by (f.above line le)

    at : (j : ℕ) → ((has_bytes j o n && nat_lt j next) ≡ (has_bytes j o n && nat_lt j (line + 1))) ⊎ ((next ≤ j) × (j ≤ line)) → (j ≡ line) ⊎ ((j ≢ line) × ((j < line) ⊎ (line < j))) → pending_at m' j ≡ cond (has_bytes j o n && nat_lt j (line + 1)) (pending_flushed (pending_at old j)) (pending_at old j)
    at j t (inl e) = ap (pending_at m') e ∙ c.here ∙ ap pending_flushed old_here ∙ sym (ap (λ d. cond d (pending_flushed (pending_at old line)) (pending_at old line)) (here_test o n line (omega (arith, f.first, le)) lt p)) ∙ ap (λ i. cond (has_bytes i o n && nat_lt i (line + 1)) (pending_flushed (pending_at old i)) (pending_at old i)) (sym e)
    at j (inl t) (inr x) = ap pending_by (c.others j x.0) ∙ f.pending j ∙ ap (λ d. cond d (pending_flushed (pending_at old j)) (pending_at old j)) t
    at j (inr t) (inr x) = ap pending_by (c.others j x.0 ∙ f.above j t.0) ∙ none_flushed (has_bytes j o n && nat_lt j (line + 1)) (queue_at old j) (sym (f.above j t.0) ∙ s.3 j t.0 (gap j t.1 x.0))
      where
        gap : (j : ℕ) → j ≤ line → j ≢ line → j < q.line
        gap j h ne = go (split j)
          where
            split : (j : ℕ) → (j ≡ line) ⊎ ((j < line) ⊎ (line < j))
            split j = grind arith

            go : (j ≡ line) ⊎ ((j < line) ⊎ (line < j)) → j < q.line
            go (inl e) = absurd (ne e)
            go (inr (inl l)) = omega (arith, ql, l)
            go (inr (inr l)) = absurd (omega (arith, h, l))

    found : (d : Bool) → b ≡ d → cond b true changed ≡ true → (j : ℕ) × (j < line + 1) × IsSome (queue_at old j) × (pending_at m' j ≢ pending_at old j)
    found true e g = (line, omega arith, subst IsSome (sym (ap (queue_at m) (sym ql) ∙ s.0) ∙ f.above line le) refl, λ z. differs e (z ∙ sym old_here))
    found false e g =
        let x = f.changes (sym (ap (λ d. cond d true changed) e) ∙ g) in
        (x.0, omega (arith, x.1, le), x.2, λ z. x.3 (sym (ap pending_by (same e x.0)) ∙ z))

    kept : (d : Bool) → b ≡ d → cond b true changed ≡ false → (j : ℕ) → queue_at m' j ≡ queue_at old j
    kept true e g = absurd (let h = ap (λ d. cond d true changed) e in let z : ⊥ = cc in z)
    kept false e g = λ j. same e j ∙ f.keeps (sym (ap (λ d. cond d true changed) e) ∙ g) j

-- The whole range is flushed if no line of the range from `next` on has a queue.
pub done : (o n next : ℕ) (changed : Bool) (old m : Queues) → 0 < n → Flushed o n next changed old m → ((j : ℕ) → next ≤ j → j < (o + n - 1) / 64 + 1 → queue_at m j ≡ None) → FlushesLines o n old m
done o n next changed old m p f h = record {
  pending = λ j. at j (reach j);
  below = f.below;
  count = f.count;
}
  where
    reach : (j : ℕ) → ((has_bytes j o n && nat_lt j next) ≡ has_bytes j o n) ⊎ ((next ≤ j) × (j < (o + n - 1) / 64 + 1))
    reach j = grind (arith, nat_tests)

    at : (j : ℕ) → ((has_bytes j o n && nat_lt j next) ≡ has_bytes j o n) ⊎ ((next ≤ j) × (j < (o + n - 1) / 64 + 1)) → pending_at m j ≡ cond (has_bytes j o n) (pending_flushed (pending_at old j)) (pending_at old j)
    at j (inl t) = f.pending j ∙ ap (λ d. cond d (pending_flushed (pending_at old j)) (pending_at old j)) t
    at j (inr t) = ap pending_by (f.above j t.0) ∙ none_flushed (has_bytes j o n) (queue_at old j) (sym (f.above j t.0) ∙ h j t.0 t.1)
