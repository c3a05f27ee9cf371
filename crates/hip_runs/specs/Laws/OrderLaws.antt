-- A part of a store is durable exactly if its cache line was flushed after it and a fence came after the flush.
use Rattle.std.proofs.Common.{◌≡◌, ◌⊎◌, inl, inr, ℕ, zero, suc, ◌-◌, ◌<◌, ◌≤◌, Bool, true, false, cond, List, [], ◌∷◌, ◌++◌, length, map, Option, Some, None, option_map, slice_get, refl, sym, ap, ◌∙◌, subst, arith}
use Rattle.hip_tree.specs.declared.program.Program.{Program}
use Rattle.hip_lines.specs.Line.{Line, IsOrdered, with_part, has_bytes, fresh_lines}
use Rattle.hip_lines.specs.Laws.LineLaws.{slice_get-change_range, ordered-at}
use Rattle.hip_lines.specs.Laws.LooseLaws.{get-of_map}
use Rattle.hip_runs.specs.declared.event.Event.{Event}
use Rattle.hip_runs.specs.declared.input.Input.{Input}
use Rattle.hip_runs.specs.Laws.HistoryLaws.{lines_ordered}
use Rattle.hip_runs.specs.StoredParts.Persistence.{part_of_store, noted_flush, noted_fence, flush_line, fence_line}
use Rattle.hip_runs.specs.StoredParts.Since.{fences, flushes, FlushedSince, IsFlushedThenFenced, IsPartIn, IsPartAt, IsDurableIn, IsDurableAt}
use Rattle.hip_runs.specs.Laws.SinceLaws.{below, get_mapped, line_met, plain_fences, plain_flushes}
use Rattle.hip_runs.specs.State.{Flush, StorePart, levels_of, site_of}
use Rattle.hip_runs.specs.Step.{event, run}
use Rattle.hip_runs.specs.Laws.StepLaws.{Cases, step-cases, counted-steps}

-- ---- one step more

module _ (P : Program) (I : Input) (n j from : ℕ) where
  -- The event of step n.
  abbrev Now : Event
  Now = event P I (run P I n)

  flushed_more : FlushedSince P I j from n → FlushedSince P I j from (suc n)
  flushed_more s = (s.0, s.1, omega (arith, s.2), s.3)

  flushed_before : flushes I.base j Now ≡ false → FlushedSince P I j from (suc n) → FlushedSince P I j from n
  flushed_before q s = go (below s.0 n s.2)
    where
      go : (s.0 < n) ⊎ (s.0 ≡ n) → FlushedSince P I j from n
      go (inl lt) = (s.0, s.1, lt, s.3)
      go (inr e) =
          absurd (let h : flushes I.base j Now ≡ true = subst
          (λ m. flushes I.base j (event P I (run P I m)) ≡ true) e s.3 in let b : false ≡ true =
          sym q ∙ h in let z : ⊥ = cc in z)

  both_more : IsFlushedThenFenced P I j from n → IsFlushedThenFenced P I j from (suc n)
  both_more s =
      record {
        flush = s.flush;
        fence = s.fence;
        after = s.after;
        ordered = s.ordered;
        before = omega (arith, s.before);
        flushed = s.flushed;
        fenced = s.fenced;
      }

  both_before : fences Now ≡ false → IsFlushedThenFenced P I j from (suc n) → IsFlushedThenFenced P I j from n
  both_before q s = go (below s.fence n s.before)
    where
      go : (s.fence < n) ⊎ (s.fence ≡ n) → IsFlushedThenFenced P I j from n
      go (inl lt) =
          record {
            flush = s.flush;
            fence = s.fence;
            after = s.after;
            ordered = s.ordered;
            before = lt;
            flushed = s.flushed;
            fenced = s.fenced;
          }
      go (inr e) =
          absurd (let h : fences Now ≡ true = subst (λ m. fences (event P I (run P I m)) ≡ true) e s.fenced in
          let b : false ≡ true = sym q ∙ h in let z : ⊥ = cc in z)

  -- A flush that a fence follows came before this step, unless this step flushes.
  flush_of_both : IsFlushedThenFenced P I j from (suc n) → FlushedSince P I j from (suc n)
  flush_of_both s = (s.flush, s.after, omega (arith, s.ordered, s.before), s.flushed)

  then_fenced : fences Now ≡ true → FlushedSince P I j from n → IsFlushedThenFenced P I j from (suc n)
  then_fenced q s =
      record {
        flush = s.0;
        fence = n;
        after = s.1;
        ordered = omega (arith, s.2);
        before = omega arith;
        flushed = s.3;
        fenced = q;
      }

-- What holds before step n of a part at place k of line j, whose store was step `from`: it is flushed exactly if the
-- line was flushed since, and durable exactly if a fence came after such a flush. The line has these numbers of flushed
-- and durable parts.
record IsSeen (P : Program) (I : Input) (n j from k flushed_ones durable_ones : ℕ) : Type 0 where
  made : from < n
  flushed : k < flushed_ones → FlushedSince P I j from n
  by_flush : FlushedSince P I j from n → k < flushed_ones
  durable : k < durable_ones → IsFlushedThenFenced P I j from n
  by_fence : IsFlushedThenFenced P I j from n → k < durable_ones

module _ (P : Program) (I : Input) (n j from k : ℕ) where
  -- The event of step n.
  abbrev Now_too : Event
  Now_too = event P I (run P I n)

  seen_same : (fl du : ℕ) → fences Now_too ≡ false → flushes I.base j Now_too ≡ false
      → IsSeen P I n j from k fl du
      → IsSeen P I (suc n) j from k fl du
  seen_same fl du q r h = record {
    made = omega (arith, h.made);
    flushed = λ lt. flushed_more P I n j from (h.flushed lt);
    by_flush = λ s. h.by_flush (flushed_before P I n j from r s);
    durable = λ lt. both_more P I n j from (h.durable lt);
    by_fence = λ s. h.by_fence (both_before P I n j from q s);
  }

  seen_flush : (fl du count : ℕ) → k < count → fences Now_too ≡ false → flushes I.base j Now_too ≡ true
      → IsSeen P I n j from k fl du → IsSeen P I (suc n) j from k count du
  seen_flush fl du count c q r h = record {
    made = omega (arith, h.made);
    flushed = λ lt. (n, h.made, omega arith, r);
    by_flush = λ s. c;
    durable = λ lt. both_more P I n j from (h.durable lt);
    by_fence = λ s. h.by_fence (both_before P I n j from q s);
  }

  seen_fence : (fl du : ℕ) → fences Now_too ≡ true → flushes I.base j Now_too ≡ false
      → IsSeen P I n j from k fl du
      → IsSeen P I (suc n) j from k fl fl
  seen_fence fl du q r h = record {
    made = omega (arith, h.made);
    flushed = λ lt. flushed_more P I n j from (h.flushed lt);
    by_flush = λ s. h.by_flush (flushed_before P I n j from r s);
    durable = λ lt. then_fenced P I n j from q (h.flushed lt);
    by_fence = λ s. h.by_flush (flushed_before P I n j from r (flush_of_both P I n j from s));
  }

  seen_persist : (fl du count : ℕ) → k < count → fences Now_too ≡ true → flushes I.base j Now_too ≡ true
      → IsSeen P I n j from k fl du → IsSeen P I (suc n) j from k count count
  seen_persist fl du count c q r h = record {
    made = omega (arith, h.made);
    flushed = λ lt. (n, h.made, omega arith, r);
    by_flush = λ s. c;
    durable =
        λ lt. record {
          flush = n;
          fence = n;
          after = h.made;
          ordered = omega arith;
          before = omega arith;
          flushed = r;
          fenced = q;
        };
    by_fence = λ s. c;
  }

  -- A part that this step stores.
  seen_new : (fl du : ℕ) → from ≡ n → fl ≤ k → du ≤ k → IsSeen P I (suc n) j from k fl du
  seen_new fl du e f d = record {
    made = omega (arith, e);
    flushed = λ lt. absurd (omega (arith, lt, f));
    by_flush = λ s. absurd (omega (arith, e, s.1, s.2));
    durable = λ lt. absurd (omega (arith, lt, d));
    by_fence = λ s. absurd (omega (arith, e, s.after, s.ordered, s.before));
  }

-- ---- the parts of a line

get_below : {A : Type 0} (xs : List A) (k : ℕ) (x : A) → slice_get xs k ≡ Some x → k < length xs
get_below [] k x e = absurd (let z : ⊥ = cc in z)
get_below (y ∷ xs) zero x e = omega arith
get_below (y ∷ xs) (suc k) x e = omega (arith, get_below xs k x e)

-- An item of a list after one more was added is the added one, or an item of the list before.
get_more : {A : Type 0} (xs : List A) (y x : A) (k : ℕ) → slice_get (xs ++ y ∷ []) k ≡ Some x
    → (slice_get xs k ≡ Some x) ⊎ ((k ≡ length xs) × (x ≡ y))
get_more [] y x zero e = inr (refl, let q : x ≡ y = cc in q)
get_more [] y x (suc k) e = absurd (let z : ⊥ = cc in z)
get_more (z ∷ xs) y x zero e = inl e
get_more (z ∷ xs) y x (suc k) e = go (get_more xs y x k e)
  where
    go : (slice_get xs k ≡ Some x) ⊎ ((k ≡ length xs) × (x ≡ y))
        → (slice_get xs k ≡ Some x) ⊎ ((suc k ≡ suc (length xs)) × (x ≡ y))
    go (inl h) = inl h
    go (inr h) = inr (ap suc h.0, h.1)

module _ (P : Program) (I : Input) (n j : ℕ) where
  -- Before step m, each part of the line is flushed and durable as the steps since its store say.
  abbrev InSeen : ℕ → Line StorePart → Type 0
  InSeen m l = (k : ℕ) (x : StorePart) → slice_get l.parts k ≡ Some x
      → IsSeen P I m j x.step k l.flushed l.durable

  -- The same for a line, if it is there.
  abbrev AllSeen : ℕ → Option (Line StorePart) → Type 0
  AllSeen m None = Unit {0}
  AllSeen m (Some l) = InSeen m l

  -- The event of step n.
  abbrev Now_there : Event
  Now_there = event P I (run P I n)

  line_same : fences Now_there ≡ false → flushes I.base j Now_there ≡ false → (l : Line StorePart)
      → InSeen n l
      → InSeen (suc n) l
  line_same q r l h k x e = seen_same P I n j x.step k l.flushed l.durable q r (h k x e)

  line_flush : (flush : Flush) → fences Now_there ≡ false → flushes I.base j Now_there ≡ true
      → (l : Line StorePart)
      → InSeen n l → InSeen (suc n) (flush_line flush l)
  line_flush flush q r l h k y e =
      let b = get-of_map (noted_flush flush) l.parts k y e in
      subst (λ (z : StorePart). IsSeen P I (suc n) j z.step k (length (map (noted_flush flush) l.parts)) l.durable) b.2
      (seen_flush P I n j b.0.step k l.flushed l.durable (length (map (noted_flush flush) l.parts))
      (get_below (map (noted_flush flush) l.parts) k y e) q r (h k b.0 b.1))

  line_fence : fences Now_there ≡ true → flushes I.base j Now_there ≡ false → (l : Line StorePart)
      → InSeen n l
      → InSeen (suc n) (fence_line l)
  line_fence q r l h k y e =
      let b = get-of_map noted_fence l.parts k y e in
      subst (λ (z : StorePart). IsSeen P I (suc n) j z.step k l.flushed l.flushed) b.2
      (seen_fence P I n j b.0.step k l.flushed l.durable q r (h k b.0 b.1))

  line_persist : (flush : Flush) → fences Now_there ≡ true → flushes I.base j Now_there ≡ true
      → (l : Line StorePart)
      → InSeen n l → InSeen (suc n) (fence_line (flush_line flush l))
  line_persist flush q r l h k z e =
      let c = get-of_map noted_fence (map (noted_flush flush) l.parts) k z e in
      let b = get-of_map (noted_flush flush) l.parts k c.0 c.1 in
      let count = length (map (noted_flush flush) l.parts) in
      subst (λ (y : StorePart). IsSeen P I (suc n) j y.step k count count) (ap noted_fence b.2 ∙ c.2)
      (seen_persist P I n j b.0.step k l.flushed l.durable count
      (get_below (map (noted_flush flush) l.parts) k c.0 c.1) q r (h k b.0 b.1))

  line_store : (part : StorePart) → part.step ≡ n → fences Now_there ≡ false
      → flushes I.base j Now_there ≡ false
      → (l : Line StorePart) → IsOrdered l → InSeen n l → InSeen (suc n) (with_part part l)
  line_store part at q r l o h k x e = go (get_more l.parts part x k e)
    where
      go : (slice_get l.parts k ≡ Some x) ⊎ ((k ≡ length l.parts) × (x ≡ part))
          → IsSeen P I (suc n) j x.step k l.flushed l.durable
      go (inl g) = line_same q r l h k x g
      go (inr g) =
          seen_new P I n j x.step k l.flushed l.durable (ap (λ (y : StorePart). y.step) g.1 ∙ at)
          (omega (arith, o.flushed, g.0)) (omega (arith, o.durable, o.flushed, g.0))

  all_same : fences Now_there ≡ false → flushes I.base j Now_there ≡ false → (o : Option (Line StorePart))
      → AllSeen n o
      → AllSeen (suc n) o
  all_same q r None h = h
  all_same q r (Some l) h = line_same q r l h

  all_flush : (flush : Flush) → fences Now_there ≡ false → (b : Bool) → flushes I.base j Now_there ≡ b
      → (o : Option (Line StorePart)) → AllSeen n o
      → AllSeen (suc n) (option_map (λ l. cond b (flush_line flush l) l) o)
  all_flush flush q b r None h = h
  all_flush flush q true r (Some l) h = line_flush flush q r l h
  all_flush flush q false r (Some l) h = line_same q r l h

  all_fence : fences Now_there ≡ true → flushes I.base j Now_there ≡ false → (o : Option (Line StorePart))
      → AllSeen n o
      → AllSeen (suc n) (option_map fence_line o)
  all_fence q r None h = h
  all_fence q r (Some l) h = line_fence q r l h

  all_persist : (flush : Flush) → fences Now_there ≡ true → (b : Bool) → flushes I.base j Now_there ≡ b
      → (o : Option (Line StorePart)) → AllSeen n o
      → AllSeen (suc n) (option_map fence_line (option_map (λ l. cond b (flush_line flush l) l) o))
  all_persist flush q b r None h = h
  all_persist flush q true r (Some l) h = line_persist flush q r l h
  all_persist flush q false r (Some l) h = line_fence q r l h

  all_store : (part : StorePart) → part.step ≡ n → fences Now_there ≡ false
      → flushes I.base j Now_there ≡ false
      → (b : Bool) (o : Option (Line StorePart)) → ((l : Line StorePart) → o ≡ Some l → IsOrdered l)
      → AllSeen n o
      → AllSeen (suc n) (option_map (λ l. cond b (with_part part l) l) o)
  all_store part at q r b None a h = h
  all_store part at q r true (Some l) a h = line_store part at q r l (a l refl) h
  all_store part at q r false (Some l) a h = line_same q r l h

-- ---- a step

module _ (P : Program) (I : Input) (n : ℕ) where
  -- The same holds for each of these lines.
  abbrev AreSeen : ℕ → List (Line StorePart) → Type 0
  AreSeen m ls = (j : ℕ) → AllSeen P I n j m (slice_get ls j)

  -- If step n has this event, the same holds for each of these lines after it.
  abbrev Next : Event → List (Line StorePart) → Type 0
  Next e ls = event P I (run P I n) ≡ e → AreSeen (suc n) ls

  seen_cases : AreSeen n (run P I n).lines → Cases I (run P I n) Next
  seen_cases seen = record {
    plain =
        λ e p q j. all_same P I n j (ap fences q ∙ plain_fences e p)
        (ap (flushes I.base j) q ∙ plain_flushes I.base j e p) (slice_get (run P I n).lines j) (seen j);
    store = λ f fs t a bytes e w q j.
        subst (AllSeen P I n j (suc n)) (sym (slice_get-change_range _ (a - I.base) (length bytes) (run P I n).lines j))
        (all_store P I n j (part_of_store (run P I n).counts (site_of f) (levels_of (f ∷ fs)) (a - I.base) bytes j)
        (counted-steps P I n t.going) (ap fences q) (ap (flushes I.base j) q)
        (has_bytes j (a - I.base) (length bytes)) (slice_get (run P I n).lines j)
        (λ l g. ordered-at (run P I n).lines j l (lines_ordered P I n) g) (seen j));
    flush = λ f fs t a m e q j.
        subst (AllSeen P I n j (suc n)) (sym (slice_get-change_range _ (a - I.base) m (run P I n).lines j))
        (all_flush P I n j _ (ap fences q) (has_bytes j (a - I.base) m) (ap (flushes I.base j) q ∙ line_met I a m j e)
        (slice_get (run P I n).lines j) (seen j));
    persist = λ f fs t a m e q j.
        subst (AllSeen P I n j (suc n)) (sym (get_mapped fence_line _ j
        ∙ ap (option_map fence_line) (slice_get-change_range _ (a - I.base) m (run P I n).lines j)))
        (all_persist P I n j _ (ap fences q) (has_bytes j (a - I.base) m)
        (ap (flushes I.base j) q ∙ line_met I a m j e)
        (slice_get (run P I n).lines j) (seen j));
    fence = λ q j.
        subst (AllSeen P I n j (suc n)) (sym (get_mapped fence_line (run P I n).lines j))
        (all_fence P I n j (ap fences q) (ap (flushes I.base j) q) (slice_get (run P I n).lines j) (seen j));
  }

  seen_next : AreSeen n (run P I n).lines → AreSeen (suc n) (run P I (suc n)).lines
  unfolding run
  seen_next seen = step-cases P I (run P I n) Next (seen_cases seen) refl

-- ---- a run

no_part : (count j k : ℕ) (x : StorePart) → IsPartIn (slice_get (fresh_lines {P = StorePart} count) j) k x → ⊥
unfolding fresh_lines
no_part zero j k x h = h
no_part (suc count) zero k x h = let z : ⊥ = cc in z
no_part (suc count) (suc j) k x h = no_part count j k x h

none_seen : (P : Program) (I : Input) (j : ℕ) (o : Option (Line StorePart))
    → ((k : ℕ) (x : StorePart) → IsPartIn o k x → ⊥) → AllSeen P I 0 j 0 o
none_seen P I j None h = tt
none_seen P I j (Some l) h = λ k x e. absurd (h k x e)

run_seen : (P : Program) (I : Input) (n j : ℕ) → AllSeen P I n j n (slice_get (run P I n).lines j)
unfolding run
run_seen P I zero j = none_seen P I j _ (λ k x h. no_part _ j k x h)
run_seen P I (suc n) j = seen_next P I n (run_seen P I n) j

part_seen : (P : Program) (I : Input) (n j k : ℕ) (x : StorePart) (l : Line StorePart)
    → slice_get (run P I n).lines j ≡ Some l → slice_get l.parts k ≡ Some x
    → IsSeen P I n j x.step k l.flushed l.durable
part_seen P I n j k x l e g =
    let all : AllSeen P I n j n (Some l) = subst (AllSeen P I n j n) e (run_seen P I n j) in all k x g

-- A durable part's line was flushed after the store, and a fence came after the flush.
pub durable_stated : (P : Program) (I : Input) (n j k : ℕ) (x : StorePart) → IsDurableAt (run P I n) j k x
    → IsFlushedThenFenced P I j x.step n
durable_stated P I n j k x d = go (slice_get (run P I n).lines j) refl d
  where
    go : (o : Option (Line StorePart)) → slice_get (run P I n).lines j ≡ o → IsDurableIn o k x
        → IsFlushedThenFenced P I j x.step n
    go None e h = absurd h
    go (Some l) e h = (part_seen P I n j k x l e h.0).durable h.1

pub stated_durable : (P : Program) (I : Input) (n j k : ℕ) (x : StorePart) → IsPartAt (run P I n) j k x
    → IsFlushedThenFenced P I j x.step n → IsDurableAt (run P I n) j k x
stated_durable P I n j k x p s = go (slice_get (run P I n).lines j) refl p
  where
    go : (o : Option (Line StorePart)) → slice_get (run P I n).lines j ≡ o → IsPartIn o k x → IsDurableIn o k x
    go None e h = h
    go (Some l) e h = (h, (part_seen P I n j k x l e h).by_fence s)
