-- What the plan's flushes and fences keep: which of the program's parts of stores are flushed and durable in the
-- repaired program's run.
use Rattle.std.proofs.Common.{◌≡◌, ◌⊎◌, inl, inr, ℕ, zero, suc, ◌+◌, ◌-◌, ◌<◌, ◌≤◌, Bool, true, false, cond, List, [], ◌∷◌, ◌++◌, map, length, Option, Some, None, refl, sym, ap, ◌∙◌, subst, arith, length-append}
use Rattle.std.proofs.lemmas.List.{length-map}
use Rattle.hip_tree.specs.Sites.{has_site}
use Rattle.hip_tree.specs.declared.site.Site.{Site}
use Rattle.hip_lines.specs.Line.{Line, with_part, has_bytes, change_from, change_range, fresh_lines}
use Rattle.hip_runs.specs.declared.input.Input.{Input}
use Rattle.hip_runs.specs.StoredParts.Parts.{In}
use Rattle.hip_runs.specs.StoredParts.Persistence.{earlier, noted_flush, noted_fence, flush_line, fence_line, flushes_lines, flushed_lines, fenced_lines}
use Rattle.hip_runs.specs.State.{Level, Flush, StorePart}
use Rattle.hip_repairs.specs.declared.plan.Plan.{Plan}
use Rattle.hip_repairs.proofs.simulation.Facts.{Lines, fence_if}

-- What holds of the part x of the program at place k, where the repaired program's line has these numbers of durable
-- and of flushed parts: by the calls that the plan adds, and by the first flushes that are known.
pub record Safe (plan : Plan) (up : List Level) (F : Flush → Type 0) (durable flushed k : ℕ) (x : StorePart) : Type 0 where
  pub known : (f : Flush) → x.first_flush ≡ Some f → k < flushed
  pub flushes : has_site plan.flush_after x.site ≡ true → k < flushed
  pub both : has_site plan.flush_after x.site ≡ true → has_site plan.fence_after x.site ≡ true → k < durable
  pub fenced : has_site plan.flush_after x.site ≡ true → x.fenced ≡ true → k < durable
  -- A planned fence after a flush makes all durable that were flushed.
  pub fences : (f h : Flush) → x.first_flush ≡ Some f → F h → f.step ≤ h.step → has_site plan.fence_after h.site ≡ true → k < durable
  pub under : (v : Level) → In v x.levels → has_site plan.hoist v.call ≡ true → k < flushed
  pub closed : (v : Level) → In v x.levels → has_site plan.hoist v.call ≡ true → (k < durable) ⊎ In v up

abbrev pub AllSafe : Plan → List Level → (Flush → Type 0) → ℕ → ℕ → ℕ → List StorePart → Type 0
AllSafe plan up F g p k [] = Unit {0}
AllSafe plan up F g p k (x ∷ xs) = Safe plan up F g p k x × AllSafe plan up F g p (suc k) xs

further : {A : Type 0} {k g g' : ℕ} → g ≤ g' → (k < g) ⊎ A → (k < g') ⊎ A
further h (inl e) = inl (omega arith)
further h (inr a) = inr a

module _ (plan : Plan) (up : List Level) where
  safe_more : (F F' : Flush → Type 0) → ((h : Flush) → F' h → F h) → (g p g' p' k : ℕ) (xs : List StorePart) → g ≤ g' → p ≤ p' → AllSafe plan up F g p k xs → AllSafe plan up F' g' p' k xs
  safe_more F F' less g p g' p' k [] hg hp a = tt
  safe_more F F' less g p g' p' k (x ∷ xs) hg hp a = (
    record {
      known = λ f e. omega (arith, a.0.known f e);
      flushes = λ e. omega (arith, a.0.flushes e);
      both = λ e f. omega (arith, a.0.both e f);
      fenced = λ e f. omega (arith, a.0.fenced e f);
      fences = λ f h e i le q. omega (arith, a.0.fences f h e (less h i) le q);
      under = λ v i h. omega (arith, a.0.under v i h);
      closed = λ v i h. further hg (a.0.closed v i h);
    },
    safe_more F F' less g p g' p' (suc k) xs hg hp a.1,
  )

  safe_append : (F : Flush → Type 0) (g p k : ℕ) (xs : List StorePart) (x : StorePart) → AllSafe plan up F g p k xs → Safe plan up F g p (k + length xs) x → AllSafe plan up F g p k (xs ++ x ∷ [])
  safe_append F g p k [] x a s = let e : k + 0 ≡ k = omega arith in (subst (λ j. Safe plan up F g p j x) e s, tt)
  safe_append F g p k (y ∷ xs) x a s = let e : k + suc (length xs) ≡ suc k + length xs = omega arith in (a.0, safe_append F g p (suc k) xs x a.1 (subst (λ j. Safe plan up F g p j x) e s))

  -- A flush of the line.
  module _ (F F' : Flush → Type 0) (flush : Flush) (more : (h : Flush) → F' h → (h ≡ flush) ⊎ F h) (timed : (h : Flush) → F h → h.step < flush.step) where
    -- A planned fence after a known flush, which is this one or an earlier one.
    fences_now : (k g : ℕ) (o : Option Flush) (f h : Flush) → earlier o flush ≡ Some f → f.step ≤ h.step → has_site plan.fence_after h.site ≡ true → (h ≡ flush) ⊎ F h → (has_site plan.fence_after flush.site ≡ true → k < g) → ((f h : Flush) → o ≡ Some f → F h → f.step ≤ h.step → has_site plan.fence_after h.site ≡ true → k < g) → k < g
    fences_now k g o f h e le q (inl same) now old = now (subst (λ (x : Flush). has_site plan.fence_after x.site ≡ true) same q)
    fences_now k g None f h e le q (inr i) now old = let same : f ≡ flush = cc in let t = timed h i in let le' : flush.step ≤ h.step = subst (λ (x : Flush). x.step ≤ h.step) same le in absurd (omega arith)
    fences_now k g (Some f0) f h e le q (inr i) now old = let same : Some f0 ≡ Some f = e in old f h same i le q

    safe_flush : (g p g' p' k : ℕ) (xs : List StorePart) → g ≤ g' → k + length xs ≤ p' → (has_site plan.fence_after flush.site ≡ true → k + length xs ≤ g') → AllSafe plan up F g p k xs → AllSafe plan up F' g' p' k (map (noted_flush flush) xs)
    safe_flush g p g' p' k [] hg hp hs a = tt
    safe_flush g p g' p' k (x ∷ xs) hg hp hs a = (
      record {
        known = λ f e. omega arith;
        flushes = λ e. omega arith;
        both = λ e f. omega (arith, a.0.both e f);
        fenced = λ e f. omega (arith, a.0.fenced e f);
        fences = λ f h e i le q. fences_now k g' x.first_flush f h e le q (more h i) (λ z. omega (arith, hs z)) (λ f2 h2 e2 i2 le2 q2. omega (arith, a.0.fences f2 h2 e2 i2 le2 q2));
        under = λ v i h. omega arith;
        closed = λ v i h. further hg (a.0.closed v i h);
      },
      safe_flush g p g' p' (suc k) xs hg (omega arith) (λ h. omega (arith, hs h)) a.1,
    )

    -- A line that the flush leaves as it is, which the planned fence makes durable as far as it is flushed.
    safe_beside : (g p g' k : ℕ) (xs : List StorePart) → g ≤ g' → (has_site plan.fence_after flush.site ≡ true → p ≤ g') → AllSafe plan up F g p k xs → AllSafe plan up F' g' p k xs
    safe_beside g p g' k [] hg hs a = tt
    safe_beside g p g' k (x ∷ xs) hg hs a = (
      record {
        known = a.0.known;
        flushes = a.0.flushes;
        both = λ e f. omega (arith, a.0.both e f);
        fenced = λ e f. omega (arith, a.0.fenced e f);
        fences = λ f h e i le q. fences_beside f h e le q (more h i);
        under = a.0.under;
        closed = λ v i h. further hg (a.0.closed v i h);
      },
      safe_beside g p g' (suc k) xs hg hs a.1,
    )
      where
        fences_beside : (f h : Flush) → x.first_flush ≡ Some f → f.step ≤ h.step → has_site plan.fence_after h.site ≡ true → (h ≡ flush) ⊎ F h → k < g'
        fences_beside f h e le q (inl same) = let z = hs (subst (λ (y : Flush). has_site plan.fence_after y.site ≡ true) same q) in let y = a.0.known f e in omega arith
        fences_beside f h e le q (inr i) = omega (arith, a.0.fences f h e i le q)

  -- A fence of the line.
  safe_fence : (F F' : Flush → Type 0) → (g p g' k : ℕ) (xs : List StorePart) → g ≤ g' → p ≤ g' → AllSafe plan up F g p k xs → AllSafe plan up F' g' p k (map noted_fence xs)
  safe_fence F F' g p g' k [] hg hp a = tt
  safe_fence F F' g p g' k (x ∷ xs) hg hp a = (
    record {
      known = a.0.known;
      flushes = a.0.flushes;
      both = λ e f. omega (arith, a.0.both e f);
      fenced = λ e f. omega (arith, a.0.flushes e);
      fences = λ f h e i le q. omega (arith, a.0.known f e);
      under = a.0.under;
      closed = λ v i h. further hg (a.0.closed v i h);
    },
    safe_fence F F' g p g' (suc k) xs hg hp a.1,
  )

  -- A flush of the line with a fence after it: all is durable.
  safe_persist : (F F' : Flush → Type 0) (flush : Flush) (g p g' p' k : ℕ) (xs : List StorePart) → g ≤ g' → k + length xs ≤ p' → k + length xs ≤ g' → AllSafe plan up F g p k xs → AllSafe plan up F' g' p' k (map noted_fence (map (noted_flush flush) xs))
  safe_persist F F' flush g p g' p' k [] hg hp hs a = tt
  safe_persist F F' flush g p g' p' k (x ∷ xs) hg hp hs a = (
    record {
      known = λ f e. omega arith;
      flushes = λ e. omega arith;
      both = λ e f. omega arith;
      fenced = λ e f. omega arith;
      fences = λ f h e i le q. omega arith;
      under = λ v i h. omega arith;
      closed = λ v i h. inl (omega arith);
    },
    safe_persist F F' flush g p g' p' (suc k) xs hg (omega arith) (omega arith) a.1,
  )

-- ---- a line, and the line across

pub record Kept (plan : Plan) (up : List Level) (F : Flush → Type 0) (l l' : Line StorePart) : Type 0 where
  pub safe : AllSafe plan up F l'.durable l'.flushed 0 l.parts
  pub size : length l'.parts ≡ length l.parts
  pub order : l'.durable ≤ l'.flushed
  pub within : l'.flushed ≤ length l'.parts

abbrev pub AllKept : Plan → List Level → (Flush → Type 0) → Lines → Lines → Type 0
AllKept plan up F [] [] = Unit {0}
AllKept plan up F (l ∷ ls) (l' ∷ ls') = Kept plan up F l l' × AllKept plan up F ls ls'
AllKept plan up F [] (l' ∷ ls') = ⊥
AllKept plan up F (l ∷ ls) [] = ⊥

length-flushed : (flush : Flush) (l : Line StorePart) → length (flush_line flush l).parts ≡ length l.parts
length-flushed flush l = length-map l.parts (noted_flush flush)

length-fenced : (l : Line StorePart) → length (fence_line l).parts ≡ length l.parts
length-fenced l = length-map l.parts noted_fence

abbrev fence_one : Bool → Line StorePart → Line StorePart
fence_one b l = cond b (fence_line l) l

abbrev flush_one : Bool → Flush → Line StorePart → Line StorePart
flush_one b flush l = cond b (flush_line flush l) l

module _ (plan : Plan) (up : List Level) where
  pub kept_less : (F F' : Flush → Type 0) → ((h : Flush) → F' h → F h) → (ls ls' : Lines) → AllKept plan up F ls ls' → AllKept plan up F' ls ls'
  kept_less F F' less [] [] a = a
  kept_less F F' less (l ∷ ls) (l' ∷ ls') a = (record { safe = safe_more plan up F F' less l'.durable l'.flushed l'.durable l'.flushed 0 l.parts (omega arith) (omega arith) a.0.safe; size = a.0.size; order = a.0.order; within = a.0.within }, kept_less F F' less ls ls' a.1)
  kept_less F F' less [] (l' ∷ ls') a = absurd a
  kept_less F F' less (l ∷ ls) [] a = absurd a

  -- ---- the repaired program's alone

  more_fence_one : (F : Flush → Type 0) (l l' : Line StorePart) → Kept plan up F l l' → Kept plan up F l (fence_line l')
  more_fence_one F l l' a = record {
    safe = safe_more plan up F F (λ _ z. z) l'.durable l'.flushed l'.flushed l'.flushed 0 l.parts a.order (omega arith) a.safe;
    size = length-fenced l' ∙ a.size;
    order = omega arith;
    within = omega (arith, a.within, length-fenced l');
  }

  pub kept_more_fence : (F : Flush → Type 0) (ls ls' : Lines) → AllKept plan up F ls ls' → AllKept plan up F ls (fenced_lines ls')
  kept_more_fence F [] [] a = a
  kept_more_fence F (l ∷ ls) (l' ∷ ls') a = (more_fence_one F l l' a.0, kept_more_fence F ls ls' a.1)
  kept_more_fence F [] (l' ∷ ls') a = absurd a
  kept_more_fence F (l ∷ ls) [] a = absurd a

  more_flush_one : (F : Flush → Type 0) (flush' : Flush) (l l' : Line StorePart) → Kept plan up F l l' → Kept plan up F l (flush_line flush' l')
  more_flush_one F flush' l l' a = record {
    safe = safe_more plan up F F (λ _ z. z) l'.durable l'.flushed l'.durable (length (flush_line flush' l').parts) 0 l.parts (omega arith) (omega (arith, a.within, length-flushed flush' l')) a.safe;
    size = length-flushed flush' l' ∙ a.size;
    order = omega (arith, a.order, a.within, length-flushed flush' l');
    within = omega arith;
  }

  kept_more_flush_from : (F : Flush → Type 0) (flush' : Flush) (o n j : ℕ) (ls ls' : Lines) → AllKept plan up F ls ls' → AllKept plan up F ls (change_from (λ _ l. flush_line flush' l) o n j ls')
  kept_more_flush_from F flush' o n j [] [] a = a
  kept_more_flush_from F flush' o n j (l ∷ ls) (l' ∷ ls') a = (here (has_bytes j o n), kept_more_flush_from F flush' o n (suc j) ls ls' a.1)
    where
      here : (b : Bool) → Kept plan up F l (cond b (flush_line flush' l') l')
      here true = more_flush_one F flush' l l' a.0
      here false = a.0
  kept_more_flush_from F flush' o n j [] (l' ∷ ls') a = absurd a
  kept_more_flush_from F flush' o n j (l ∷ ls) [] a = absurd a

  pub kept_more_flush : (F : Flush → Type 0) (I : Input) (flush' : Flush) (a n : ℕ) (ls ls' : Lines) → AllKept plan up F ls ls' → AllKept plan up F ls (flushed_lines I flush' a n ls')
  kept_more_flush F I flush' a n ls ls' k = go (flushes_lines I a n)
    where
      go : (b : Bool) → AllKept plan up F ls (cond b (change_range (λ _ l. flush_line flush' l) (a - I.base) n ls') ls')
      go true = kept_more_flush_from F flush' (a - I.base) n 0 ls ls' k
      go false = k

  -- ---- a fence of both

  fence_both_one : (F F' : Flush → Type 0) → (l l' : Line StorePart) → Kept plan up F l l' → Kept plan up F' (fence_line l) (fence_line l')
  fence_both_one F F' l l' a = record {
    safe = safe_fence plan up F F' l'.durable l'.flushed l'.flushed 0 l.parts a.order (omega arith) a.safe;
    size = length-fenced l' ∙ a.size ∙ sym (length-fenced l);
    order = omega arith;
    within = omega (arith, a.within, length-fenced l');
  }

  pub kept_fence : (F F' : Flush → Type 0) → (ls ls' : Lines) → AllKept plan up F ls ls' → AllKept plan up F' (fenced_lines ls) (fenced_lines ls')
  kept_fence F F' [] [] a = a
  kept_fence F F' (l ∷ ls) (l' ∷ ls') a = (fence_both_one F F' l l' a.0, kept_fence F F' ls ls' a.1)
  kept_fence F F' [] (l' ∷ ls') a = absurd a
  kept_fence F F' (l ∷ ls) [] a = absurd a

  -- ---- a flush of both, and then the planned fence

  module _ (F F' : Flush → Type 0) (flush flush' : Flush) (more : (h : Flush) → F' h → (h ≡ flush) ⊎ F h) (timed : (h : Flush) → F h → h.step < flush.step) where
    flushed_one : (c : Bool) → (has_site plan.fence_after flush.site ≡ true → c ≡ true) → (l l' : Line StorePart) → Kept plan up F l l' → Kept plan up F' (flush_line flush l) (fence_one c (flush_line flush' l'))
    flushed_one true h l l' a = record {
      safe = safe_flush plan up F F' flush more timed l'.durable l'.flushed (length (flush_line flush' l').parts) (length (flush_line flush' l').parts) 0 l.parts (omega (arith, a.order, a.within, length-flushed flush' l')) (omega (arith, a.size, length-flushed flush' l')) (λ _. omega (arith, a.size, length-flushed flush' l')) a.safe;
      size = length-fenced (flush_line flush' l') ∙ length-flushed flush' l' ∙ a.size ∙ sym (length-flushed flush l);
      order = omega arith;
      within = omega (arith, length-fenced (flush_line flush' l'));
    }
    flushed_one false h l l' a = record {
      safe = safe_flush plan up F F' flush more timed l'.durable l'.flushed l'.durable (length (flush_line flush' l').parts) 0 l.parts (omega arith) (omega (arith, a.size, length-flushed flush' l')) (λ e. let q = h e in absurd (let r : ⊥ = cc in r)) a.safe;
      size = length-flushed flush' l' ∙ a.size ∙ sym (length-flushed flush l);
      order = omega (arith, a.order, a.within, length-flushed flush' l');
      within = omega arith;
    }

    beside_one : (c : Bool) → (has_site plan.fence_after flush.site ≡ true → c ≡ true) → (l l' : Line StorePart) → Kept plan up F l l' → Kept plan up F' l (fence_one c l')
    beside_one true h l l' a = record {
      safe = safe_beside plan up F F' flush more timed l'.durable l'.flushed l'.flushed 0 l.parts a.order (λ _. omega arith) a.safe;
      size = length-fenced l' ∙ a.size;
      order = omega arith;
      within = omega (arith, a.within, length-fenced l');
    }
    beside_one false h l l' a = record {
      safe = safe_beside plan up F F' flush more timed l'.durable l'.flushed l'.durable 0 l.parts (omega arith) (λ e. let q = h e in absurd (let r : ⊥ = cc in r)) a.safe;
      size = a.size;
      order = a.order;
      within = a.within;
    }

    flushed_or_beside : (b c : Bool) → (has_site plan.fence_after flush.site ≡ true → c ≡ true) → (l l' : Line StorePart) → Kept plan up F l l' → Kept plan up F' (cond b (flush_line flush l) l) (fence_one c (cond b (flush_line flush' l') l'))
    flushed_or_beside true c h l l' a = flushed_one c h l l' a
    flushed_or_beside false c h l l' a = beside_one c h l l' a

    kept_flush_from : (c : Bool) → (has_site plan.fence_after flush.site ≡ true → c ≡ true) → (o n j : ℕ) (ls ls' : Lines) → AllKept plan up F ls ls' → AllKept plan up F' (change_from (λ _ l. flush_line flush l) o n j ls) (fence_if c (change_from (λ _ l. flush_line flush' l) o n j ls'))
    kept_flush_from true h o n j [] [] a = a
    kept_flush_from false h o n j [] [] a = a
    kept_flush_from true h o n j (l ∷ ls) (l' ∷ ls') a = (flushed_or_beside (has_bytes j o n) true h l l' a.0, kept_flush_from true h o n (suc j) ls ls' a.1)
    kept_flush_from false h o n j (l ∷ ls) (l' ∷ ls') a = (flushed_or_beside (has_bytes j o n) false h l l' a.0, kept_flush_from false h o n (suc j) ls ls' a.1)
    kept_flush_from c h o n j [] (l' ∷ ls') a = absurd a
    kept_flush_from c h o n j (l ∷ ls) [] a = absurd a

    kept_beside : (c : Bool) → (has_site plan.fence_after flush.site ≡ true → c ≡ true) → (ls ls' : Lines) → AllKept plan up F ls ls' → AllKept plan up F' ls (fence_if c ls')
    kept_beside true h [] [] a = a
    kept_beside false h [] [] a = a
    kept_beside true h (l ∷ ls) (l' ∷ ls') a = (beside_one true h l l' a.0, kept_beside true h ls ls' a.1)
    kept_beside false h (l ∷ ls) (l' ∷ ls') a = (beside_one false h l l' a.0, kept_beside false h ls ls' a.1)
    kept_beside c h [] (l' ∷ ls') a = absurd a
    kept_beside c h (l ∷ ls) [] a = absurd a

    pub kept_flush : (I : Input) (a n : ℕ) (c : Bool) → (has_site plan.fence_after flush.site ≡ true → c ≡ true) → (ls ls' : Lines) → AllKept plan up F ls ls' → AllKept plan up F' (flushed_lines I flush a n ls) (fence_if c (flushed_lines I flush' a n ls'))
    kept_flush I a n c h ls ls' k = go (flushes_lines I a n)
      where
        go : (b : Bool) → AllKept plan up F' (cond b (change_range (λ _ l. flush_line flush l) (a - I.base) n ls) ls) (fence_if c (cond b (change_range (λ _ l. flush_line flush' l) (a - I.base) n ls') ls'))
        go true = kept_flush_from c h (a - I.base) n 0 ls ls' k
        go false = kept_beside c h ls ls' k

  -- ---- a flush with a fence of both

  persist_one : (F F' : Flush → Type 0) (flush flush' : Flush) (b : Bool) (l l' : Line StorePart) → Kept plan up F l l' → Kept plan up F' (fence_line (cond b (flush_line flush l) l)) (fence_line (cond b (flush_line flush' l') l'))
  persist_one F F' flush flush' true l l' a = record {
    safe = safe_persist plan up F F' flush l'.durable l'.flushed (length (flush_line flush' l').parts) (length (flush_line flush' l').parts) 0 l.parts (omega (arith, a.order, a.within, length-flushed flush' l')) (omega (arith, a.size, length-flushed flush' l')) (omega (arith, a.size, length-flushed flush' l')) a.safe;
    size = length-fenced (flush_line flush' l') ∙ length-flushed flush' l' ∙ a.size ∙ sym (length-fenced (flush_line flush l) ∙ length-flushed flush l);
    order = omega arith;
    within = omega (arith, length-fenced (flush_line flush' l'));
  }
  persist_one F F' flush flush' false l l' a = fence_both_one F F' l l' a

  kept_persist_from : (F F' : Flush → Type 0) (flush flush' : Flush) (o n j : ℕ) (ls ls' : Lines) → AllKept plan up F ls ls' → AllKept plan up F' (fenced_lines (change_from (λ _ l. flush_line flush l) o n j ls)) (fenced_lines (change_from (λ _ l. flush_line flush' l) o n j ls'))
  kept_persist_from F F' flush flush' o n j [] [] a = a
  kept_persist_from F F' flush flush' o n j (l ∷ ls) (l' ∷ ls') a = (persist_one F F' flush flush' (has_bytes j o n) l l' a.0, kept_persist_from F F' flush flush' o n (suc j) ls ls' a.1)
  kept_persist_from F F' flush flush' o n j [] (l' ∷ ls') a = absurd a
  kept_persist_from F F' flush flush' o n j (l ∷ ls) [] a = absurd a

  pub kept_persist : (F F' : Flush → Type 0) (I : Input) (flush flush' : Flush) (a n : ℕ) (ls ls' : Lines) → AllKept plan up F ls ls' → AllKept plan up F' (fenced_lines (flushed_lines I flush a n ls)) (fenced_lines (flushed_lines I flush' a n ls'))
  kept_persist F F' I flush flush' a n ls ls' k = go (flushes_lines I a n)
    where
      go : (b : Bool) → AllKept plan up F' (fenced_lines (cond b (change_range (λ _ l. flush_line flush l) (a - I.base) n ls) ls)) (fenced_lines (cond b (change_range (λ _ l. flush_line flush' l) (a - I.base) n ls') ls'))
      go true = kept_persist_from F F' flush flush' (a - I.base) n 0 ls ls' k
      go false = kept_fence F F' ls ls' k

  -- ---- a store of both, and then the inserted flush and fence

  -- What is inserted after a store at site s: perhaps a flush, perhaps a fence.
  pub record Wants (s : Site) (b c : Bool) : Type 0 where
    pub flush : has_site plan.flush_after s ≡ true → b ≡ true
    pub fence : has_site plan.fence_after s ≡ true → c ≡ true
    pub hoisted : (v : Level) → In v up → has_site plan.hoist v.call ≡ true → b ≡ true

  -- A part of a store that was just made.
  pub record IsNew (s : Site) (x : StorePart) : Type 0 where
    pub fresh : x.first_flush ≡ None
    pub unfenced : x.fenced ≡ false
    pub levels : x.levels ≡ up
    pub site : x.site ≡ s

  new_safe : (F : Flush → Type 0) (s : Site) (b c : Bool) (x : StorePart) → Wants s b c → IsNew s x → (g p k : ℕ) → (b ≡ true → k < p) → (b ≡ true → c ≡ true → k < g) → Safe plan up F g p k x
  new_safe F s b c x w i g p k flushed durable = record {
    known = λ f e. let n = i.fresh in absurd (let r : ⊥ = cc in r);
    flushes = λ e. flushed (w.flush (subst (λ (t : Site). has_site plan.flush_after t ≡ true) i.site e));
    both = λ e f. durable (w.flush (subst (λ (t : Site). has_site plan.flush_after t ≡ true) i.site e)) (w.fence (subst (λ (t : Site). has_site plan.fence_after t ≡ true) i.site f));
    fenced = λ e f. let n = i.unfenced in absurd (let r : ⊥ = cc in r);
    fences = λ f h e q le z. let n = i.fresh in absurd (let r : ⊥ = cc in r);
    under = λ v j h. flushed (w.hoisted v (subst (In v) i.levels j) h);
    closed = λ v j h. inr (subst (In v) i.levels j);
  }

  safe_with : (F : Flush → Type 0) (s : Site) (b c : Bool) (x : StorePart) → Wants s b c → IsNew s x → (l l' : Line StorePart) → Kept plan up F l l' → (g p : ℕ) → l'.durable ≤ g → l'.flushed ≤ p → (b ≡ true → length l.parts < p) → (b ≡ true → c ≡ true → length l.parts < g) → AllSafe plan up F g p 0 (l.parts ++ x ∷ [])
  safe_with F s b c x w i l l' a g p hg hp flushed durable =
      safe_append plan up F g p 0 l.parts x (safe_more plan up F F (λ _ z. z) l'.durable l'.flushed g p 0 l.parts hg hp a.safe)
      (let e : length l.parts ≡ 0 + length l.parts = omega arith in subst (λ (k : ℕ). Safe plan up F g p k x) e (new_safe F s b c x w i g p (length l.parts) flushed durable))

  grown : (x' : StorePart) (l' : Line StorePart) → length (with_part x' l').parts ≡ length l'.parts + 1
  grown x' l' = length-append l'.parts (x' ∷ [])

  sizes : (x : StorePart) (l l' : Line StorePart) → length l'.parts ≡ length l.parts → length l'.parts + 1 ≡ length (with_part x l).parts
  sizes x l l' e = ap (λ n. n + 1) e ∙ sym (length-append l.parts (x ∷ []))

  stored_one : (F : Flush → Type 0) (flush' : Flush) (s : Site) (b c : Bool) (x x' : StorePart) → Wants s b c → IsNew s x → (l l' : Line StorePart) → Kept plan up F l l' → Kept plan up F (with_part x l) (fence_one c (flush_one b flush' (with_part x' l')))
  stored_one F flush' s true true x x' w i l l' a =
      let z = length-flushed flush' (with_part x' l') in let y = grown x' l' in
      record {
        safe = safe_with F s true true x w i l l' a (length (flush_line flush' (with_part x' l')).parts) (length (flush_line flush' (with_part x' l')).parts) (omega (arith, z, y, a.order, a.within)) (omega (arith, z, y, a.within)) (λ _. omega (arith, z, y, a.size)) (λ _ _. omega (arith, z, y, a.size));
        size = length-fenced (flush_line flush' (with_part x' l')) ∙ z ∙ y ∙ sizes x l l' a.size;
        order = omega arith;
        within = omega (arith, length-fenced (flush_line flush' (with_part x' l')));
      }
  stored_one F flush' s true false x x' w i l l' a =
      let z = length-flushed flush' (with_part x' l') in let y = grown x' l' in
      record {
        safe = safe_with F s true false x w i l l' a l'.durable (length (flush_line flush' (with_part x' l')).parts) (omega arith) (omega (arith, z, y, a.within)) (λ _. omega (arith, z, y, a.size)) (λ _ q. absurd (let r : ⊥ = cc in r));
        size = z ∙ y ∙ sizes x l l' a.size;
        order = omega (arith, z, y, a.order, a.within);
        within = omega arith;
      }
  stored_one F flush' s false true x x' w i l l' a =
      let y = grown x' l' in
      record {
        safe = safe_with F s false true x w i l l' a l'.flushed l'.flushed a.order (omega arith) (λ q. absurd (let r : ⊥ = cc in r)) (λ q _. absurd (let r : ⊥ = cc in r));
        size = length-fenced (with_part x' l') ∙ y ∙ sizes x l l' a.size;
        order = omega arith;
        within = omega (arith, a.within, y, length-fenced (with_part x' l'));
      }
  stored_one F flush' s false false x x' w i l l' a =
      let y = grown x' l' in
      record {
        safe = safe_with F s false false x w i l l' a l'.durable l'.flushed (omega arith) (omega arith) (λ q. absurd (let r : ⊥ = cc in r)) (λ q _. absurd (let r : ⊥ = cc in r));
        size = y ∙ sizes x l l' a.size;
        order = a.order;
        within = omega (arith, a.within, y);
      }

  -- A line that neither the store nor the flush reaches.
  other_one : (F : Flush → Type 0) (c : Bool) (l l' : Line StorePart) → Kept plan up F l l' → Kept plan up F l (fence_one c l')
  other_one F true l l' a = more_fence_one F l l' a
  other_one F false l l' a = a

  module _ (F : Flush → Type 0) (flush' : Flush) (s : Site) (part part' : ℕ → StorePart) (new : (j : ℕ) → IsNew s (part j)) (o n len : ℕ) (same : (j : ℕ) → has_bytes j o n ≡ has_bytes j o len) where
    abbrev line_here : ℕ → Line StorePart → Line StorePart
    line_here j l' = cond (has_bytes j o len) (with_part (part' j) l') l'

    here_one : (b c : Bool) → Wants s b c → (j : ℕ) (l l' : Line StorePart) → Kept plan up F l l' → Kept plan up F (cond (has_bytes j o len) (with_part (part j) l) l) (fence_one c (cond b (cond (has_bytes j o n) (flush_line flush' (line_here j l')) (line_here j l')) (line_here j l')))
    here_one b c w j l l' a =
        subst (λ (y : Bool). Kept plan up F (cond (has_bytes j o len) (with_part (part j) l) l) (fence_one c (cond b (cond y (flush_line flush' (line_here j l')) (line_here j l')) (line_here j l')))) (sym (same j))
        (go (has_bytes j o len))
      where
        neither : (b2 : Bool) → Kept plan up F l (fence_one c (cond b2 l' l'))
        neither true = other_one F c l l' a
        neither false = other_one F c l l' a

        go : (r : Bool) → Kept plan up F (cond r (with_part (part j) l) l) (fence_one c (cond b (cond r (flush_line flush' (cond r (with_part (part' j) l') l')) (cond r (with_part (part' j) l') l')) (cond r (with_part (part' j) l') l')))
        go true = stored_one F flush' s b c (part j) (part' j) w (new j) l l' a
        go false = neither b

    pub kept_store_from : (b c : Bool) → Wants s b c → (j : ℕ) (ls ls' : Lines) → AllKept plan up F ls ls' →
        AllKept plan up F (change_from (λ j l. with_part (part j) l) o len j ls) (fence_if c (cond b (change_from (λ _ l. flush_line flush' l) o n j (change_from (λ j l. with_part (part' j) l) o len j ls')) (change_from (λ j l. with_part (part' j) l) o len j ls')))
    kept_store_from true true w j [] [] a = a
    kept_store_from true false w j [] [] a = a
    kept_store_from false true w j [] [] a = a
    kept_store_from false false w j [] [] a = a
    kept_store_from true true w j (l ∷ ls) (l' ∷ ls') a = (here_one true true w j l l' a.0, kept_store_from true true w (suc j) ls ls' a.1)
    kept_store_from true false w j (l ∷ ls) (l' ∷ ls') a = (here_one true false w j l l' a.0, kept_store_from true false w (suc j) ls ls' a.1)
    kept_store_from false true w j (l ∷ ls) (l' ∷ ls') a = (here_one false true w j l l' a.0, kept_store_from false true w (suc j) ls ls' a.1)
    kept_store_from false false w j (l ∷ ls) (l' ∷ ls') a = (here_one false false w j l l' a.0, kept_store_from false false w (suc j) ls ls' a.1)
    kept_store_from b c w j [] (l' ∷ ls') a = absurd a
    kept_store_from b c w j (l ∷ ls) [] a = absurd a

  -- ---- calls and returns

  call_safe : (F : Flush → Type 0) (v : Level) (g p k : ℕ) (xs : List StorePart) → AllSafe plan up F g p k xs → AllSafe plan (v ∷ up) F g p k xs
  call_safe F v g p k [] a = tt
  call_safe F v g p k (x ∷ xs) a = (record { known = a.0.known; flushes = a.0.flushes; both = a.0.both; fenced = a.0.fenced; fences = a.0.fences; under = a.0.under; closed = λ u i h. stands (a.0.closed u i h) }, call_safe F v g p (suc k) xs a.1)
    where
      stands : {A B C : Type 0} → A ⊎ B → A ⊎ (C ⊎ B)
      stands (inl e) = inl e
      stands (inr e) = inr (inr e)

  pub kept_call : (F : Flush → Type 0) (v : Level) (ls ls' : Lines) → AllKept plan up F ls ls' → AllKept plan (v ∷ up) F ls ls'
  kept_call F v [] [] a = a
  kept_call F v (l ∷ ls) (l' ∷ ls') a = (record { safe = call_safe F v l'.durable l'.flushed 0 l.parts a.0.safe; size = a.0.size; order = a.0.order; within = a.0.within }, kept_call F v ls ls' a.1)
  kept_call F v [] (l' ∷ ls') a = absurd a
  kept_call F v (l ∷ ls) [] a = absurd a

  return_safe : (F : Flush → Type 0) (v : Level) → ¬ (has_site plan.hoist v.call ≡ true) → (g p k : ℕ) (xs : List StorePart) → AllSafe plan (v ∷ up) F g p k xs → AllSafe plan up F g p k xs
  return_safe F v never g p k [] a = tt
  return_safe F v never g p k (x ∷ xs) a = (record { known = a.0.known; flushes = a.0.flushes; both = a.0.both; fenced = a.0.fenced; fences = a.0.fences; under = a.0.under; closed = λ u i h. stands u h (a.0.closed u i h) }, return_safe F v never g p (suc k) xs a.1)
    where
      stands : (u : Level) → has_site plan.hoist u.call ≡ true → (k < g) ⊎ ((u ≡ v) ⊎ In u up) → (k < g) ⊎ In u up
      stands u h (inl e) = inl e
      stands u h (inr (inl e)) = absurd (never (subst (λ (y : Level). has_site plan.hoist y.call ≡ true) e h))
      stands u h (inr (inr e)) = inr e

  pub kept_return : (F : Flush → Type 0) (v : Level) → ¬ (has_site plan.hoist v.call ≡ true) → (ls ls' : Lines) → AllKept plan (v ∷ up) F ls ls' → AllKept plan up F ls ls'
  kept_return F v never [] [] a = a
  kept_return F v never (l ∷ ls) (l' ∷ ls') a = (record { safe = return_safe F v never l'.durable l'.flushed 0 l.parts a.0.safe; size = a.0.size; order = a.0.order; within = a.0.within }, kept_return F v never ls ls' a.1)
  kept_return F v never [] (l' ∷ ls') a = absurd a
  kept_return F v never (l ∷ ls) [] a = absurd a

  fenced_return_safe : (F : Flush → Type 0) (v : Level) (g p k : ℕ) (xs : List StorePart) → g ≤ p → AllSafe plan (v ∷ up) F g p k xs → AllSafe plan up F p p k xs
  fenced_return_safe F v g p k [] hg a = tt
  fenced_return_safe F v g p k (x ∷ xs) hg a = (
    record {
      known = a.0.known;
      flushes = a.0.flushes;
      both = λ e f. omega (arith, a.0.both e f);
      fenced = λ e f. omega (arith, a.0.fenced e f);
      fences = λ f h e i le q. omega (arith, a.0.fences f h e i le q);
      under = a.0.under;
      closed = λ u i h. inl (a.0.under u i h);
    },
    fenced_return_safe F v g p (suc k) xs hg a.1,
  )

  pub kept_fenced_return : (F : Flush → Type 0) (v : Level) (ls ls' : Lines) → AllKept plan (v ∷ up) F ls ls' → AllKept plan up F ls (fenced_lines ls')
  kept_fenced_return F v [] [] a = a
  kept_fenced_return F v (l ∷ ls) (l' ∷ ls') a = (record { safe = fenced_return_safe F v l'.durable l'.flushed 0 l.parts a.0.order a.0.safe; size = length-fenced l' ∙ a.0.size; order = omega arith; within = omega (arith, a.0.within, length-fenced l') }, kept_fenced_return F v ls ls' a.1)
  kept_fenced_return F v [] (l' ∷ ls') a = absurd a
  kept_fenced_return F v (l ∷ ls) [] a = absurd a

pub kept_start : (plan : Plan) (up : List Level) (F : Flush → Type 0) (n : ℕ) → AllKept plan up F (fresh_lines n) (fresh_lines n)
unfolding fresh_lines
kept_start plan up F zero = tt
kept_start plan up F (suc n) = (record { safe = tt; size = refl; order = omega arith; within = omega arith }, kept_start plan up F n)
