-- A durable part of a store stays durable and does not change.
use Rattle.std.proofs.Common.{◌≡◌, ℕ, zero, suc, ◌+◌, ◌-◌, ◌<◌, Bool, true, false, cond, List, [], ◌∷◌, ◌++◌, length, Option, Some, None, option_map, slice_get, refl, sym, ap, ◌∙◌, subst, arith}
use Rattle.hip_tree.specs.declared.program.Program.{Program}
use Rattle.hip_lines.specs.Line.{Line, IsOrdered, AreOrdered, with_part, has_bytes, stored, fresh_lines}
use Rattle.hip_lines.specs.Laws.LineLaws.{slice_get-change_range, ordered-at}
use Rattle.hip_lines.specs.Laws.LooseLaws.{get-map, get-of_map}
use Rattle.hip_runs.specs.declared.input.Input.{Input}
use Rattle.hip_runs.specs.Laws.HistoryLaws.{has_history, lines_ordered}
use Rattle.hip_runs.specs.StoredParts.After.{flushed_by}
use Rattle.hip_runs.specs.StoredParts.Persistence.{earlier, noted_flush, noted_fence, flush_line, fence_line, fenced_lines}
use Rattle.hip_runs.specs.StoredParts.Since.{IsDurableIn, IsDurableAt}
use Rattle.hip_runs.specs.Laws.SinceLaws.{get_mapped}
use Rattle.hip_runs.specs.State.{Flush, StorePart, State}
use Rattle.hip_runs.specs.Step.{run}
use Rattle.hip_runs.specs.Laws.StepLaws.{Cases, step-cases, ordered-flushed_by}

get_front : {A : Type 0} (xs : List A) (y x : A) (k : ℕ) → slice_get (xs ++ y ∷ []) k ≡ Some x → k < length xs
    → slice_get xs k ≡ Some x
get_front [] y x k e lt = absurd (omega arith)
get_front (z ∷ xs) y x zero e lt = e
get_front (z ∷ xs) y x (suc k) e lt = get_front xs y x k e (omega arith)

get_longer : {A : Type 0} (xs ys : List A) (x : A) (k : ℕ) → slice_get xs k ≡ Some x
    → slice_get (xs ++ ys) k ≡ Some x
get_longer [] ys x k e = absurd (let z : ⊥ = cc in z)
get_longer (z ∷ xs) ys x zero e = e
get_longer (z ∷ xs) ys x (suc k) e = get_longer xs ys x k e

-- ---- durable parts were fenced

fence_met : (ls : List (Line StorePart)) (m k : ℕ) (x : StorePart) → IsDurableIn (slice_get (fenced_lines ls) m) k x
    → x.fenced ≡ true
fence_met ls m k x d = go (slice_get ls m) (subst (λ o. IsDurableIn o k x) (get_mapped fence_line ls m) d)
  where
    go : (o : Option (Line StorePart)) → IsDurableIn (option_map fence_line o) k x → x.fenced ≡ true
    go None h = absurd h
    go (Some l) h = sym (ap (λ (y : StorePart). y.fenced) (get-of_map noted_fence l.parts k x h.0).2)

-- For each durable part, a fence came after its store.
abbrev AreFenced : List (Line StorePart) → Type 0
AreFenced ls = (m k : ℕ) (x : StorePart) → IsDurableIn (slice_get ls m) k x → x.fenced ≡ true

flush_kept : (I : Input) (flush : Flush) (a n : ℕ) (ls : List (Line StorePart)) → AreFenced ls
    → AreFenced (flushed_by I flush a n ls)
flush_kept I flush a n ls h m k x d =
    go (has_bytes m (a - I.base) n) (slice_get ls m) (λ y. h m k y)
    (subst (λ o. IsDurableIn o k x) (slice_get-change_range (λ _ l. flush_line flush l) (a - I.base) n ls m) d)
  where
    go : (b : Bool) (o : Option (Line StorePart)) → ((y : StorePart) → IsDurableIn o k y → y.fenced ≡ true)
        → IsDurableIn (option_map (λ l. cond b (flush_line flush l) l) o) k x → x.fenced ≡ true
    go b None h d = absurd d
    go true (Some l) h d =
        let r = get-of_map (noted_flush flush) l.parts k x d.0 in sym (ap (λ (y : StorePart). y.fenced) r.2)
        ∙ h r.0 (r.1, d.1)
    go false (Some l) h d = h x d

store_kept : (part : ℕ → StorePart) (o n : ℕ) (ls : List (Line StorePart)) → AreOrdered ls → AreFenced ls
    → AreFenced (stored part o n ls)
store_kept part o n ls a h m k x d =
    go (has_bytes m o n) (slice_get ls m) (λ l e. ordered-at ls m l a e) (h m k x)
    (subst (λ o. IsDurableIn o k x) (slice_get-change_range (λ j l. with_part (part j) l) o n ls m) d)
  where
    go : (b : Bool) (o : Option (Line StorePart)) → ((l : Line StorePart) → o ≡ Some l → IsOrdered l)
        → (IsDurableIn o k x → x.fenced ≡ true)
        → IsDurableIn (option_map (λ l. cond b (with_part (part m) l) l) o) k x
        → x.fenced ≡ true
    go b None a h d = absurd d
    go true (Some l) a h d =
        let r = a l refl in h (get_front l.parts (part m) x k d.0 (omega (arith, d.1, r.durable, r.flushed)), d.1)
    go false (Some l) a h d = h d

fenced_cases : (I : Input) (s : State) → AreOrdered s.lines → AreFenced s.lines
    → Cases I s (λ e ls. AreFenced ls)
fenced_cases I s a h = record {
  plain = λ e p. h;
  store = λ f fs t addr bytes e w. store_kept _ (addr - I.base) (length bytes) s.lines a h;
  flush = λ f fs t addr n e. flush_kept I _ addr n s.lines h;
  persist = λ f fs t addr n e. fence_met _;
  fence = fence_met s.lines;
}

fresh_fenced : (n : ℕ) → AreFenced (fresh_lines {P = StorePart} n)
unfolding fresh_lines
fresh_fenced zero m k x d = absurd d
fresh_fenced (suc n) zero k x d = absurd (omega (arith, d.1))
fresh_fenced (suc n) (suc m) k x d = fresh_fenced n m k x d

run_fenced : (P : Program) (I : Input) (n : ℕ) → AreFenced (run P I n).lines
unfolding run
run_fenced P I zero = fresh_fenced _
run_fenced P I (suc n) =
    step-cases P I (run P I n) (λ e ls. AreFenced ls)
    (fenced_cases I (run P I n) (lines_ordered P I n) (run_fenced P I n))

-- ---- and they stay

-- A part that was flushed, and after whose store a fence came. Later flushes and fences do not change it.
record IsSettled (x : StorePart) : Type 0 where
  flush : Flush
  flushed : x.first_flush ≡ Some flush
  fenced : x.fenced ≡ true

flush_same : (flush : Flush) (x : StorePart) → IsSettled x → noted_flush flush x ≡ x
flush_same flush x s =
    ap (λ (o : Option Flush). record x { first_flush = o }) (ap (λ o. earlier o flush) s.flushed ∙ sym s.flushed)

fence_same : (x : StorePart) → IsSettled x → noted_fence x ≡ x
fence_same x s = ap (λ (b : Bool). record x { fenced = b }) (sym s.fenced)

module _ (m k : ℕ) (x : StorePart) where
  -- If the part is durable at its place in the first lines, it is durable at that place in the second lines.
  abbrev Stays : List (Line StorePart) → List (Line StorePart) → Type 0
  Stays ls ls' = IsDurableIn (slice_get ls m) k x → IsDurableIn (slice_get ls' m) k x

  stays_flushed : (I : Input) (flush : Flush) (a n : ℕ) (ls : List (Line StorePart)) → IsSettled x
      → Stays ls (flushed_by I flush a n ls)
  stays_flushed I flush a n ls s d =
      subst (λ o. IsDurableIn o k x) (sym (slice_get-change_range (λ _ l. flush_line flush l) (a - I.base) n ls m))
      (go (has_bytes m (a - I.base) n) (slice_get ls m) d)
    where
      go : (b : Bool) (o : Option (Line StorePart)) → IsDurableIn o k x
          → IsDurableIn (option_map (λ l. cond b (flush_line flush l) l) o) k x
      go b None d = absurd d
      go true (Some l) d = (get-map (noted_flush flush) l.parts k x d.0 ∙ ap Some (flush_same flush x s), d.1)
      go false (Some l) d = d

  stays_fenced : (ls : List (Line StorePart)) → AreOrdered ls → IsSettled x → Stays ls (fenced_lines ls)
  stays_fenced ls a s d =
      subst (λ o. IsDurableIn o k x) (sym (get_mapped fence_line ls m))
      (go (slice_get ls m) (λ l e. ordered-at ls m l a e) d)
    where
      go : (o : Option (Line StorePart)) → ((l : Line StorePart) → o ≡ Some l → IsOrdered l)
          → IsDurableIn o k x
          → IsDurableIn (option_map fence_line o) k x
      go None a d = absurd d
      go (Some l) a d =
          (get-map noted_fence l.parts k x d.0 ∙ ap Some (fence_same x s), omega (arith, d.1, (a l refl).durable))

  stays_stored : (part : ℕ → StorePart) (o n : ℕ) (ls : List (Line StorePart)) → Stays ls (stored part o n ls)
  stays_stored part o n ls d =
      subst (λ z. IsDurableIn z k x) (sym (slice_get-change_range (λ j l. with_part (part j) l) o n ls m))
      (go (has_bytes m o n) (slice_get ls m) d)
    where
      go : (b : Bool) (z : Option (Line StorePart)) → IsDurableIn z k x
          → IsDurableIn (option_map (λ l. cond b (with_part (part m) l) l) z) k x
      go b None d = absurd d
      go true (Some l) d = (get_longer l.parts (part m ∷ []) x k d.0, d.1)
      go false (Some l) d = d

  stays_cases : (I : Input) (s : State) → AreOrdered s.lines → IsSettled x → Cases I s (λ e ls. Stays s.lines ls)
  stays_cases I s a h = record {
    plain = λ e p d. d;
    store = λ f fs t addr bytes e w. stays_stored _ (addr - I.base) (length bytes) s.lines;
    flush = λ f fs t addr n e. stays_flushed I _ addr n s.lines h;
    persist =
        λ f fs t addr n e d. stays_fenced _ (ordered-flushed_by I _ addr n s.lines a) h
        (stays_flushed I _ addr n s.lines h d);
    fence = stays_fenced s.lines a h;
  }

  -- A durable part was flushed, and a fence came after its store.
  settled : (P : Program) (I : Input) (n : ℕ) → IsDurableAt (run P I n) m k x → IsSettled x
  settled P I n d = go (slice_get (run P I n).lines m) refl d
    where
      go : (o : Option (Line StorePart)) → slice_get (run P I n).lines m ≡ o → IsDurableIn o k x → IsSettled x
      go None e h = absurd h
      go (Some l) e h =
          let a = ordered-at (run P I n).lines m l (lines_ordered P I n) e in
          let f = (has_history P I n).flushed m k l x e h.0 (omega (arith, h.1, a.durable)) in
          record { flush = f.0; flushed = f.1; fenced = run_fenced P I n m k x d }

  next : (P : Program) (I : Input) (n : ℕ) → IsDurableAt (run P I n) m k x → IsDurableAt (run P I (suc n)) m k x
  unfolding run
  next P I n d =
      step-cases P I (run P I n) (λ e ls. Stays (run P I n).lines ls)
      (stays_cases I (run P I n) (lines_ordered P I n) (settled P I n d)) d

pub durable_stays : (P : Program) (I : Input) (n d m k : ℕ) (x : StorePart) → IsDurableAt (run P I n) m k x
    → IsDurableAt (run P I (n + d)) m k x
durable_stays P I n zero m k x h = let e : n ≡ n + zero = omega arith in
    subst (λ i. IsDurableAt (run P I i) m k x) e h
durable_stays P I n (suc d) m k x h =
    let e : suc (n + d) ≡ n + suc d = omega arith in
    subst (λ i. IsDurableAt (run P I i) m k x) e (next m k x P I (n + d) (durable_stays P I n d m k x h))
