-- Each part of a store of a clone is flushed, once the inserted instructions that come next are done.
use Rattle.std.proofs.Common.{◌≡◌, ℕ, zero, suc, ◌+◌, ◌-◌, ◌<◌, ◌≤◌, Bool, true, false, cond, not, ◌&&◌, ◌||◌, List, [], ◌∷◌, ◌++◌, map, length, refl, sym, subst, arith}
use Rattle.hip_tree.specs.Sites.{has_site}
use Rattle.hip_tree.specs.declared.program.Program.{Program}
use Rattle.hip_tree.specs.declared.site.Site.{Site}
use Rattle.hip_lines.specs.Line.{Line, with_part, has_bytes, change_from, change_range, stored, fresh_lines}
use Rattle.hip_runs.specs.declared.input.Input.{Input}
use Rattle.hip_runs.specs.StoredParts.Persistence.{part_of_store, noted_flush, noted_fence, flush_line, fence_line, flushes_lines, flushed_lines, fenced_lines}
use Rattle.hip_runs.specs.State.{Level, Flush, StorePart}
use Rattle.hip_repairs.specs.declared.plan.Plan.{Plan}
use Rattle.hip_repairs.specs.StayOutside.{StayOutside}
use Rattle.hip_repairs.proofs.simulation.Facts.{Lines, fence_if, flush_if, Keeps}

-- Of the parts from place k on, each part whose site is in a function with a number of at least N is at a place below
-- p.
abbrev pub AreFlushed : ℕ → ℕ → ℕ → List StorePart → Type 0
AreFlushed N p k [] = Unit {0}
AreFlushed N p k (x ∷ xs) = (N ≤ x.site.function → k < p) × AreFlushed N p (suc k) xs

pub record IsFlushed (N : ℕ) (l : Line StorePart) : Type 0 where
  pub parts : AreFlushed N l.flushed 0 l.parts

abbrev pub AllFlushed : ℕ → Lines → Type 0
AllFlushed N [] = Unit {0}
AllFlushed N (l ∷ ls) = IsFlushed N l × AllFlushed N ls

-- ---- a line

flushed_below : (N p k : ℕ) (xs : List StorePart) → k + length xs ≤ p → AreFlushed N p k xs
flushed_below N p k [] h = tt
flushed_below N p k (x ∷ xs) h = (λ _. omega arith, flushed_below N p (suc k) xs (omega arith))

flushed_fenced : (N p k : ℕ) (xs : List StorePart) → AreFlushed N p k xs → AreFlushed N p k (map noted_fence xs)
flushed_fenced N p k [] a = tt
flushed_fenced N p k (x ∷ xs) a = (a.0, flushed_fenced N p (suc k) xs a.1)

flushed_append : (N p k : ℕ) (xs : List StorePart) (x : StorePart) → x.site.function < N → AreFlushed N p k xs → AreFlushed N p k (xs ++ x ∷ [])
flushed_append N p k [] x h a = (λ q. absurd (omega arith), tt)
flushed_append N p k (y ∷ xs) x h a = (a.0, flushed_append N p (suc k) xs x h a.1)

line_flushed : (N : ℕ) (flush : Flush) (l : Line StorePart) → IsFlushed N (flush_line flush l)
line_flushed N flush l = record { parts = flushed_below N (length (map (noted_flush flush) l.parts)) 0 (map (noted_flush flush) l.parts) (omega arith) }

line_fenced : (N : ℕ) (l : Line StorePart) → IsFlushed N l → IsFlushed N (fence_line l)
line_fenced N l a = record { parts = flushed_fenced N l.flushed 0 l.parts a.parts }

line_stored : (N : ℕ) (x : StorePart) (l : Line StorePart) → x.site.function < N → IsFlushed N l → IsFlushed N (with_part x l)
line_stored N x l h a = record { parts = flushed_append N l.flushed 0 l.parts x h a.parts }

-- ---- lines

pub all_fenced : (N : ℕ) (ls : Lines) → AllFlushed N ls → AllFlushed N (fenced_lines ls)
all_fenced N [] a = a
all_fenced N (l ∷ ls) a = (line_fenced N l a.0, all_fenced N ls a.1)

all_change : (N : ℕ) (change : ℕ → Line StorePart → Line StorePart) → ((j : ℕ) (l : Line StorePart) → IsFlushed N l → IsFlushed N (change j l)) → (o n j : ℕ) (ls : Lines) → AllFlushed N ls → AllFlushed N (change_from change o n j ls)
all_change N change h o n j [] a = a
all_change N change h o n j (l ∷ ls) a = (here (has_bytes j o n), all_change N change h o n (suc j) ls a.1)
  where
    here : (b : Bool) → IsFlushed N (cond b (change j l) l)
    here true = h j l a.0
    here false = a.0

all_flushed : (N : ℕ) (I : Input) (flush : Flush) (a n : ℕ) (ls : Lines) → AllFlushed N ls → AllFlushed N (flushed_lines I flush a n ls)
all_flushed N I flush a n ls h = go (flushes_lines I a n)
  where
    go : (b : Bool) → AllFlushed N (cond b (change_range (λ _ l. flush_line flush l) (a - I.base) n ls) ls)
    go true = all_change N (λ _ l. flush_line flush l) (λ _ l _. line_flushed N flush l) (a - I.base) n 0 ls h
    go false = h

all_fence_if : (N : ℕ) (b : Bool) (ls : Lines) → AllFlushed N ls → AllFlushed N (fence_if b ls)
all_fence_if N true ls h = all_fenced N ls h
all_fence_if N false ls h = h

all_start : (N n : ℕ) → AllFlushed N (fresh_lines n)
unfolding fresh_lines
all_start N zero = tt
all_start N (suc n) = (record { parts = tt }, all_start N n)

-- ---- a store, and the flush that is inserted after it

module _ (N : ℕ) (flush : Flush) (part : ℕ → StorePart) (o n len : ℕ) (same : (j : ℕ) → has_bytes j o n ≡ has_bytes j o len) where
  abbrev with_store : ℕ → Line StorePart → Line StorePart
  with_store j l = cond (has_bytes j o len) (with_part (part j) l) l

  one_store : (j : ℕ) (l : Line StorePart) → IsFlushed N l → IsFlushed N (cond (has_bytes j o n) (flush_line flush (with_store j l)) (with_store j l))
  one_store j l a =
      subst (λ (r : Bool). IsFlushed N (cond r (flush_line flush (with_store j l)) (with_store j l))) (sym (same j))
      (go (has_bytes j o len))
    where
      go : (r : Bool) → IsFlushed N (cond r (flush_line flush (cond r (with_part (part j) l) l)) (cond r (with_part (part j) l) l))
      go true = line_flushed N flush (with_part (part j) l)
      go false = a

  store_flushed : (j : ℕ) (ls : Lines) → AllFlushed N ls → AllFlushed N (change_from (λ _ l. flush_line flush l) o n j (change_from (λ i l. with_part (part i) l) o len j ls))
  store_flushed j [] a = a
  store_flushed j (l ∷ ls) a = (one_store j l a.0, store_flushed (suc j) ls a.1)

module _ (P : Program) (plan : Plan) (skip : Site → Bool) (I : Input) where
  abbrev pub CloneFlushed : List Level → Lines → Lines → Type 0
  CloneFlushed up ls ls' = StayOutside P skip → AllFlushed (length P.functions) ls'

  -- A store after which no flush is inserted is not a store of a clone.
  no_clone : (planned clone skipped : Bool) → skipped ≡ false → planned || (clone && not skipped) ≡ false → clone ≡ false
  no_clone true clone skipped e h = absurd (let z : ⊥ = cc in z)
  no_clone false true true e h = absurd (let z : ⊥ = cc in z)
  no_clone false true false e h = absurd (let z : ⊥ = cc in z)
  no_clone false false skipped e h = refl

  store_kept : (N : ℕ) (part : ℕ → StorePart) (a len : ℕ) (flush : Flush) (n : ℕ) (ls : Lines) (b : Bool) → flushes_lines I a n ≡ true → ((j : ℕ) → has_bytes j (a - I.base) n ≡ has_bytes j (a - I.base) len) →
      (b ≡ false → (j : ℕ) → (part j).site.function < N) → AllFlushed N ls → AllFlushed N (flush_if b I flush a n (stored part (a - I.base) len ls))
  store_kept N part a len flush n ls true flushes same plain h =
      subst (λ (r : Bool). AllFlushed N (cond r (change_range (λ _ l. flush_line flush l) (a - I.base) n (stored part (a - I.base) len ls)) (stored part (a - I.base) len ls))) (sym flushes)
      (store_flushed N flush part (a - I.base) n len same 0 ls h)
  store_kept N part a len flush n ls false flushes same plain h = all_change N (λ j l. with_part (part j) l) (λ j l k. line_stored N (part j) l (plain refl j) k) (a - I.base) len 0 ls h

  pub clone_flushed : Keeps P plan skip I CloneFlushed
  clone_flushed = record {
    start = λ n q. all_start (length P.functions) n;
    fence = λ up ls ls' h q. all_fenced (length P.functions) ls' (h q);
    more_fence = λ up ls ls' h q. all_fenced (length P.functions) ls' (h q);
    more_flush = λ up ls ls' flush' a n h q. all_flushed (length P.functions) I flush' a n ls' (h q);
    flush = λ up ls ls' flush flush' a n c wanted timed h q. all_fence_if (length P.functions) c (flushed_lines I flush' a n ls') (all_flushed (length P.functions) I flush' a n ls' (h q));
    persist = λ up ls ls' flush flush' a n h q. all_fenced (length P.functions) (flushed_lines I flush' a n ls') (all_flushed (length P.functions) I flush' a n ls' (h q));
    store = λ up up' counts counts' s s' a bytes clone flush' n ls ls' region flushes same plain under quiet h q.
        all_fence_if (length P.functions) (has_site plan.fence_after s || has_site plan.hoist s) _
        (store_kept (length P.functions) (part_of_store counts' s' up' (a - I.base) bytes) a (length bytes) flush' n ls' (has_site plan.flush_after s || (clone && not (skip s))) flushes same
        (λ e j. plain (no_clone (has_site plan.flush_after s) clone (skip s) (quiet q) e)) (h q));
    call = λ up l ls ls' h q. h q;
    return = λ up l ls ls' never h q. h q;
    fenced_return = λ up l ls ls' h q. all_fenced (length P.functions) ls' (h q);
  }
