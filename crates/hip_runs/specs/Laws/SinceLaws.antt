-- The history of each part of a store is that of the steps since its store.
use Rattle.std.proofs.Common.{◌≡◌, ◌⊎◌, inl, inr, ℕ, zero, suc, ◌+◌, ◌-◌, ◌*◌, ◌/◌, ◌<◌, Bool, true, false, cond, ◌&&◌, nat_lt, nat_le, List, [], ◌∷◌, length, map, Option, Some, None, option_map, slice_get, refl, sym, ap, ap₂, ◌∙◌, subst, arith}
use Rattle.std.proofs.lemmas.Bool.Decides.{nat_tests}
use Rattle.std.specs.Cmp.{both_ways}
use Rattle.hip_tree.specs.declared.program.Program.{Program}
use Rattle.hip_tree.specs.declared.site.Site.{Site}
use Rattle.hip_lines.specs.Line.{Line, with_part, start_in, has_bytes, stored, fresh_lines}
use Rattle.hip_lines.specs.Laws.LineLaws.{slice_get-change_range}
use Rattle.hip_runs.specs.declared.event.Event.{Event}
use Rattle.hip_runs.specs.declared.input.Input.{Input}
use Rattle.hip_runs.specs.Actions.{in_region}
use Rattle.hip_runs.specs.StoredParts.Parts.{In, PartOf}
use Rattle.hip_runs.specs.Laws.PartLaws.{in-map, in-append}
use Rattle.hip_runs.specs.StoredParts.After.{flush_at, flushed_by}
use Rattle.hip_runs.specs.StoredParts.Persistence.{part_of_store, earlier, noted_flush, noted_fence, flush_line, fence_line, flushes_lines, fenced_lines}
use Rattle.hip_runs.specs.StoredParts.Since.{fences, flushes, has_line, FencedSince, NotFlushedSince, top_site, IsFirst, IsFirstFlush}
use Rattle.hip_runs.specs.State.{Flush, StorePart, Frame, levels_of, site_of}
use Rattle.hip_runs.specs.Step.{first_line, lines_size, event, run}
use Rattle.hip_runs.specs.Laws.StepLaws.{Cases, IsTop, is_plain, step-cases, counted-steps}
use Rattle.hip_runs.specs.declared.event.Event.TheVariants as events

-- ---- one step more

pub below : (m n : ℕ) → m < suc n → (m < n) ⊎ (m ≡ n)
below m n h = grind arith

module _ (P : Program) (I : Input) (n : ℕ) where
  -- The event of step n.
  abbrev Now : Event
  Now = event P I (run P I n)

  fenced_more : (from : ℕ) → FencedSince P I from n → FencedSince P I from (suc n)
  fenced_more from s = (s.0, s.1, omega (arith, s.2), s.3)

  fenced_now : (from : ℕ) → from < n → fences Now ≡ true → FencedSince P I from (suc n)
  fenced_now from lt q = (n, lt, omega arith, q)

  fenced_before : (from : ℕ) → fences Now ≡ false → FencedSince P I from (suc n) → FencedSince P I from n
  fenced_before from q s = go (below s.0 n s.2)
    where
      go : (s.0 < n) ⊎ (s.0 ≡ n) → FencedSince P I from n
      go (inl lt) = (s.0, s.1, lt, s.3)
      go (inr e) =
          absurd (let h : fences Now ≡ true = subst (λ m. fences (event P I (run P I m)) ≡ true) e s.3 in
          let b : false ≡ true = sym q ∙ h in let z : ⊥ = cc in z)

  module _ (j from : ℕ) where
    unflushed_more : flushes I.base j Now ≡ false → NotFlushedSince P I j from n
        → NotFlushedSince P I j from (suc n)
    unflushed_more q h m after before = go (below m n before)
      where
        go : (m < n) ⊎ (m ≡ n) → flushes I.base j (event P I (run P I m)) ≡ false
        go (inl lt) = h m after lt
        go (inr e) = subst (λ i. flushes I.base j (event P I (run P I i)) ≡ false) (sym e) q

    first_more : (flush : Flush) → IsFirst P I j from n flush → IsFirst P I j from (suc n) flush
    first_more flush h =
        record {
          after = h.after;
          before = omega (arith, h.before);
          flushed = h.flushed;
          first = h.first;
          site = h.site;
        }

    flush_kept : flushes I.base j Now ≡ false → (o : Option Flush) → IsFirstFlush P I j from n o
        → IsFirstFlush P I j from (suc n) o
    flush_kept q None h = unflushed_more q h
    flush_kept q (Some flush) h = first_more flush h

    flush_now : (flush : Flush) → from < n → flush.step ≡ n → top_site (run P I n).frames ≡ Some flush.site
        → flushes I.base j Now ≡ true → (o : Option Flush) → IsFirstFlush P I j from n o
        → IsFirstFlush P I j from (suc n) (earlier o flush)
    flush_now flush lt at site q None h = record {
      after = omega (arith, at);
      before = omega (arith, at);
      flushed = subst (λ i. flushes I.base j (event P I (run P I i)) ≡ true) (sym at) q;
      first = subst (λ i. NotFlushedSince P I j from i) (sym at) h;
      site = subst (λ i. top_site (run P I i).frames ≡ Some flush.site) (sym at) site;
    }
    flush_now flush lt at site q (Some first) h = first_more first h

-- ---- what a part has of the steps since its store

-- A part in line j, of a store before step n, notes whether a fence came since its store, and the first flush of its
-- line since then.
record PartIsStated (P : Program) (I : Input) (n j : ℕ) (x : StorePart) : Type 0 where
  line : x.offset / 64 ≡ j
  made : x.step < n
  fenced : x.fenced ≡ true → FencedSince P I x.step n
  by_fence : FencedSince P I x.step n → x.fenced ≡ true
  flush : IsFirstFlush P I j x.step n x.first_flush

-- Step n makes the flush, at the site of the top frame.
record IsHere (P : Program) (I : Input) (n : ℕ) (flush : Flush) : Type 0 where
  step : flush.step ≡ n
  site : top_site (run P I n).frames ≡ Some flush.site

module _ (P : Program) (I : Input) (n j : ℕ) where
  stated_same : fences (event P I (run P I n)) ≡ false → flushes I.base j (event P I (run P I n)) ≡ false
      → (x : StorePart) → PartIsStated P I n j x → PartIsStated P I (suc n) j x
  stated_same q r x t = record {
    line = t.line;
    made = omega (arith, t.made);
    fenced = λ e. fenced_more P I n x.step (t.fenced e);
    by_fence = λ s. t.by_fence (fenced_before P I n x.step q s);
    flush = flush_kept P I n j x.step r x.first_flush t.flush;
  }

  stated_fence : fences (event P I (run P I n)) ≡ true → flushes I.base j (event P I (run P I n)) ≡ false
      → (x : StorePart) → PartIsStated P I n j x → PartIsStated P I (suc n) j (noted_fence x)
  stated_fence q r x t = record {
    line = t.line;
    made = omega (arith, t.made);
    fenced = λ e. fenced_now P I n x.step t.made q;
    by_fence = λ s. refl;
    flush = flush_kept P I n j x.step r x.first_flush t.flush;
  }

  stated_flush : (flush : Flush) → IsHere P I n flush → fences (event P I (run P I n)) ≡ false
      → flushes I.base j (event P I (run P I n)) ≡ true → (x : StorePart) → PartIsStated P I n j x
      → PartIsStated P I (suc n) j (noted_flush flush x)
  stated_flush flush h q r x t = record {
    line = t.line;
    made = omega (arith, t.made);
    fenced = λ e. fenced_more P I n x.step (t.fenced e);
    by_fence = λ s. t.by_fence (fenced_before P I n x.step q s);
    flush = flush_now P I n j x.step flush t.made h.step h.site r x.first_flush t.flush;
  }

  stated_persist : (flush : Flush) → IsHere P I n flush → fences (event P I (run P I n)) ≡ true
      → flushes I.base j (event P I (run P I n)) ≡ true → (x : StorePart) → PartIsStated P I n j x
      → PartIsStated P I (suc n) j (noted_fence (noted_flush flush x))
  stated_persist flush h q r x t = record {
    line = t.line;
    made = omega (arith, t.made);
    fenced = λ e. fenced_now P I n x.step t.made q;
    by_fence = λ s. refl;
    flush = flush_now P I n j x.step flush t.made h.step h.site r x.first_flush t.flush;
  }

  -- A part that this step stores.
  stated_new : (x : StorePart) → x.offset / 64 ≡ j → x.step ≡ n → x.fenced ≡ false
      → x.first_flush ≡ None
      → PartIsStated P I (suc n) j x
  stated_new x line step fenced flush = record {
    line = line;
    made = omega (arith, step);
    fenced = λ e. absurd (let b : false ≡ true = sym fenced ∙ e in let z : ⊥ = cc in z);
    by_fence = λ s. absurd (omega (arith, step, s.1, s.2));
    flush =
        subst (λ o. IsFirstFlush P I j x.step (suc n) o) (sym flush)
        (λ m after before. absurd (omega (arith, step, after, before)));
  }

-- ---- the parts of a line

-- There is a line, and it has this part at some place.
abbrev pub InLine : Option (Line StorePart) → StorePart → Type 0
InLine None x = ⊥
InLine (Some l) x = In x l.parts

pub get_mapped : {A B : Type 0} (f : A → B) (xs : List A) (k : ℕ)
    → slice_get (map f xs) k ≡ option_map f (slice_get xs k)
get_mapped f [] zero = refl
get_mapped f [] (suc k) = refl
get_mapped f (x ∷ xs) zero = refl
get_mapped f (x ∷ xs) (suc k) = get_mapped f xs k

pub line_of_part : (ls : List (Line StorePart)) (x : StorePart) → PartOf ls x → (j : ℕ)
    × InLine (slice_get ls j) x
line_of_part [] x i = absurd i
line_of_part (l ∷ ls) x (inl i) = (0, i)
line_of_part (l ∷ ls) x (inr i) = let r = line_of_part ls x i in (suc r.0, r.1)

pub of_fenced : (ls : List (Line StorePart)) (j : ℕ) (y : StorePart) → InLine (slice_get (fenced_lines ls) j) y
    → (x : StorePart) × InLine (slice_get ls j) x × (y ≡ noted_fence x)
of_fenced ls j y i = go (slice_get ls j) (subst (λ o. InLine o y) (get_mapped fence_line ls j) i)
  where
    go : (o : Option (Line StorePart)) → InLine (option_map fence_line o) y
        → (x : StorePart) × InLine o x × (y ≡ noted_fence x)
    go None h = absurd h
    go (Some l) h = in-map noted_fence l.parts y h

pub of_flushed : (I : Input) (flush : Flush) (a n : ℕ) (ls : List (Line StorePart)) (j : ℕ) (y : StorePart)
    → InLine (slice_get (flushed_by I flush a n ls) j) y
    → (x : StorePart) × InLine (slice_get ls j) x
    × (y ≡ cond (has_bytes j (a - I.base) n) (noted_flush flush x) x)
of_flushed I flush a n ls j y i =
    go (has_bytes j (a - I.base) n) (slice_get ls j)
    (subst (λ o. InLine o y) (slice_get-change_range (λ _ l. flush_line flush l) (a - I.base) n ls j) i)
  where
    go : (b : Bool) (o : Option (Line StorePart)) → InLine (option_map (λ l. cond b (flush_line flush l) l) o) y
        → (x : StorePart) × InLine o x × (y ≡ cond b (noted_flush flush x) x)
    go b None h = absurd h
    go true (Some l) h = in-map (noted_flush flush) l.parts y h
    go false (Some l) h = (y, h, refl)

pub of_stored : (part : ℕ → StorePart) (o n : ℕ) (ls : List (Line StorePart)) (j : ℕ) (y : StorePart)
    → InLine (slice_get (stored part o n ls) j) y
    → InLine (slice_get ls j) y ⊎ ((has_bytes j o n ≡ true) × (y ≡ part j))
of_stored part o n ls j y i =
    go (has_bytes j o n) (slice_get ls j) (subst (λ z. InLine z y)
    (slice_get-change_range (λ k l. with_part (part k) l) o n ls j) i)
  where
    last : {A : Type 0} → A ⊎ In y (part j ∷ []) → A ⊎ ((true ≡ true) × (y ≡ part j))
    last (inl h) = inl h
    last (inr (inl e)) = inr (refl, e)
    last (inr (inr z)) = absurd z

    go : (b : Bool) (z : Option (Line StorePart)) → InLine (option_map (λ l. cond b (with_part (part j) l) l) z) y
        → InLine z y ⊎ ((b ≡ true) × (y ≡ part j))
    go b None h = absurd h
    go true (Some l) h = last (in-append l.parts (part j ∷ []) y h)
    go false (Some l) h = inl h

-- ---- the lines that an event names

line_there : (base o n j : ℕ) → 0 < n
    → nat_le (base + 64 * (o / 64)) (base + 64 * j) && nat_lt (base + 64 * j)
    (base + 64 * (o / 64) + (64 * ((o + n - 1) / 64 + 1) - 64 * (o / 64))) ≡ true → has_bytes j o n ≡ true
line_there base o n j lt h = grind (arith, nat_tests)

there_line : (base o n j : ℕ) → 0 < n → has_bytes j o n ≡ true
    → nat_le (base + 64 * (o / 64)) (base + 64 * j) && nat_lt (base + 64 * j)
    (base + 64 * (o / 64) + (64 * ((o + n - 1) / 64 + 1) - 64 * (o / 64))) ≡ true
there_line base o n j lt h = grind (arith, nat_tests)

some_bytes : (n : ℕ) (b : Bool) → nat_lt 0 n && b ≡ true → 0 < n
some_bytes n b h = grind (arith, nat_tests)

pub line_met : (I : Input) (a n j : ℕ) → flushes_lines I a n ≡ true
    → has_line I.base j (first_line I a) (lines_size I a n) ≡ has_bytes j (a - I.base) n
line_met I a n j h =
    let lt = some_bytes n (in_region I a n) h in
    both_ways _ _ (line_there I.base (a - I.base) n j lt) (there_line I.base (a - I.base) n j lt)

pub line_of_start : (o n j : ℕ) → has_bytes j o n ≡ true → start_in j o / 64 ≡ j
line_of_start o n j h = grind (arith, nat_tests)

-- ---- events that are neither a fence nor a flush

pub plain_fences : (e : Event) → is_plain e ≡ true → fences e ≡ false
plain_fences events.Quiet p = refl
plain_fences (events.Print z) p = refl
plain_fences (events.Store addr value size) p = refl
plain_fences (events.Flush line size) p = refl
plain_fences (events.Persist line size) p = absurd (let z : ⊥ = cc in z)
plain_fences events.Fence p = absurd (let z : ⊥ = cc in z)
plain_fences (events.Assert addr size) p = refl
plain_fences (events.End e) p = refl

pub plain_flushes : (base j : ℕ) (e : Event) → is_plain e ≡ true → flushes base j e ≡ false
plain_flushes base j events.Quiet p = refl
plain_flushes base j (events.Print z) p = refl
plain_flushes base j (events.Store addr value size) p = refl
plain_flushes base j (events.Flush line size) p = absurd (let z : ⊥ = cc in z)
plain_flushes base j (events.Persist line size) p = absurd (let z : ⊥ = cc in z)
plain_flushes base j events.Fence p = refl
plain_flushes base j (events.Assert addr size) p = refl
plain_flushes base j (events.End e) p = refl

-- ---- a step

module _ (P : Program) (I : Input) (n : ℕ) where
  -- Before step m, the history of each part of these lines is that of the steps since its store.
  abbrev AreStated : ℕ → List (Line StorePart) → Type 0
  AreStated m ls = (j : ℕ) (x : StorePart) → InLine (slice_get ls j) x → PartIsStated P I m j x

  here : (f : Frame) (fs : List Frame) → IsTop (run P I n) f fs
      → IsHere P I n (flush_at (run P I n).counts (site_of f))
  here f fs t = record { step = counted-steps P I n t.going; site = ap top_site t.frames }

  -- If step n has this event, the same holds after it.
  abbrev Next : Event → List (Line StorePart) → Type 0
  Next e ls = event P I (run P I n) ≡ e → AreStated (suc n) ls

  stated_cases : AreStated n (run P I n).lines → Cases I (run P I n) Next
  stated_cases stated = record {
    plain =
        λ e p q j x i. stated_same P I n j (ap fences q ∙ plain_fences e p)
        (ap (flushes I.base j) q ∙ plain_flushes I.base j e p) x (stated j x i);
    store =
        λ f fs t a bytes e w q j x i. by_store f fs t a bytes e q j x
        (of_stored _ (a - I.base) (length bytes) _ j x i);
    flush =
        λ f fs t a m e q j y i. let r = of_flushed I _ a m _ j y i in
        subst (PartIsStated P I (suc n) j) (sym r.2) (by_flush f fs t a m j r.0 q (has_bytes j (a - I.base) m)
        (line_met I a m j e) (stated j r.0 r.1));
    persist = λ f fs t a m e q j z i.
        let s = of_fenced _ j z i in
        let r = of_flushed I _ a m _ j s.0 s.1 in
        subst (PartIsStated P I (suc n) j) (sym (s.2 ∙ ap noted_fence r.2))
        (by_persist f fs t a m j r.0 q (has_bytes j (a - I.base) m) (line_met I a m j e) (stated j r.0 r.1));
    fence =
        λ q j y i. let r = of_fenced _ j y i in subst (PartIsStated P I (suc n) j) (sym r.2)
        (stated_fence P I n j (ap fences q) (ap (flushes I.base j) q) r.0 (stated j r.0 r.1));
  }
    where
      by_store : (f : Frame) (fs : List Frame) → IsTop (run P I n) f fs → (a : ℕ) (bytes : List ℕ)
          → in_region I a (length bytes) ≡ true →
          {value : ℕ} → event P I (run P I n) ≡ events.Store a value (length bytes)
          → (j : ℕ) (x : StorePart) →
          InLine (slice_get (run P I n).lines j) x
          ⊎ ((has_bytes j (a - I.base) (length bytes) ≡ true)
          × (x ≡ part_of_store (run P I n).counts (site_of f) (levels_of (f ∷ fs)) (a - I.base) bytes j))
          → PartIsStated P I (suc n) j x
      by_store f fs t a bytes e q j x (inl i) =
          stated_same P I n j (ap fences q) (ap (flushes I.base j) q) x (stated j x i)
      by_store f fs t a bytes e q j x (inr r) = stated_new P I n j x
          (ap (λ (y : StorePart). y.offset / 64) r.1 ∙ line_of_start (a - I.base) (length bytes) j r.0)
          (ap (λ (y : StorePart). y.step) r.1 ∙ counted-steps P I n t.going)
          (ap (λ (y : StorePart). y.fenced) r.1)
          (ap (λ (y : StorePart). y.first_flush) r.1)

      by_flush : (f : Frame) (fs : List Frame) → IsTop (run P I n) f fs → (a m j : ℕ) (x : StorePart)
          → event P I (run P I n) ≡ events.Flush (first_line I a) (lines_size I a m) →
          (b : Bool) → has_line I.base j (first_line I a) (lines_size I a m) ≡ b → PartIsStated P I n j x
          → PartIsStated P I (suc n) j (cond b (noted_flush (flush_at (run P I n).counts (site_of f)) x) x)
      by_flush f fs t a m j x q true e h =
          stated_flush P I n j _ (here f fs t) (ap fences q) (ap (flushes I.base j) q ∙ e) x h
      by_flush f fs t a m j x q false e h = stated_same P I n j (ap fences q) (ap (flushes I.base j) q ∙ e) x h

      by_persist : (f : Frame) (fs : List Frame) → IsTop (run P I n) f fs → (a m j : ℕ) (x : StorePart)
          → event P I (run P I n) ≡ events.Persist (first_line I a) (lines_size I a m) →
          (b : Bool) → has_line I.base j (first_line I a) (lines_size I a m) ≡ b → PartIsStated P I n j x
          → PartIsStated P I (suc n) j (noted_fence (cond b (noted_flush (flush_at (run P I n).counts (site_of f)) x) x))
      by_persist f fs t a m j x q true e h =
          stated_persist P I n j _ (here f fs t) (ap fences q) (ap (flushes I.base j) q ∙ e) x h
      by_persist f fs t a m j x q false e h = stated_fence P I n j (ap fences q) (ap (flushes I.base j) q ∙ e) x h

  stated_next : AreStated n (run P I n).lines → AreStated (suc n) (run P I (suc n)).lines
  unfolding run
  stated_next stated = step-cases P I (run P I n) Next (stated_cases stated) refl

-- ---- a run

pub no_part : (n j : ℕ) (x : StorePart) → InLine (slice_get (fresh_lines {P = StorePart} n) j) x → ⊥
unfolding fresh_lines
no_part zero j x i = i
no_part (suc n) zero x i = i
no_part (suc n) (suc j) x i = no_part n j x i

run_stated : (P : Program) (I : Input) (n j : ℕ) (x : StorePart) → InLine (slice_get (run P I n).lines j) x
    → PartIsStated P I n j x
unfolding run
run_stated P I zero j x i = absurd (no_part _ j x i)
run_stated P I (suc n) j x i = stated_next P I n (run_stated P I n) j x i

part_stated : (P : Program) (I : Input) (n : ℕ) (x : StorePart) → PartOf (run P I n).lines x
    → PartIsStated P I n (x.offset / 64) x
part_stated P I n x i =
    let r = line_of_part (run P I n).lines x i in let t =
    run_stated P I n r.0 x r.1 in subst (λ j. PartIsStated P I n j x) (sym t.line) t

-- A part is fenced exactly if a fence came since its store.
pub fence_stated : (P : Program) (I : Input) (n : ℕ) (x : StorePart) → PartOf (run P I n).lines x
    → x.fenced ≡ true
    → FencedSince P I x.step n
fence_stated P I n x i e = (part_stated P I n x i).fenced e

pub stated_by_fence : (P : Program) (I : Input) (n : ℕ) (x : StorePart) → PartOf (run P I n).lines x
    → FencedSince P I x.step n → x.fenced ≡ true
stated_by_fence P I n x i s = (part_stated P I n x i).by_fence s

-- A part has the first flush of its line since its store.
pub flush_stated : (P : Program) (I : Input) (n : ℕ) (x : StorePart) → PartOf (run P I n).lines x
    → IsFirstFlush P I (x.offset / 64) x.step n x.first_flush
flush_stated P I n x i = (part_stated P I n x i).flush

-- There is only one first flush.
apart : (m n : ℕ) → (m < n) ⊎ ((m ≡ n) ⊎ (n < m))
apart m n = grind arith

some_same : (s t : Site) → Some s ≡ Some t → s ≡ t
some_same s t e = cc

same_flush : (f g : Flush) → f.step ≡ g.step → f.site ≡ g.site → f ≡ g
same_flush f g p q = ap₂ (λ (n : ℕ) (s : Site). record { step = n; site = s }) p q

module _ (P : Program) (I : Input) (j from n : ℕ) where
  never : (flush : Flush) → IsFirst P I j from n flush → (m : ℕ) → flush.step < m
      → NotFlushedSince P I j from m → ⊥
  never flush h m lt none = let b : true ≡ false = sym h.flushed ∙ none flush.step h.after lt in let z : ⊥ = cc in
      z

  pub one_first : (o o' : Option Flush) → IsFirstFlush P I j from n o → IsFirstFlush P I j from n o' → o ≡ o'
  one_first None None h k = refl
  one_first None (Some g) h k = absurd (never g k n k.before h)
  one_first (Some f) None h k = absurd (never f h n h.before k)
  one_first (Some f) (Some g) h k = go (apart f.step g.step)
    where
      go : (f.step < g.step) ⊎ ((f.step ≡ g.step) ⊎ (g.step < f.step)) → Some f ≡ Some g
      go (inl lt) = absurd (never f h g.step lt k.first)
      go (inr (inr lt)) = absurd (never g k f.step lt h.first)
      go (inr (inl e)) =
          ap Some (same_flush f g e (some_same f.site g.site
          (sym h.site ∙ ap (λ i. top_site (run P I i).frames) e ∙ k.site)))
