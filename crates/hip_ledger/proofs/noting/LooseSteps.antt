-- By which parts of stores the bytes of the region are loose, from one step to the next.
use Rattle.std.proofs.Common.{◌≡◌, ◌⊎◌, inl, inr, ℕ, ◌/◌, ◌≤◌, Bool, true, false, cond, List, length, Option, Some, None, option_map, slice_get, refl, sym, ◌∙◌, subst}
use Rattle.hip_lines.specs.Line.{Line, AreOrdered, IsOrdered, change_range, fenced_line, has_bytes, map_line, stored, with_part}
use Rattle.hip_lines.specs.Loose.{IsLooseBy}
use Rattle.hip_lines.specs.Laws.LineLaws.{ordered-at, ordered-map_line, slice_get-change_range}
use Rattle.hip_lines.specs.Laws.LooseLaws.{fenced_line-loose, flushed_line-loose, last_over-part, loose-with_part_over, map_line-loose, not_loose-after_flush_and_fence, with_part_beside-loose, get-of_map}
use Rattle.hip_types.specs.declared.areas.TheConstants.{LINE_SIZE}
use Rattle.hip_runs.specs.Crash.{covers}
use Rattle.hip_runs.specs.State.{Flush, StorePart}
use Rattle.hip_ledger.specs.Sufficiency.{IsLooseAt}
use Rattle.hip_runs.specs.StoredParts.Persistence.{fence_line, fenced_lines, flush_line, noted_fence, noted_flush}

-- If an option has a value after a change, it had one before.
was_there : {A : Type 0} (f : A → A) (o : Option A) (y : A) → option_map f o ≡ Some y → (x : A) × (o ≡ Some x) × (f x ≡ y)
was_there f None y e = absurd (let z : ⊥ = cc in z)
was_there f (Some x) y e = (x, refl, (let z : f x ≡ y = cc in z))

-- ---- a fence

-- A line's byte that is loose after a fence was so before, by a part that is not flushed.
fence_back : (l : Line StorePart) (b k : ℕ) (y : StorePart) → IsOrdered l → IsLooseBy covers (fence_line l) b k y
    → (x : StorePart) × IsLooseBy covers l b k x × (y ≡ noted_fence x) × (l.flushed ≤ k)
fence_back l b k y o h =
    let f = fenced_line-loose covers (map_line noted_fence l) b k y (ordered-map_line noted_fence l o) h in
    let m = map_line-loose noted_fence covers l b k y f.0 in
    (m.0, m.1, sym m.2, f.1)

pub fenced_back : (ls : List (Line StorePart)) (b k : ℕ) (y : StorePart) → AreOrdered ls → IsLooseAt (fenced_lines ls) b k y
    → (x : StorePart) × IsLooseAt ls b k x × (y ≡ noted_fence x)
fenced_back ls b k y o h =
    let g = get-of_map fence_line ls (b / LINE_SIZE) h.line h.line_at in
    let r = fence_back g.0 b k y (ordered-at ls (b / LINE_SIZE) g.0 o g.1) (subst (λ (l : Line StorePart). IsLooseBy covers l b k y) (sym g.2) h.loose) in
    (r.0, record { line = g.0; line_at = g.1; loose = r.1 }, r.2)

-- ---- a flush

flush_back : (flush : Flush) (l : Line StorePart) (b k : ℕ) (y : StorePart) → IsLooseBy covers (flush_line flush l) b k y
    → (x : StorePart) × IsLooseBy covers l b k x × (y ≡ noted_flush flush x)
flush_back flush l b k y h =
    let m = map_line-loose (noted_flush flush) covers l b k y (flushed_line-loose covers (map_line (noted_flush flush) l) b k y h) in
    (m.0, m.1, sym m.2)

-- The part of a byte after a flush of its line, or of another line.
abbrev pub met_by : Flush → Bool → StorePart → StorePart
met_by flush meets x = cond meets (noted_flush flush x) x

pub flushed_back : (flush : Flush) (o n : ℕ) (ls : List (Line StorePart)) (b k : ℕ) (y : StorePart)
    → IsLooseAt (change_range (λ _ l. flush_line flush l) o n ls) b k y
    → (x : StorePart) × IsLooseAt ls b k x × (y ≡ met_by flush (has_bytes (b / LINE_SIZE) o n) x)
flushed_back flush o n ls b k y h =
    let w = was_there (λ l. cond (has_bytes (b / LINE_SIZE) o n) (flush_line flush l) l) (slice_get ls (b / LINE_SIZE)) h.line (sym (slice_get-change_range (λ _ l. flush_line flush l) o n ls (b / LINE_SIZE)) ∙ h.line_at) in
    go (has_bytes (b / LINE_SIZE) o n) w.0 w.1 (subst (λ (l : Line StorePart). IsLooseBy covers l b k y) (sym w.2) h.loose)
  where
    go : (t : Bool) (l : Line StorePart) → slice_get ls (b / LINE_SIZE) ≡ Some l → IsLooseBy covers (cond t (flush_line flush l) l) b k y
        → (x : StorePart) × IsLooseAt ls b k x × (y ≡ met_by flush t x)
    go true l at by = let r = flush_back flush l b k y by in (r.0, record { line = l; line_at = at; loose = r.1 }, r.2)
    go false l at by = (y, record { line = l; line_at = at; loose = by }, refl)

-- A fence right after a flush leaves no loose byte in the flushed lines.
pub persisted_back : (flush : Flush) (o n : ℕ) (ls : List (Line StorePart)) (b k : ℕ) (y : StorePart) → AreOrdered ls
    → IsLooseAt (fenced_lines (change_range (λ _ l. flush_line flush l) o n ls)) b k y
    → (x : StorePart) × IsLooseAt ls b k x × (y ≡ noted_fence x) × (has_bytes (b / LINE_SIZE) o n ≡ false)
persisted_back flush o n ls b k y ordered h =
    let g = get-of_map fence_line (change_range (λ _ l. flush_line flush l) o n ls) (b / LINE_SIZE) h.line h.line_at in
    let w = was_there (λ l. cond (has_bytes (b / LINE_SIZE) o n) (flush_line flush l) l) (slice_get ls (b / LINE_SIZE)) g.0 (sym (slice_get-change_range (λ _ l. flush_line flush l) o n ls (b / LINE_SIZE)) ∙ g.1) in
    go (has_bytes (b / LINE_SIZE) o n) refl w.0 w.1 (subst (λ (l : Line StorePart). IsLooseBy covers (fence_line l) b k y) (sym w.2) (subst (λ (l : Line StorePart). IsLooseBy covers l b k y) (sym g.2) h.loose))
  where
    no_more : (l : Line StorePart) → IsLooseBy covers (fence_line (flush_line flush l)) b k y → ⊥
    no_more l by =
        let m = map_line-loose noted_fence covers (fenced_line (flush_line flush l)) b k y (record { last_over = by.last_over; not_durable = by.not_durable }) in
        not_loose-after_flush_and_fence covers (map_line (noted_flush flush) l) b (k, m.0, m.1)

    go : (t : Bool) → has_bytes (b / LINE_SIZE) o n ≡ t → (l : Line StorePart) → slice_get ls (b / LINE_SIZE) ≡ Some l
        → IsLooseBy covers (fence_line (cond t (flush_line flush l) l)) b k y
        → (x : StorePart) × IsLooseAt ls b k x × (y ≡ noted_fence x) × (has_bytes (b / LINE_SIZE) o n ≡ false)
    go true e l at by = absurd (no_more l by)
    go false e l at by = let r = fence_back l b k y (ordered-at ls (b / LINE_SIZE) l ordered at) by in (r.0, record { line = l; line_at = at; loose = r.1 }, r.2, e)

-- ---- a store

pub stored_back : (part : ℕ → StorePart) (o n : ℕ) (ls : List (Line StorePart)) (b k : ℕ) (y : StorePart) → AreOrdered ls
    → IsLooseAt (stored part o n ls) b k y
    → IsLooseAt ls b k y ⊎ ((has_bytes (b / LINE_SIZE) o n ≡ true) × (y ≡ part (b / LINE_SIZE)))
stored_back part o n ls b k y ordered h =
    let w = was_there (λ l. cond (has_bytes (b / LINE_SIZE) o n) (with_part (part (b / LINE_SIZE)) l) l) (slice_get ls (b / LINE_SIZE)) h.line (sym (slice_get-change_range (λ j l. with_part (part j) l) o n ls (b / LINE_SIZE)) ∙ h.line_at) in
    go (has_bytes (b / LINE_SIZE) o n) refl w.0 w.1 (subst (λ (l : Line StorePart). IsLooseBy covers l b k y) (sym w.2) h.loose)
  where
    on_line : (l : Line StorePart) → slice_get ls (b / LINE_SIZE) ≡ Some l → IsLooseBy covers (with_part (part (b / LINE_SIZE)) l) b k y
        → (t : Bool) → covers (part (b / LINE_SIZE)) b ≡ t → IsLooseAt ls b k y ⊎ (y ≡ part (b / LINE_SIZE))
    on_line l at by true e = inr (last_over-part covers (with_part (part (b / LINE_SIZE)) l).parts b k (length l.parts) y (part (b / LINE_SIZE)) by.last_over (loose-with_part_over covers (part (b / LINE_SIZE)) l b (ordered-at ls (b / LINE_SIZE) l ordered at) e).last_over)
    on_line l at by false e = inl (record { line = l; line_at = at; loose = with_part_beside-loose covers (part (b / LINE_SIZE)) l b k y e by })

    go : (t : Bool) → has_bytes (b / LINE_SIZE) o n ≡ t → (l : Line StorePart) → slice_get ls (b / LINE_SIZE) ≡ Some l
        → IsLooseBy covers (cond t (with_part (part (b / LINE_SIZE)) l) l) b k y
        → IsLooseAt ls b k y ⊎ ((has_bytes (b / LINE_SIZE) o n ≡ true) × (y ≡ part (b / LINE_SIZE)))
    go false e l at by = inl (record { line = l; line_at = at; loose = by })
    go true e l at by = join (on_line l at by (covers (part (b / LINE_SIZE)) b) refl)
      where
        join : IsLooseAt ls b k y ⊎ (y ≡ part (b / LINE_SIZE)) → IsLooseAt ls b k y ⊎ ((has_bytes (b / LINE_SIZE) o n ≡ true) × (y ≡ part (b / LINE_SIZE)))
        join (inl r) = inl r
        join (inr q) = inr (e, q)
