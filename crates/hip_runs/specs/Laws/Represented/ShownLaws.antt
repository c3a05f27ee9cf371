-- The pending parts of the code's lines follow the lines of a run through stores, flushes and fences.
use Rattle.std.proofs.Common.{◌≡◌, ℕ, zero, suc, ◌-◌, ◌*◌, ◌<◌, ◌&&◌, subst, lt-ltb, Bool, true, false, cond, List, [], ◌∷◌, length, map, take, drop, refl, sym, ap, ap₂, ◌∙◌, arith, length-drop}
use Rattle.std.proofs.lemmas.List.{length-map, length-take-le}
use Rattle.hip_tree.specs.declared.site.Site.{Site}
use Rattle.hip_lines.specs.Line.{Line, IsOrdered, AreOrdered, map_line, with_part, flushed_line, fenced_line, start_in, end_in, has_bytes, change_from, change_range, stored, fresh_lines}
use Rattle.hip_lines.specs.Laws.LineLaws.{length-change_from, ordered-map_line, ordered-flushed_line, ordered-fenced_line, ordered-change_from, ordered-stored, map_line-with_part}
use Rattle.hip_lines.specs.Parts.{part_in, none_pending_all, pending_stored, pending_flushed_all, pending_fenced_all}
use Rattle.hip_lines.specs.Pending.{Pending, none_pending, pending_of, pending_with, pending_flushed, pending_fenced}
use Rattle.hip_lines.specs.Laws.PendingLaws.{pending-with_part, pending-flushed_line, pending-fenced_line}
use Rattle.hip_lines.specs.declared.part.Part.{Part}
use Rattle.hip_runs.specs.declared.input.Input.{Input}
use Rattle.hip_runs.specs.Actions.{in_region}
use Rattle.hip_runs.specs.StoredParts.Persistence.{stored_lines, flushed_lines, part_of_store, noted_flush, noted_fence, flush_line, fence_line, fenced_lines}
use Rattle.hip_runs.specs.State.{Level, Flush, StorePart, Counts}
use Rattle.hip_runs.specs.StoredParts.Shown.{shown_part, shown_line, shown}
use Rattle.hip_runs.specs.Represented.{HoldsLines}

-- A change of the lines makes the matching change of the pending parts that they show.
shown_change : (g : ℕ → Line StorePart → Line StorePart) (h : ℕ → Pending Part → Pending Part) (o n : ℕ)
    → ((j : ℕ) (l : Line StorePart) → IsOrdered l → shown_line (g j l) ≡ h j (shown_line l)) →
    (j : ℕ) (ls : List (Line StorePart)) → AreOrdered ls
    → shown (change_from g o n j ls) ≡ change_from h o n j (shown ls)
shown_change g h o n e j [] a = refl
shown_change g h o n e j (l ∷ ls) a =
    ap₂ (λ w ws. w ∷ ws) (here (has_bytes j o n)) (shown_change g h o n e (suc j) ls a.1)
  where
    here : (b : Bool) → shown_line (cond b (g j l) l) ≡ cond b (h j (shown_line l)) (shown_line l)
    here true = e j l a.0
    here false = refl

same_parts : (k : StorePart → StorePart) → ((p : StorePart) → shown_part (k p) ≡ shown_part p)
    → (ps : List StorePart)
    → map shown_part (map k ps) ≡ map shown_part ps
same_parts k e [] = refl
same_parts k e (p ∷ ps) = ap₂ (λ x xs. x ∷ xs) (e p) (same_parts k e ps)

same_line : (k : StorePart → StorePart) → ((p : StorePart) → shown_part (k p) ≡ shown_part p)
    → (l : Line StorePart)
    → map_line shown_part (map_line k l) ≡ map_line shown_part l
same_line k e l = ap (λ ps. record { parts = ps; flushed = l.flushed; durable = l.durable }) (same_parts k e l.parts)

flush_shown : (flush : Flush) (l : Line StorePart)
    → shown_line (flush_line flush l) ≡ pending_flushed (shown_line l)
flush_shown flush l =
    ap (λ n. pending_of (record {
      parts = map shown_part (map (noted_flush flush) l.parts);
      flushed = n;
      durable = l.durable;
    })) (sym (length-map (map (noted_flush flush) l.parts) shown_part))
    ∙ ap (λ x. pending_of (flushed_line x)) (same_line (noted_flush flush) (λ p. refl) l)
    ∙ pending-flushed_line (map_line shown_part l)

fence_shown : (l : Line StorePart) → IsOrdered l → shown_line (fence_line l) ≡ pending_fenced (shown_line l)
fence_shown l h =
    ap (λ x. pending_of (fenced_line x)) (same_line noted_fence (λ p. refl) l)
    ∙ pending-fenced_line (map_line shown_part l) (ordered-map_line shown_part l h)

-- A part has as many bytes as the store has in its line.
part_length : (o j : ℕ) (bytes : List ℕ)
    → length (take (end_in j o (length bytes) - start_in j o) (drop (start_in j o - o) bytes))
    ≡ end_in j o (length bytes) - start_in j o
part_length o j bytes =
    length-take-le (end_in j o (length bytes) - start_in j o) (drop (start_in j o - o) bytes)
    (let e = length-drop (start_in j o - o) bytes in omega (arith, e))

store_shown : (counts : Counts) (site : Site) (levels : List Level) (o : ℕ) (bytes : List ℕ) (j : ℕ)
    (l : Line StorePart) → IsOrdered l →
    shown_line (with_part (part_of_store counts site levels o bytes j) l)
    ≡ pending_with (part_in o (length bytes) counts.steps j) (shown_line l)
store_shown counts site levels o bytes j l h =
    ap pending_of (map_line-with_part shown_part (part_of_store counts site levels o bytes j) l)
    ∙ pending-with_part (shown_part (part_of_store counts site levels o bytes j)) (map_line shown_part l)
    (ordered-map_line shown_part l h)
    ∙ ap (λ n. pending_with (record { offset = start_in j o; size = n; tag = counts.steps }) (shown_line l))
    (part_length o j bytes)

fenced_shown : (ls : List (Line StorePart)) → AreOrdered ls
    → shown (fenced_lines ls) ≡ pending_fenced_all (shown ls)
fenced_shown [] a = refl
fenced_shown (l ∷ ls) a = ap₂ (λ w ws. w ∷ ws) (fence_shown l a.0) (fenced_shown ls a.1)

ordered_fences : (ls : List (Line StorePart)) → AreOrdered ls → AreOrdered (fenced_lines ls)
ordered_fences [] a = tt
ordered_fences (l ∷ ls) a =
    (ordered-fenced_line (map_line noted_fence l) (ordered-map_line noted_fence l a.0), ordered_fences ls a.1)

-- Lines into which nothing was stored show no pending parts.
pub shown-fresh : (n : ℕ) → none_pending_all n ≡ shown (fresh_lines {P = StorePart} n)
unfolding none_pending_all fresh_lines
shown-fresh zero = refl
shown-fresh (suc n) = ap (λ ws. none_pending ∷ ws) (shown-fresh n)

-- ---- what the lines hold after a store, a flush and a fence

module _ {I : Input} {ps : List (Pending Part)} {ls : List (Line StorePart)} (h : HoldsLines I ps ls) where
  pub holds_stored : (counts : Counts) (site : Site) (levels : List Level) (o : ℕ) (bytes : List ℕ)
      → HoldsLines I (pending_stored o (length bytes) counts.steps ps)
      (stored (part_of_store counts site levels o bytes) o (length bytes) ls)
  holds_stored counts site levels o bytes = record {
    are =
        ap (pending_stored o (length bytes) counts.steps) h.are
        ∙ sym (shown_change _ _ o (length bytes) (store_shown counts site levels o bytes) 0 ls h.ordered);
    ordered = ordered-stored (part_of_store counts site levels o bytes) o (length bytes) ls h.ordered;
    whole = h.whole ∙ ap (λ n. 64 * n) (sym (length-change_from _ o (length bytes) 0 ps));
  }

  pub holds_flushed : (flush : Flush) (o n : ℕ)
      → HoldsLines I (pending_flushed_all o n ps) (change_range (λ _ l. flush_line flush l) o n ls)
  holds_flushed flush o n = record {
    are = ap (pending_flushed_all o n) h.are
        ∙ sym (shown_change _ _ o n (λ j l x. flush_shown flush l) 0 ls h.ordered);
    ordered =
        ordered-change_from _ o n (λ j l x. ordered-flushed_line (map_line (noted_flush flush) l)
        (ordered-map_line (noted_flush flush) l x)) 0 ls h.ordered;
    whole = h.whole ∙ ap (λ n. 64 * n) (sym (length-change_from _ o n 0 ps));
  }

  pub holds_fenced : HoldsLines I (pending_fenced_all ps) (fenced_lines ls)
  holds_fenced = record {
    are = ap pending_fenced_all h.are ∙ sym (fenced_shown ls h.ordered);
    ordered = ordered_fences ls h.ordered;
    whole = h.whole ∙ ap (λ n. 64 * n) (sym (length-map ps pending_fenced));
  }

  -- The pending parts still represent the lines after a store that may be in the region.
  pub holds_store : (counts : Counts) (site : Site) (levels : List Level) (a : ℕ) (bytes : List ℕ) →
      HoldsLines I (cond (in_region I a (length bytes)) (pending_stored (a - I.base) (length bytes) counts.steps ps) ps)
      (stored_lines I counts site levels a bytes ls)
  holds_store counts site levels a bytes = go (in_region I a (length bytes))
    where
      go : (b : Bool)
          → HoldsLines I (cond b (pending_stored (a - I.base) (length bytes) counts.steps ps) ps)
          (cond b (stored (part_of_store counts site levels (a - I.base) bytes) (a - I.base) (length bytes) ls) ls)
      go true = holds_stored counts site levels (a - I.base) bytes
      go false = h

  -- The pending parts still represent the lines after the flush of a range that has bytes and may be in the region.
  pub holds_flush : (flush : Flush) (a n : ℕ) → 0 < n
      → HoldsLines I (cond (in_region I a n) (pending_flushed_all (a - I.base) n ps) ps)
      (flushed_lines I flush a n ls)
  holds_flush flush a n some =
      subst (λ c. HoldsLines I (cond (in_region I a n) (pending_flushed_all (a - I.base) n ps) ps)
      (cond (c && in_region I a n) (change_range (λ _ l. flush_line flush l) (a - I.base) n ls) ls))
      (sym (lt-ltb 0 n some)) (go (in_region I a n))
    where
      go : (b : Bool)
          → HoldsLines I (cond b (pending_flushed_all (a - I.base) n ps) ps)
          (cond b (change_range (λ _ l. flush_line flush l) (a - I.base) n ls) ls)
      go true = holds_flushed flush (a - I.base) n
      go false = h
