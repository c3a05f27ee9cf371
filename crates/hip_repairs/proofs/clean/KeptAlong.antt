-- What the plan keeps, along the two runs.
use Rattle.std.proofs.Common.{◌≡◌, ◌⊎◌, inl, inr, ℕ, ◌-◌, Bool, true, false, cond, not, ◌&&◌, ◌||◌, List, [], length, Option, Some, None, refl, sym, ap, ◌∙◌, subst}
use Rattle.hip_tree.specs.Sites.{has_site}
use Rattle.hip_tree.specs.declared.program.Program.{Program}
use Rattle.hip_tree.specs.declared.site.Site.{Site}
use Rattle.hip_lines.specs.Line.{has_bytes, change_range, stored}
use Rattle.hip_runs.specs.declared.input.Input.{Input}
use Rattle.hip_runs.specs.StoredParts.Parts.{In, PartOf}
use Rattle.hip_runs.specs.Laws.PartLaws.{part-fenced, part-flushed, part-stored}
use Rattle.hip_runs.specs.StoredParts.Persistence.{part_of_store, earlier, noted_flush, flush_line, flushes_lines, flushed_lines, fenced_lines}
use Rattle.hip_runs.specs.State.{Level, Flush, StorePart, Counts}
use Rattle.hip_repairs.specs.declared.plan.Plan.{Plan}
use Rattle.hip_repairs.specs.StayOutside.{StayOutside}
use Rattle.hip_repairs.proofs.simulation.Facts.{Lines, Known, fence_if, flush_if, Keeps}
use Rattle.hip_repairs.proofs.clean.Kept.{AllKept, kept_less, kept_more_fence, kept_more_flush, kept_fence, kept_flush, kept_persist, kept_store_from, kept_call, kept_return, kept_fenced_return, kept_start}

known_fenced : (ls : Lines) (h : Flush) → Known (fenced_lines ls) h → Known ls h
known_fenced ls h k = let r = part-fenced ls k.0 k.1 in (r.0, r.1, sym (ap (λ (x : StorePart). x.first_flush) r.2) ∙ k.2)

first_known : (flush h : Flush) (o : Option Flush) → earlier o flush ≡ Some h → (h ≡ flush) ⊎ (o ≡ Some h)
first_known flush h None e = inl (let q : h ≡ flush = cc in q)
first_known flush h (Some f) e = inr e

known_flushed : (I : Input) (flush : Flush) (a n : ℕ) (ls : Lines) (h : Flush) → Known (flushed_lines I flush a n ls) h → (h ≡ flush) ⊎ Known ls h
known_flushed I flush a n ls h k = let r = part-flushed I flush a n ls k.0 k.1 in go r.0 r.1 r.2
  where
    go : (x : StorePart) → PartOf ls x → (k.0 ≡ x) ⊎ (k.0 ≡ noted_flush flush x) → (h ≡ flush) ⊎ Known ls h
    go x i (inl e) = inr (x, i, sym (ap (λ (y : StorePart). y.first_flush) e) ∙ k.2)
    go x i (inr e) = first (first_known flush h x.first_flush (sym (ap (λ (y : StorePart). y.first_flush) e) ∙ k.2))
      where
        first : (h ≡ flush) ⊎ (x.first_flush ≡ Some h) → (h ≡ flush) ⊎ Known ls h
        first (inl q) = inl q
        first (inr q) = inr (x, i, q)

known_stored : (part : ℕ → StorePart) (o n : ℕ) (ls : Lines) (h : Flush) → ((k : ℕ) → (part k).first_flush ≡ None) → Known (stored part o n ls) h → Known ls h
known_stored part o n ls h fresh k = go (part-stored part o n ls k.0 k.1)
  where
    go : PartOf ls k.0 ⊎ ((j : ℕ) × (k.0 ≡ part j)) → Known ls h
    go (inl i) = (k.0, i, k.2)
    go (inr j) = absurd (let e : None ≡ Some h = sym (fresh j.0) ∙ sym (ap (λ (x : StorePart). x.first_flush) j.1) ∙ k.2 in let z : ⊥ = cc in z)

module _ (P : Program) (plan : Plan) (skip : Site → Bool) (I : Input) where
  abbrev pub Held : List Level → Lines → Lines → Type 0
  Held up ls ls' = StayOutside P skip → AllKept plan up (Known ls) ls ls'

  wanted_flush : (x s y : Bool) → s ≡ false → x ≡ true → y || (x && not s) ≡ true
  wanted_flush true true y z e = absurd (let h : ⊥ = cc in h)
  wanted_flush true false true z e = refl
  wanted_flush true false false z e = refl
  wanted_flush false s y z e = absurd (let h : ⊥ = cc in h)

  or_left : (x y : Bool) → x ≡ true → x || y ≡ true
  or_left true y e = refl
  or_left false y e = absurd (let h : ⊥ = cc in h)

  pub held : Keeps P plan skip I Held
  held = record {
    start = λ n q. kept_start plan [] (Known _) n;
    fence = λ up ls ls' h q. kept_fence plan up (Known ls) (Known (fenced_lines ls)) ls ls' (h q);
    more_fence = λ up ls ls' h q. kept_more_fence plan up (Known ls) ls ls' (h q);
    more_flush = λ up ls ls' flush' a n h q. kept_more_flush plan up (Known ls) I flush' a n ls ls' (h q);
    flush = λ up ls ls' flush flush' a n c wanted timed h q. kept_flush plan up (Known ls) (Known (flushed_lines I flush a n ls)) flush flush' (known_flushed I flush a n ls) timed I a n c wanted ls ls' (h q);
    persist = λ up ls ls' flush flush' a n h q. kept_persist plan up (Known ls) (Known (fenced_lines (flushed_lines I flush a n ls))) I flush flush' a n ls ls' (h q);
    store = λ up up' counts counts' s s' a bytes clone flush' n ls ls' region flushes same plain under quiet h q.
        stored_kept up up' counts counts' s s' a bytes clone flush' n ls ls' flushes same under (quiet q) (h q);
    call = λ up l ls ls' h q. kept_call plan up (Known ls) l ls ls' (h q);
    return = λ up l ls ls' never h q. kept_return plan up (Known ls) l never ls ls' (h q);
    fenced_return = λ up l ls ls' h q. kept_fenced_return plan up (Known ls) l ls ls' (h q);
  }
    where
      stored_kept : (up up' : List Level) (counts counts' : Counts) (s s' : Site) (a : ℕ) (bytes : List ℕ) (clone : Bool) (flush' : Flush) (n : ℕ) (ls ls' : Lines) →
          flushes_lines I a n ≡ true → ((j : ℕ) → has_bytes j (a - I.base) n ≡ has_bytes j (a - I.base) (length bytes)) →
          ((v : Level) → In v up → has_site plan.hoist v.call ≡ true → clone ≡ true) → skip s ≡ false → AllKept plan up (Known ls) ls ls' →
          AllKept plan up (Known (stored (part_of_store counts s up (a - I.base) bytes) (a - I.base) (length bytes) ls)) (stored (part_of_store counts s up (a - I.base) bytes) (a - I.base) (length bytes) ls)
          (fence_if (has_site plan.fence_after s || has_site plan.hoist s) (flush_if (has_site plan.flush_after s || (clone && not (skip s))) I flush' a n (stored (part_of_store counts' s' up' (a - I.base) bytes) (a - I.base) (length bytes) ls')))
      stored_kept up up' counts counts' s s' a bytes clone flush' n ls ls' flushes same under quiet h =
          kept_less plan up (Known ls) (Known (stored (part_of_store counts s up (a - I.base) bytes) (a - I.base) (length bytes) ls)) (λ f k. known_stored (part_of_store counts s up (a - I.base) bytes) (a - I.base) (length bytes) ls f (λ j. refl) k) _ _
          (subst (λ (r : Bool). AllKept plan up (Known ls) (stored (part_of_store counts s up (a - I.base) bytes) (a - I.base) (length bytes) ls)
          (fence_if (has_site plan.fence_after s || has_site plan.hoist s) (cond (has_site plan.flush_after s || (clone && not (skip s))) (cond r (change_range (λ _ l. flush_line flush' l) (a - I.base) n (stored (part_of_store counts' s' up' (a - I.base) bytes) (a - I.base) (length bytes) ls')) (stored (part_of_store counts' s' up' (a - I.base) bytes) (a - I.base) (length bytes) ls')) (stored (part_of_store counts' s' up' (a - I.base) bytes) (a - I.base) (length bytes) ls')))) (sym flushes)
          (kept_store_from plan up (Known ls) flush' s (part_of_store counts s up (a - I.base) bytes) (part_of_store counts' s' up' (a - I.base) bytes) (λ j. record { fresh = refl; unfenced = refl; levels = refl; site = refl }) (a - I.base) n (length bytes) same
          (has_site plan.flush_after s || (clone && not (skip s))) (has_site plan.fence_after s || has_site plan.hoist s)
          (record { flush = or_left (has_site plan.flush_after s) _; fence = or_left (has_site plan.fence_after s) _; hoisted = λ v i e. wanted_flush clone (skip s) (has_site plan.flush_after s) quiet (under v i e) })
          0 ls ls' h))
