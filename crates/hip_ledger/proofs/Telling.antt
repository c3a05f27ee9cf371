-- What is kept still describes the run after each step.
use Rattle.std.proofs.Common.{◌≡◌, ◌⊎◌, inl, inr, ℕ, suc, ◌+◌, ◌-◌, ◌/◌, ◌<◌, Bool, true, false, cond, List, [], ◌∷◌, ◌++◌, length, Option, Some, None, option_map, refl, sym, ap, ◌∙◌, subst, arith}
use Rattle.std.specs.Prelude.{IsSome}
use Rattle.hip_tree.specs.declared.program.Program.{Program}
use Rattle.hip_tree.specs.declared.site.Site.{Site}
use Rattle.hip_lines.specs.Line.{Line, has_bytes}
use Rattle.hip_types.specs.declared.areas.TheConstants.{LINE_SIZE}
use Rattle.hip_types.specs.Bytes.{bytes_of}
use Rattle.hip_runs.specs.Laws.HistoryLaws.{lines_ordered}
use Rattle.hip_runs.specs.Laws.NextLaws.{next_lines}
use Rattle.hip_runs.specs.State.{Flush, StorePart, levels_of}
use Rattle.hip_runs.specs.Step.{event, header_entries, run}
use Rattle.hip_runs.specs.StoredParts.After.{lines_after}
use Rattle.hip_runs.specs.StoredParts.Persistence.{earlier, fenced_lines, noted_fence, noted_flush, part_of_store}
use Rattle.hip_runs.specs.StoredParts.Since.{top_site}
use Rattle.hip_runs.specs.declared.event.Event.{Event}
use Rattle.hip_runs.specs.declared.event.Event.TheVariants as events
use Rattle.hip_runs.specs.declared.input.Input.{Input}
use Rattle.hip_ledger.specs.Pending.{first_after, flushes_in, FlushesAscend, note_of, with_flush, with_store}
use Rattle.hip_ledger.specs.Sufficiency.{StoreIsKept, IsLooseAt, TellsLoose, flush_of}
use Rattle.hip_ledger.specs.declared.pending.FlushNote.{FlushNote}
use Rattle.hip_ledger.specs.declared.pending.LineNote.{LineNote}
use Rattle.hip_ledger.specs.declared.pending.StoreNote.{StoreNote}
use Rattle.hip_ledger.proofs.noting.LooseSteps.{fenced_back, flushed_back, met_by, persisted_back, stored_back}
use Rattle.hip_ledger.proofs.NoteLists.{first_of_more, found_below, last_there, more_flushes, more_stores, none_after, one_flush_more, one_store_more, or_last, still_there}

-- The lines that have one of n bytes at offset o are changed.
abbrev pub Changed : (Option LineNote → Option LineNote) → ℕ → ℕ → (ℕ → Option LineNote) → (ℕ → Option LineNote) → Type 0
Changed to o n old new = (j : ℕ) → new j ≡ cond (has_bytes j o n) (to (old j)) (old j)

module _ (P : Program) (I : Input) (n header : ℕ) (notes : List StoreNote) (lines : ℕ → Option LineNote) (t : TellsLoose P I n header notes lines) where
  abbrev Kept : List StoreNote → (ℕ → Option LineNote) → ℕ → StorePart → Type 0
  Kept ns ls b x = StoreIsKept I header ns ls b x

  flushes_more : (j : ℕ) (l : LineNote) → lines j ≡ Some l → FlushesAscend 0 (suc n) l.flushes
  flushes_more j l e = more_flushes 0 n (suc n) l.flushes (omega arith) (t.flushes j l e)

  -- ---- a step that leaves the lines as they are

  pub tell_same : (run P I (suc n)).lines ≡ (run P I n).lines → TellsLoose P I (suc n) header notes lines
  tell_same e = record {
    stores = more_stores 0 n (suc n) notes (omega arith) t.stores;
    flushes = flushes_more;
    kept = λ b k x h. t.kept b k x (subst (λ (ls : List (Line StorePart)). IsLooseAt ls b k x) e h);
  }

  -- ---- a fence, and a persist, whose flushes need no note

  fenced_kept : (b : ℕ) (x y : StorePart) → y ≡ noted_fence x → StoreIsKept I header notes lines b x → StoreIsKept I header notes lines b y
  fenced_kept b x y e h = subst (λ (z : StorePart). StoreIsKept I header notes lines b z) (sym e) (record {
    note = h.note;
    there = h.there;
    tag = h.tag;
    site = h.site;
    calls = h.calls;
    entry = h.entry;
    line = h.line;
    line_there = h.line_there;
    flush = h.flush;
    flushed = h.flushed;
  })

  pub tell_fence : event P I (run P I n) ≡ events.Fence → TellsLoose P I (suc n) header notes lines
  tell_fence e = record {
    stores = more_stores 0 n (suc n) notes (omega arith) t.stores;
    flushes = flushes_more;
    kept = λ b k y h.
        let r = fenced_back (run P I n).lines b k y (lines_ordered P I n) (subst (λ (ls : List (Line StorePart)). IsLooseAt ls b k y) after h) in
        fenced_kept b r.0 y r.2 (t.kept b k r.0 r.1);
  }
    where
      after : (run P I (suc n)).lines ≡ fenced_lines (run P I n).lines
      after = next_lines P I n ∙ ap (λ (v : Event). lines_after I v (run P I n).counts (top_site (run P I n).frames) (levels_of (run P I n).frames) (run P I n).lines) e

  module _ (site : Site) (at : top_site (run P I n).frames ≡ Some site) where
    lines_by : (v : Event) → event P I (run P I n) ≡ v → (run P I (suc n)).lines ≡ lines_after I v (run P I n).counts (Some site) (levels_of (run P I n).frames) (run P I n).lines
    lines_by v e = next_lines P I n ∙ ap (λ (v : Event). lines_after I v (run P I n).counts (top_site (run P I n).frames) (levels_of (run P I n).frames) (run P I n).lines) e
        ∙ ap (λ (s : Option Site). lines_after I v (run P I n).counts s (levels_of (run P I n).frames) (run P I n).lines) at

    pub tell_persist : (line size : ℕ) → event P I (run P I n) ≡ events.Persist line size → TellsLoose P I (suc n) header notes lines
    tell_persist line size e = record {
      stores = more_stores 0 n (suc n) notes (omega arith) t.stores;
      flushes = flushes_more;
      kept = λ b k y h.
          let r = persisted_back (record { step = (run P I n).counts.steps; site = site }) (line - I.base) size (run P I n).lines b k y (lines_ordered P I n) (subst (λ (ls : List (Line StorePart)). IsLooseAt ls b k y) (lines_by (events.Persist line size) e) h) in
          fenced_kept b r.0 y r.2 (t.kept b k r.0 r.1);
    }

    module _ (counted : (run P I n).counts.steps ≡ n) where
      -- ---- a store

      pub tell_store : (a v m : ℕ) → event P I (run P I n) ≡ events.Store a v m → length (bytes_of m v) ≡ m
          → (note : StoreNote) → note.tag ≡ n → note.site ≡ site → note.calls.value ≡ levels_of (run P I n).frames
          → (header ≡ header_entries I → note.entry ≡ (run P I n).counts.entries + 1)
          → (new : ℕ → Option LineNote) → Changed (λ o. Some (with_store o)) (a - I.base) m lines new
          → TellsLoose P I (suc n) header (notes ++ note ∷ []) new
      tell_store a v m e len note tag from calls entry new changed = record {
        stores = one_store_more 0 n notes note (omega arith) tag t.stores;
        flushes = λ j l q. ascends j l (has_bytes j (a - I.base) m) (sym (changed j) ∙ q);
        kept = λ b k y h. kept_by b k y (stored_back part (a - I.base) m (run P I n).lines b k y (lines_ordered P I n) (subst (λ (ls : List (Line StorePart)). IsLooseAt ls b k y) (lines_by (events.Store a v m) e) h));
      }
        where
          part : ℕ → StorePart
          part = part_of_store (run P I n).counts site (levels_of (run P I n).frames) (a - I.base) (bytes_of m v)

          in_old : (o : Option LineNote) (j : ℕ) → lines j ≡ o → FlushesAscend 0 n (flushes_in o)
          in_old None j q = tt
          in_old (Some l) j q = t.flushes j l q

          ascends : (j : ℕ) (l : LineNote) (b : Bool) → cond b (Some (with_store (lines j))) (lines j) ≡ Some l → FlushesAscend 0 (suc n) l.flushes
          ascends j l true q =
              let same : with_store (lines j) ≡ l = cc in
              more_flushes 0 n (suc n) l.flushes (omega arith) (subst (λ (x : LineNote). FlushesAscend 0 n x.flushes) same (in_old (lines j) j refl))
          ascends j l false q = flushes_more j l q

          old_line : (b : ℕ) (x : StorePart) → StoreIsKept I header notes lines b x → (s : Bool) → has_bytes (b / LINE_SIZE) (a - I.base) m ≡ s → StoreIsKept I header (notes ++ note ∷ []) new b x
          old_line b x h true q = record {
            note = h.note;
            there = still_there notes (note ∷ []) x.step h.note h.there;
            tag = h.tag;
            site = h.site;
            calls = h.calls;
            entry = h.entry;
            line = record { stored = true; flushes = h.line.flushes };
            line_there = changed (b / LINE_SIZE) ∙ ap (λ s. cond s (Some (with_store (lines (b / LINE_SIZE)))) (lines (b / LINE_SIZE))) q ∙ ap (λ (o : Option LineNote). Some (with_store o)) h.line_there;
            flush = h.flush;
            flushed = λ z. absurd (let w : ⊥ = cc in w);
          }
          old_line b x h false q = record {
            note = h.note;
            there = still_there notes (note ∷ []) x.step h.note h.there;
            tag = h.tag;
            site = h.site;
            calls = h.calls;
            entry = h.entry;
            line = h.line;
            line_there = changed (b / LINE_SIZE) ∙ ap (λ s. cond s (Some (with_store (lines (b / LINE_SIZE)))) (lines (b / LINE_SIZE))) q ∙ h.line_there;
            flush = h.flush;
            flushed = h.flushed;
          }

          new_line : (b : ℕ) → has_bytes (b / LINE_SIZE) (a - I.base) m ≡ true → StoreIsKept I header (notes ++ note ∷ []) new b (part (b / LINE_SIZE))
          new_line b q = record {
            note = note;
            there = ap (note_of (notes ++ note ∷ [])) counted ∙ last_there 0 n notes note tag t.stores;
            tag = tag ∙ sym counted;
            site = from;
            calls = calls;
            entry = entry;
            line = with_store (lines (b / LINE_SIZE));
            line_there = changed (b / LINE_SIZE) ∙ ap (λ s. cond s (Some (with_store (lines (b / LINE_SIZE)))) (lines (b / LINE_SIZE))) q;
            flush = ap (λ i. option_map flush_of (first_after i (flushes_in (lines (b / LINE_SIZE))))) counted ∙ ap (option_map flush_of) (none_after 0 n (flushes_in (lines (b / LINE_SIZE))) (in_old (lines (b / LINE_SIZE)) (b / LINE_SIZE) refl));
            flushed = λ z. absurd (let w : ⊥ = cc in w);
          }

          kept_by : (b k : ℕ) (y : StorePart) → IsLooseAt (run P I n).lines b k y ⊎ ((has_bytes (b / LINE_SIZE) (a - I.base) m ≡ true) × (y ≡ part (b / LINE_SIZE)))
              → StoreIsKept I header (notes ++ note ∷ []) new b y
          kept_by b k y (inl h) = old_line b y (t.kept b k y h) (has_bytes (b / LINE_SIZE) (a - I.base) m) refl
          kept_by b k y (inr r) = subst (λ (z : StorePart). StoreIsKept I header (notes ++ note ∷ []) new b z) (sym r.1) (new_line b r.0)

      -- ---- a flush

      pub tell_flush : (line size : ℕ) → event P I (run P I n) ≡ events.Flush line size
          → (f : FlushNote) → f.step ≡ n → f.site ≡ site
          → (new : ℕ → Option LineNote) → Changed (option_map (with_flush f)) (line - I.base) size lines new
          → TellsLoose P I (suc n) header notes new
      tell_flush line size e f step from new changed = record {
        stores = more_stores 0 n (suc n) notes (omega arith) t.stores;
        flushes = λ j l q. ascends j l (has_bytes j (line - I.base) size) (lines j) refl (sym (changed j) ∙ q);
        kept = λ b k y h.
            let r = flushed_back flush (line - I.base) size (run P I n).lines b k y (subst (λ (ls : List (Line StorePart)). IsLooseAt ls b k y) (lines_by (events.Flush line size) e) h) in
            subst (λ (z : StorePart). StoreIsKept I header notes new b z) (sym r.2) (kept_by b r.0 (t.kept b k r.0 r.1) (has_bytes (b / LINE_SIZE) (line - I.base) size) refl);
      }
        where
          flush : Flush
          flush = record { step = (run P I n).counts.steps; site = site }

          is_flush : flush_of f ≡ record { step = (run P I n).counts.steps; site = site }
          is_flush = ap (λ i. record { step = i; site = f.site }) (step ∙ sym counted) ∙ ap (λ s. record { step = (run P I n).counts.steps; site = s }) from

          of_line : (l : LineNote) → FlushesAscend 0 n l.flushes → (s : Bool) → FlushesAscend 0 (suc n) (cond s (record { stored = false; flushes = l.flushes ++ f ∷ [] }) l).flushes
          of_line l h true = one_flush_more 0 n l.flushes f (omega arith) step h
          of_line l h false = more_flushes 0 n (suc n) l.flushes (omega arith) h

          ascends : (j : ℕ) (l : LineNote) (b : Bool) (o : Option LineNote) → lines j ≡ o → cond b (option_map (with_flush f) (lines j)) (lines j) ≡ Some l → FlushesAscend 0 (suc n) l.flushes
          ascends j l false o q h = flushes_more j l h
          ascends j l true None q h = absurd (let z : None ≡ Some l = sym (ap (option_map (with_flush f)) q) ∙ h in let w : ⊥ = cc in w)
          ascends j l true (Some x) q h =
              let z : Some (with_flush f x) ≡ Some l = sym (ap (option_map (with_flush f)) q) ∙ h in
              let same : with_flush f x ≡ l = cc in
              subst (λ (y : LineNote). FlushesAscend 0 (suc n) y.flushes) same (of_line x (t.flushes j x q) x.stored)

          line_now : (b : ℕ) (x : StorePart) (h : StoreIsKept I header notes lines b x) → has_bytes (b / LINE_SIZE) (line - I.base) size ≡ true → new (b / LINE_SIZE) ≡ Some (with_flush f h.line)
          line_now b x h q = changed (b / LINE_SIZE) ∙ ap (λ s. cond s (option_map (with_flush f) (lines (b / LINE_SIZE))) (lines (b / LINE_SIZE))) q ∙ ap (option_map (with_flush f)) h.line_there

          met : (o : Option FlushNote) (first : Option Flush) → option_map flush_of o ≡ first → option_map flush_of (or_last o f) ≡ earlier first flush
          met None None q = ap Some is_flush
          met None (Some g) q = absurd (let z : ⊥ = cc in z)
          met (Some g) None q = absurd (let z : ⊥ = cc in z)
          met (Some g) (Some k) q = q

          kept_first : (o : Option FlushNote) (first : Option Flush) → option_map flush_of o ≡ first → IsSome o → option_map flush_of o ≡ earlier first flush
          kept_first None first q s = absurd (let z : ⊥ = cc in z)
          kept_first (Some g) None q s = absurd (let z : ⊥ = cc in z)
          kept_first (Some g) (Some k) q s = q

          some_last : (o : Option FlushNote) → IsSome (or_last o f)
          some_last None = refl
          some_last (Some g) = refl

          before : (b : ℕ) (x : StorePart) → StoreIsKept I header notes lines b x → x.step < f.step
          before b x h = let lt = found_below 0 n notes x.step h.note t.stores h.there in omega (arith, lt, step)

          kept_line : (b : ℕ) (x : StorePart) (h : StoreIsKept I header notes lines b x) → new (b / LINE_SIZE) ≡ Some (with_flush f h.line) → (s : Bool) → h.line.stored ≡ s → StoreIsKept I header notes new b (noted_flush flush x)
          kept_line b x h now true q = record {
            note = h.note;
            there = h.there;
            tag = h.tag;
            site = h.site;
            calls = h.calls;
            entry = h.entry;
            line = record { stored = false; flushes = h.line.flushes ++ f ∷ [] };
            line_there = now ∙ ap (λ s. Some (cond s (record { stored = false; flushes = h.line.flushes ++ f ∷ [] }) h.line)) q;
            flush = ap (option_map flush_of) (first_of_more x.step h.line.flushes f (before b x h)) ∙ met (first_after x.step h.line.flushes) x.first_flush h.flush;
            flushed = λ z. subst (λ (o : Option FlushNote). IsSome o) (sym (first_of_more x.step h.line.flushes f (before b x h))) (some_last (first_after x.step h.line.flushes));
          }
          kept_line b x h now false q = record {
            note = h.note;
            there = h.there;
            tag = h.tag;
            site = h.site;
            calls = h.calls;
            entry = h.entry;
            line = h.line;
            line_there = now ∙ ap (λ s. Some (cond s (record { stored = false; flushes = h.line.flushes ++ f ∷ [] }) h.line)) q;
            flush = kept_first (first_after x.step h.line.flushes) x.first_flush h.flush (h.flushed q);
            flushed = λ z. h.flushed q;
          }

          kept_by : (b : ℕ) (x : StorePart) (h : StoreIsKept I header notes lines b x) → (s : Bool) → has_bytes (b / LINE_SIZE) (line - I.base) size ≡ s
              → StoreIsKept I header notes new b (met_by flush s x)
          kept_by b x h true q = kept_line b x h (line_now b x h q) h.line.stored refl
          kept_by b x h false q = record {
            note = h.note;
            there = h.there;
            tag = h.tag;
            site = h.site;
            calls = h.calls;
            entry = h.entry;
            line = h.line;
            line_there = changed (b / LINE_SIZE) ∙ ap (λ s. cond s (option_map (with_flush f) (lines (b / LINE_SIZE))) (lines (b / LINE_SIZE))) q ∙ h.line_there;
            flush = h.flush;
            flushed = h.flushed;
          }
