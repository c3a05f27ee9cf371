-- The ledger after a step are those of the run.
use Rattle.std.proofs.Common.{◌≡◌, ◌⊎◌, inl, inr, ℕ, suc, ◌+◌, true, false, cond, List, [], ◌∷◌, ◌++◌, append-nil, length, drop, Option, Some, None, slice_get, refl, sym, ap, ap₂, ◌∙◌, subst, arith, nat_eq}
use Rattle.std.proofs.Math.Path.{fun_ext}
use Rattle.hip_types.specs.Distinct.{met}
use Rattle.hip_tree.specs.Sites.{instr_of}
use Rattle.hip_tree.specs.declared.instr.Instr.{Instr}
use Rattle.hip_tree.specs.declared.program.Program.{Program}
use Rattle.hip_tree.specs.declared.site.Site.{Site}
use Rattle.hip_mem.specs.Laws.BytesLaws.{length-bytes_of}
use Rattle.hip_runs.specs.Found.Marks.{event_hits, frame_marks, hit, pointed, same_mark, unless_ended}
use Rattle.hip_runs.specs.Found.Reports.{Range, check_reports, checked_by, checked_range, next_check, reports}
use Rattle.hip_runs.specs.Laws.Fits.{Stated, site_stated}
use Rattle.hip_runs.specs.Laws.HistoryLaws.{instr_at_place}
use Rattle.hip_runs.specs.Laws.NextLaws.{counts-next, next_lines}
use Rattle.hip_runs.specs.Places.{body_at, code_at}
use Rattle.hip_runs.specs.Sites.{is_flush_call, is_store}
use Rattle.hip_runs.specs.State.{Counts, Frame, Level, State, levels_of, site_of}
use Rattle.hip_runs.specs.Step.{event, has_ended, has_entry, header_entries, run}
use Rattle.hip_runs.specs.StoredParts.After.{lines_after}
use Rattle.hip_runs.specs.StoredParts.Order.{last_fence}
use Rattle.hip_runs.specs.StoredParts.Shown.{shown}
use Rattle.hip_runs.specs.StoredParts.Since.{fences}
use Rattle.hip_runs.specs.StoredParts.Since as since
use Rattle.hip_runs.specs.declared.event.Event.{Event}
use Rattle.hip_runs.specs.declared.event.Event.TheVariants as events
use Rattle.hip_runs.specs.declared.input.Input.{Input}
use Rattle.hip_runs.specs.declared.report.Mark.{Mark}
use Rattle.hip_runs.specs.declared.report.Report.{Report}
use Rattle.hip_runs.specs.Seen.{next_site, site_in, top_site}
use Rattle.hip_ledger.specs.CallPaths.{births_of}
use Rattle.hip_ledger.specs.CheckGroups.{reports_stated}
use Rattle.hip_ledger.specs.Noted.{IsLedger, Follows, Reported, StaySame}
use Rattle.hip_ledger.specs.Pending.{lines_of}
use Rattle.hip_ledger.specs.Sights.{marks_ahead, needs_calls}
use Rattle.hip_ledger.specs.Sufficiency.{TellsLoose}
use Rattle.hip_ledger.specs.declared.ledger.Ledger.{Ledger}
use Rattle.hip_ledger.specs.declared.pending.LineNote.{LineNote}
use Rattle.hip_ledger.specs.declared.pending.Pending.{Pending}
use Rattle.hip_ledger.specs.declared.pending.StoreNote.{StoreNote}
use Rattle.hip_ledger.proofs.MarksAhead.{drop_at}
use Rattle.hip_ledger.proofs.Reporting.{reports_of_check}
use Rattle.hip_ledger.proofs.Telling.{tell_fence, tell_flush, tell_persist, tell_same, tell_store}

-- ---- the site of the next instruction

pub site_seen : (P : Program) (s : State) (f : Frame) (fs : List Frame) (i : Instr) → has_ended s ≡ false → s.frames ≡ f ∷ fs → instr_of P (site_of f) ≡ Some i
    → next_site P s ≡ Some (site_of f)
site_seen P s f fs i going q e =
    ap (λ t. cond t None (top_site P s.frames)) going ∙ ap (top_site P) q ∙ go (code_at P f) refl
  where
    there : slice_get (body_at P f.function f.block) f.place ≡ Some i
    there = sym (instr_at_place P f.function f.block f.place) ∙ e

    go : (code : List Instr) → code_at P f ≡ code → site_in f code ≡ Some (site_of f)
    go [] c = absurd (by (drop_at (body_at P f.function f.block) f.place))
      where
        by : ((drop f.place (body_at P f.function f.block) ≡ []) × (slice_get (body_at P f.function f.block) f.place ≡ None) × (drop (suc f.place) (body_at P f.function f.block) ≡ []))
            ⊎ ((x : Instr) × (drop f.place (body_at P f.function f.block) ≡ x ∷ drop (suc f.place) (body_at P f.function f.block)) × (slice_get (body_at P f.function f.block) f.place ≡ Some x)) → ⊥
        by (inl h) = let z : None ≡ Some i = sym h.1 ∙ there in let w : ⊥ = cc in w
        by (inr h) = let z : [] ≡ h.0 ∷ drop (suc f.place) (body_at P f.function f.block) = sym c ∙ h.1 in let w : ⊥ = cc in w
    go (x ∷ rest) c = refl

some_store : (o : Option Instr) → is_store o ≡ true → (i : Instr) × (o ≡ Some i)
some_store None e = absurd (let z : ⊥ = cc in z)
some_store (Some i) e = (i, refl)

some_flush : (o : Option Instr) → is_flush_call o ≡ true → (i : Instr) × (o ≡ Some i)
some_flush None e = absurd (let z : ⊥ = cc in z)
some_flush (Some i) e = (i, refl)

module _ (P : Program) (I : Input) (n : ℕ) (going : has_ended (run P I n) ≡ false) where
  abbrev Now : State
  Now = run P I n

  abbrev E : Event
  E = event P I (run P I n)

  -- A step that stores is at the site that is seen.
  pub at_store : (f : Frame) (fs : List Frame) → Now.frames ≡ f ∷ fs → (a v m : ℕ) → E ≡ events.Store a v m → next_site P Now ≡ Some (site_of f)
  at_store f fs q a v m e =
      let t : Stated (events.Store a v m) (instr_of P (site_of f)) = subst (λ (x : Event). Stated x (instr_of P (site_of f))) e (site_stated P I Now (site_of f) (ap since.top_site q)) in
      let i = some_store (instr_of P (site_of f)) t.is in
      site_seen P Now f fs i.0 going q i.1

  pub at_flush : (f : Frame) (fs : List Frame) → Now.frames ≡ f ∷ fs → (line size : ℕ) → E ≡ events.Flush line size → next_site P Now ≡ Some (site_of f)
  at_flush f fs q line size e =
      let t : Stated (events.Flush line size) (instr_of P (site_of f)) = subst (λ (x : Event). Stated x (instr_of P (site_of f))) e (site_stated P I Now (site_of f) (ap since.top_site q)) in
      let i = some_flush (instr_of P (site_of f)) t.is in
      site_seen P Now f fs i.0 going q i.1

  -- ---- pending stores

  module _ (header : ℕ) (old new : Pending) (t : TellsLoose P I n header old.stores.items (lines_of old.lines)) (counts : Now.counts.steps ≡ n) (entry : ℕ) (calls : List Level)
      (is_entry : header ≡ header_entries I → entry ≡ Now.counts.entries + 1) (are_calls : needs_calls E ≡ true → calls ≡ levels_of Now.frames) (f : Frame) (fs : List Frame) (q : Now.frames ≡ f ∷ fs) where
    abbrev Next : Type 0
    Next = TellsLoose P I (suc n) header new.stores.items (lines_of new.lines)

    stays : StaySame old new → TellsLoose P I (suc n) header old.stores.items (lines_of old.lines) → Next
    stays h u =
        subst (λ (ls : ℕ → Option LineNote). TellsLoose P I (suc n) header new.stores.items ls) (sym (fun_ext h.1))
        (subst (λ (ns : List StoreNote). TellsLoose P I (suc n) header ns (lines_of old.lines)) (sym h.0) u)

    plain : (e : Event) → E ≡ e → lines_after I e Now.counts (since.top_site Now.frames) (levels_of Now.frames) Now.lines ≡ Now.lines → (run P I (suc n)).lines ≡ Now.lines
    plain e h l = next_lines P I n ∙ ap (λ (x : Event). lines_after I x Now.counts (since.top_site Now.frames) (levels_of Now.frames) Now.lines) h ∙ l

    by : (e : Event) → E ≡ e → (o : Option Site) → next_site P Now ≡ o → Follows e o I.base n entry calls old new → Next
    by events.Quiet h o s k = stays k (tell_same P I n header old.stores.items (lines_of old.lines) t (plain events.Quiet h refl))
    by (events.Print z) h o s k = stays k (tell_same P I n header old.stores.items (lines_of old.lines) t (plain (events.Print z) h refl))
    by (events.Assert a m) h o s k = stays k (tell_same P I n header old.stores.items (lines_of old.lines) t (plain (events.Assert a m) h refl))
    by (events.End x) h o s k = stays k (tell_same P I n header old.stores.items (lines_of old.lines) t (plain (events.End x) h refl))
    by events.Fence h o s k = stays k (tell_fence P I n header old.stores.items (lines_of old.lines) t h)
    by (events.Persist line size) h o s k = stays k (tell_persist P I n header old.stores.items (lines_of old.lines) t (site_of f) (ap since.top_site q) line size h)
    by (events.Store a v m) h None s k = absurd (let z : None ≡ Some (site_of f) = sym s ∙ at_store f fs q a v m h in let w : ⊥ = cc in w)
    by (events.Store a v m) h (Some site) s k =
        let same : site ≡ site_of f = one site (site_of f) (sym s ∙ at_store f fs q a v m h) in
        let note = k.0.0 in
        let is = k.0.1 in
        subst (λ (ns : List StoreNote). TellsLoose P I (suc n) header ns (lines_of new.lines)) (sym k.0.2)
        (tell_store P I n header old.stores.items (lines_of old.lines) t (site_of f) (ap since.top_site q) counts a v m h (length-bytes_of m v) note is.tag (is.site_is ∙ same) (is.calls_are ∙ are_calls (ap needs_calls h)) (λ x. is.entry_is ∙ is_entry x) (lines_of new.lines) k.1)
      where
        one : (x y : Site) → Some x ≡ Some y → x ≡ y
        one x y e = cc
    by (events.Flush line size) h None s k = absurd (let z : None ≡ Some (site_of f) = sym s ∙ at_flush f fs q line size h in let w : ⊥ = cc in w)
    by (events.Flush line size) h (Some site) s k =
        let same : site ≡ site_of f = one site (site_of f) (sym s ∙ at_flush f fs q line size h) in
        subst (λ (ns : List StoreNote). TellsLoose P I (suc n) header ns (lines_of new.lines)) (sym k.0)
        (tell_flush P I n header old.stores.items (lines_of old.lines) t (site_of f) (ap since.top_site q) counts line size h (record { step = n; site = site }) refl same (lines_of new.lines) k.1)
      where
        one : (x y : Site) → Some x ≡ Some y → x ≡ y
        one x y e = cc

    pub pending_next : Follows E (next_site P Now) I.base n entry calls old new → Next
    pending_next k = by E refl (next_site P Now) refl k

  -- ---- marks, hits, fences, counts

  pub marks_next : (ms : List Mark) → ms ≡ pointed P I n → met same_mark ms (unless_ended E (marks_ahead P I Now)) ≡ pointed P I (suc n)
  unfolding pointed
  marks_next ms e =
      ap₂ (λ (x : List Mark) (y : List Mark). met same_mark x y) e
      (ap (λ t. unless_ended E (cond t [] (frame_marks P I Now.frames))) going ∙ sym (ap (λ t. cond t [] (unless_ended E (frame_marks P I Now.frames))) going))

  pub hit_next : (hs : List ℕ) → hs ≡ hit P I n → met nat_eq hs (event_hits P I E) ≡ hit P I (suc n)
  unfolding hit
  hit_next hs e = ap (λ (x : List ℕ). met nat_eq x (event_hits P I E)) e

  pub fence_next : (o : Option ℕ) → o ≡ last_fence P I n → cond (fences E) (Some n) o ≡ last_fence P I (suc n)
  unfolding last_fence
  fence_next o e = ap (cond (fences E) (Some n)) e

  pub entries_next : (k : ℕ) → k ≡ Now.counts.entries → cond (has_entry E) (k + 1) k ≡ (run P I (suc n)).counts.entries
  entries_next k e =
      ap (λ i. cond (has_entry E) (i + 1) i) e
      ∙ ap (λ i. cond (has_entry E) i Now.counts.entries) (let q : Now.counts.entries + 1 ≡ suc Now.counts.entries = omega arith in q)
      ∙ sym (ap (λ (c : Counts). c.entries) (counts-next P I n going))

  pub steps_next : Now.counts.steps ≡ n → (run P I (suc n)).counts.steps ≡ suc n
  steps_next e = ap (λ (c : Counts). c.steps) (counts-next P I n going) ∙ ap suc e

  -- ---- reports

  -- An event that checks a range needs the calls.
  checks_calls : (e : Event) (r : Range) → checked_by I e ≡ Some r → needs_calls e ≡ true
  checks_calls events.Quiet r e = absurd (let z : ⊥ = cc in z)
  checks_calls (events.Print z) r e = absurd (let z : ⊥ = cc in z)
  checks_calls (events.Store a v m) r e = refl
  checks_calls (events.Flush l s) r e = absurd (let z : ⊥ = cc in z)
  checks_calls (events.Persist l s) r e = absurd (let z : ⊥ = cc in z)
  checks_calls events.Fence r e = absurd (let z : ⊥ = cc in z)
  checks_calls (events.Assert a m) r e = refl
  checks_calls (events.End x) r e = refl

  range_is : (base region : ℕ) → base ≡ I.base → region ≡ length I.image → (e : Event) → checked_range base region e ≡ checked_by I e
  range_is base region b r e = ap₂ (λ (x : ℕ) (y : ℕ). checked_range x y e) b r

  pub reports_next : (c : Ledger) → IsLedger P I n c → c.header ≡ header_entries I → (needs_calls E ≡ true → c.calls ≡ levels_of Now.frames)
      → (base region : ℕ) → base ≡ I.base → region ≡ length I.image → (new : List Report)
      → Reported (checked_range base region E) (births_of c.calls) (c.entries + 1) c.fence c.pending (shown Now.lines) c.reports new → new ≡ reports P I (suc n)
  unfolding reports
  reports_next c h header looked base region b r new k = go (checked_range base region E) (range_is base region b r E) k
    where
      check : next_check P I Now ≡ checked_by I E
      check = ap (λ t. cond t None (checked_by I E)) going

      count : c.entries + 1 ≡ suc Now.counts.entries
      count = let e = h.entries header in omega (arith, e)

      go : (o : Option Range) → o ≡ checked_by I E → Reported o (births_of c.calls) (c.entries + 1) c.fence c.pending (shown Now.lines) c.reports new
          → new ≡ reports P I n ++ check_reports Now (next_check P I Now)
      go None e k = k ∙ h.reports header ∙ sym (append-nil (reports P I n)) ∙ ap (λ x. reports P I n ++ check_reports Now x) (e ∙ sym check)
      go (Some range) e k =
          let calls = looked (checks_calls E range (sym e)) in
          k.3
          ∙ ap₂ (λ (x : List Report) (y : List Report). x ++ y) (h.reports header)
          (ap (λ i. reports_stated (births_of c.calls) i c.fence c.pending.stores.items k.0.entries) count
          ∙ reports_of_check P I n c.header c.pending.stores.items (lines_of c.pending.lines) h.pending range.offset range.size (births_of c.calls) c.fence (ap births_of calls) h.fence header k.0 k.1 k.2)
          ∙ ap (λ x. reports P I n ++ check_reports Now x) (e ∙ sym check)
