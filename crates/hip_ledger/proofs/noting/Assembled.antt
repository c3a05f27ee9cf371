-- The ledger after all parts of a step.
use Rattle.std.proofs.Common.{◌≡◌, ℕ, suc, ◌+◌, ◌*◌, ◌<◌, ◌≤◌, ◌^◌, Bool, true, false, cond, List, [], ◌∷◌, length, Option, Some, refl, sym, ap, ap₂, ◌∙◌, subst, arith, nat_eq, inl, inr}
use Rattle.std.proofs.lemmas.Nat.{mul-le}
use Rattle.hip_types.specs.Distinct.{met}
use Rattle.hip_tree.specs.declared.program.Program.{Program}
use Rattle.hip_tree.specs.declared.site.Site.{Site}
use Rattle.hip_lines.specs.Pending.{Pending as Waiting}
use Rattle.hip_lines.specs.declared.part.Part.{Part}
use Rattle.hip_runs.specs.Found.Marks.{event_hits, same_mark, unless_ended}
use Rattle.hip_runs.specs.Found.Reports.{checked_range}
use Rattle.hip_runs.specs.Laws.NextLaws.{next_lines}
use Rattle.hip_runs.specs.State.{Frame, Level, levels_of}
use Rattle.hip_runs.specs.Step.{event, has_ended, has_entry, run}
use Rattle.hip_runs.specs.StoredParts.After.{lines_after}
use Rattle.hip_runs.specs.StoredParts.Shown.{shown}
use Rattle.hip_runs.specs.StoredParts.Since.{fences}
use Rattle.hip_runs.specs.StoredParts.Since as since
use Rattle.hip_runs.specs.declared.event.Event.{Event}
use Rattle.hip_runs.specs.declared.event.Ending.TheVariants as endings
use Rattle.hip_runs.specs.declared.event.Event.TheVariants as events
use Rattle.hip_runs.specs.declared.input.Input.{Input}
use Rattle.hip_runs.specs.declared.report.Mark.{Mark}
use Rattle.hip_invariants.specs.Bounds.{IsBounded}
use Rattle.hip_runs.specs.Ends.{longest}
use Rattle.hip_runs.specs.Laws.StepLaws.{has_frame, standing-frame}
use Rattle.hip_runs.specs.Seen.{next_site}
use Rattle.hip_ledger.specs.CallPaths.{births_of}
use Rattle.hip_ledger.specs.MetMarks.{AreMet, WereHit}
use Rattle.hip_ledger.specs.Noted.{IsLedger, EndsBelow, Follows, Reported, Stood}
use Rattle.hip_ledger.specs.Pending.{lines_of}
use Rattle.hip_ledger.specs.Noted.{IsForgotten}
use Rattle.hip_ledger.specs.Sights.{marks_ahead, needs_calls}
use Rattle.hip_ledger.specs.Sufficiency.{TellsLoose}
use Rattle.hip_ledger.specs.declared.ledger.Ledger.{Ledger}
use Rattle.hip_ledger.specs.declared.pending.Pending.{Pending}
use Rattle.hip_ledger.specs.declared.sought.Sought.TheVariants.{Findings}
use Rattle.hip_ledger.proofs.Forgetting.{let_go}
use Rattle.hip_ledger.proofs.Rooms.{Lies}
use Rattle.hip_ledger.proofs.noting.Steps.{entries_next, fence_next, hit_next, marks_next, pending_next, reports_next, steps_next}

-- ---- bounds

pub few_steps : (limit most n : ℕ) → limit ≤ 2 ^ 40 → most < 2 ^ 64 → n ≤ suc limit * suc most → n < 2 ^ 127
few_steps limit most n h k le =
    let product : suc limit * suc most ≤ suc (2 ^ 40) * 2 ^ 64 = mul-le (suc limit) (suc most) (suc (2 ^ 40)) (2 ^ 64) (omega (arith, h)) (omega (arith, k)) in
    omega (arith, product, le)

pub ends_below : (I : Input) (lines : ℕ) (e : Event) → Lies I e → length I.image ≡ 64 * lines → length I.image < 2 ^ 64 → EndsBelow I.base e
ends_below I lines events.Quiet h w s = tt
ends_below I lines (events.Print z) h w s = tt
ends_below I lines (events.Store a v m) h w s = let le = h.is.1 in omega (arith, le, s)
ends_below I lines (events.Flush l z) h w s = let le = h.is.1 in omega (arith, le, w, s)
ends_below I lines (events.Persist l z) h w s = tt
ends_below I lines events.Fence h w s = tt
ends_below I lines (events.Assert a n) h w s = tt
ends_below I lines (events.End x) h w s = tt

-- ---- what the parts of a step did

first_frame : (fs : List Frame) → has_frame fs ≡ true → (f : Frame) × (gs : List Frame) × (fs ≡ f ∷ gs)
first_frame [] e = absurd (let z : ⊥ = cc in z)
first_frame (f ∷ fs) e = (f, fs, refl)

-- The functions `note_check`, `note_memory`, `note_marks`, `note_hit` and `count` were called, one after the other.
pub record Did (P : Program) (I : Input) (c0 c1 c2 c3 c4 c5 : Ledger) (lines : List (Waiting Part)) (base region : ℕ) (e : Event) (site : Option Site) (ahead : List Mark) : Type 0 where
  pub stated : Reported (checked_range base region e) (births_of c0.calls) (c0.entries + 1) c0.fence c0.pending lines c0.reports c1.reports
  pub r1 : c1 ≡ record c0 { reports = c1.reports }
  pub follows : Follows e site base c0.steps (c0.entries + 1) c1.calls c1.pending c2.pending
  pub r2 : c2 ≡ record c1 { pending = c2.pending }
  pub marks : c2.sought ≡ Findings → c3.marks.keys ≡ met same_mark c2.marks.keys (unless_ended e ahead)
  pub known : AreMet c3.marks.keys c3.recent.items
  pub r3 : c3 ≡ record c2 { marks = c3.marks; recent = c3.recent }
  pub hits : c3.sought ≡ Findings → c4.hit.keys ≡ met nat_eq c3.hit.keys (event_hits P I e)
  pub flags : WereHit c4.hit.keys c4.flags.items
  pub r4 : c4 ≡ record c3 { hit = c4.hit; flags = c4.flags }
  pub r5 : c5 ≡ record c4 { steps = c4.steps + 1; entries = cond (has_entry e) (c4.entries + 1) c4.entries; fence = cond (fences e) (Some c4.steps) c4.fence }

-- Calls that stood after n steps or fewer stood after n + 1 steps or fewer.
pub stood_next : (P : Program) (I : Input) (n : ℕ) (calls : List Level) → Stood P I n calls → Stood P I (suc n) calls
stood_next P I n calls s = record { steps = s.steps; few = (let le = s.few in omega (arith, le)); are = s.are }

module _ (P : Program) (I : Input) (n : ℕ) (going : has_ended (run P I n) ≡ false) (c0 c1 c2 c3 c4 c5 : Ledger) (h : IsLedger P I n c0)
    (looked : needs_calls (event P I (run P I n)) ≡ true → c0.calls ≡ levels_of (run P I n).frames)
    (base region : ℕ) (is_base : base ≡ I.base) (is_region : region ≡ length I.image)
    (d : Did P I c0 c1 c2 c3 c4 c5 (shown (run P I (suc n)).lines) base region (event P I (run P I n)) (next_site P (run P I n)) (marks_ahead P I (run P I n))) where
  abbrev E : Event
  E = event P I (run P I n)

  same_lines : (e : Event) → event P I (run P I n) ≡ e → lines_after I e (run P I n).counts (since.top_site (run P I n).frames) (levels_of (run P I n).frames) (run P I n).lines ≡ (run P I n).lines
      → (run P I (suc n)).lines ≡ (run P I n).lines
  same_lines e p l = next_lines P I n ∙ ap (λ (x : Event). lines_after I x (run P I n).counts (since.top_site (run P I n).frames) (levels_of (run P I n).frames) (run P I n).lines) p ∙ l

  abbrev Tell : List (Waiting Part) → Event → Type 0
  Tell ls e = Reported (checked_range base region e) (births_of c0.calls) (c0.entries + 1) c0.fence c0.pending ls c0.reports c1.reports

  before : (e : Event) → event P I (run P I n) ≡ e → Tell (shown (run P I (suc n)).lines) e → Tell (shown (run P I n).lines) e
  before events.Quiet p k = k
  before (events.Print z) p k = k
  before (events.Store a v m) p k = k
  before (events.Flush l s) p k = k
  before (events.Persist l s) p k = k
  before events.Fence p k = k
  before (events.Assert a m) p k = subst (λ ls. Tell (shown ls) (events.Assert a m)) (same_lines (events.Assert a m) p refl) k
  before (events.End (endings.Stop code)) p k = subst (λ ls. Tell (shown ls) (events.End (endings.Stop code))) (same_lines (events.End (endings.Stop code)) p refl) k
  before (events.End (endings.Trap kind)) p k = k
  before (events.End endings.Cut) p k = k

  steps4 : c4.steps ≡ c0.steps
  steps4 = ap (λ (x : Ledger). x.steps) d.r4 ∙ ap (λ (x : Ledger). x.steps) d.r3 ∙ ap (λ (x : Ledger). x.steps) d.r2 ∙ ap (λ (x : Ledger). x.steps) d.r1

  entries4 : c4.entries ≡ c0.entries
  entries4 = ap (λ (x : Ledger). x.entries) d.r4 ∙ ap (λ (x : Ledger). x.entries) d.r3 ∙ ap (λ (x : Ledger). x.entries) d.r2 ∙ ap (λ (x : Ledger). x.entries) d.r1

  fence4 : c4.fence ≡ c0.fence
  fence4 = ap (λ (x : Ledger). x.fence) d.r4 ∙ ap (λ (x : Ledger). x.fence) d.r3 ∙ ap (λ (x : Ledger). x.fence) d.r2 ∙ ap (λ (x : Ledger). x.fence) d.r1

  pub header5 : c5.header ≡ c0.header
  header5 = ap (λ (x : Ledger). x.header) d.r5 ∙ ap (λ (x : Ledger). x.header) d.r4 ∙ ap (λ (x : Ledger). x.header) d.r3 ∙ ap (λ (x : Ledger). x.header) d.r2 ∙ ap (λ (x : Ledger). x.header) d.r1

  pub sought2 : c2.sought ≡ c0.sought
  sought2 = ap (λ (x : Ledger). x.sought) d.r2 ∙ ap (λ (x : Ledger). x.sought) d.r1

  sought3 : c3.sought ≡ c0.sought
  sought3 = ap (λ (x : Ledger). x.sought) d.r3 ∙ sought2

  pub sought5 : c5.sought ≡ c0.sought
  sought5 = ap (λ (x : Ledger). x.sought) d.r5 ∙ ap (λ (x : Ledger). x.sought) d.r4 ∙ sought3

  entries5 : c5.entries ≡ cond (has_entry E) (c0.entries + 1) c0.entries
  entries5 = ap (λ (x : Ledger). x.entries) d.r5 ∙ ap (λ i. cond (has_entry E) (i + 1) i) entries4

  few5 : (t : Bool) → c5.entries ≡ cond t (c0.entries + 1) c0.entries → c5.entries ≤ c5.header + suc n
  few5 true e = let k = h.few in let w = header5 in omega (arith, e, k, w)
  few5 false e = let k = h.few in let w = header5 in omega (arith, e, k, w)

  follows_here : Follows E (next_site P (run P I n)) I.base n (c0.entries + 1) c1.calls c1.pending c2.pending
  follows_here = subst (λ b. Follows E (next_site P (run P I n)) b n (c0.entries + 1) c1.calls c1.pending c2.pending) is_base (subst (λ s. Follows E (next_site P (run P I n)) base s (c0.entries + 1) c1.calls c1.pending c2.pending) h.steps d.follows)

  pending1 : c1.pending ≡ c0.pending
  pending1 = ap (λ (x : Ledger). x.pending) d.r1

  calls1 : needs_calls E ≡ true → c1.calls ≡ levels_of (run P I n).frames
  calls1 e = ap (λ (x : Ledger). x.calls) d.r1 ∙ looked e

  pending5 : c5.pending ≡ c2.pending
  pending5 = ap (λ (x : Ledger). x.pending) d.r5 ∙ ap (λ (x : Ledger). x.pending) d.r4 ∙ ap (λ (x : Ledger). x.pending) d.r3

  calls5 : c5.calls ≡ c0.calls
  calls5 = ap (λ (x : Ledger). x.calls) d.r5 ∙ ap (λ (x : Ledger). x.calls) d.r4 ∙ ap (λ (x : Ledger). x.calls) d.r3 ∙ ap (λ (x : Ledger). x.calls) d.r2 ∙ ap (λ (x : Ledger). x.calls) d.r1

  marks2 : c2.marks ≡ c0.marks
  marks2 = ap (λ (x : Ledger). x.marks) d.r2 ∙ ap (λ (x : Ledger). x.marks) d.r1

  marks5 : c5.marks ≡ c3.marks
  marks5 = ap (λ (x : Ledger). x.marks) d.r5 ∙ ap (λ (x : Ledger). x.marks) d.r4

  hit3 : c3.hit ≡ c0.hit
  hit3 = ap (λ (x : Ledger). x.hit) d.r3 ∙ ap (λ (x : Ledger). x.hit) d.r2 ∙ ap (λ (x : Ledger). x.hit) d.r1

  recent5 : c5.recent ≡ c3.recent
  recent5 = ap (λ (x : Ledger). x.recent) d.r5 ∙ ap (λ (x : Ledger). x.recent) d.r4

  flags5 : c5.flags ≡ c4.flags
  flags5 = ap (λ (x : Ledger). x.flags) d.r5

  hit5 : c5.hit ≡ c4.hit
  hit5 = ap (λ (x : Ledger). x.hit) d.r5

  reports5 : c5.reports ≡ c1.reports
  reports5 = ap (λ (x : Ledger). x.reports) d.r5 ∙ ap (λ (x : Ledger). x.reports) d.r4 ∙ ap (λ (x : Ledger). x.reports) d.r3 ∙ ap (λ (x : Ledger). x.reports) d.r2

  top : (f : Frame) × (fs : List Frame) × ((run P I n).frames ≡ f ∷ fs)
  top = first_frame (run P I n).frames (standing-frame P I n)

  pub assembled : IsLedger P I (suc n) c5
  assembled =
      let old = subst (λ (p : Pending). TellsLoose P I n c0.header p.stores.items (lines_of p.lines)) (sym pending1) h.pending in
      record {
        steps = ap (λ (x : Ledger). x.steps) d.r5 ∙ (let e = steps4 in let k = h.steps in let w : c4.steps + 1 ≡ suc n = omega (arith, e, k) in w);
        counted = steps_next P I n going h.counted;
        entries = λ x. entries5 ∙ entries_next P I n going c0.entries (h.entries (sym header5 ∙ x));
        few = few5 (has_entry E) entries5;
        header = let k = h.header in let w = header5 in omega (arith, k, w);
        fence = ap (λ (x : Ledger). x.fence) d.r5 ∙ ap₂ (λ s o. cond (fences E) (Some s) o) (steps4 ∙ h.steps) fence4 ∙ fence_next P I n going c0.fence h.fence;
        calls = subst (λ (ls : List Level). Stood P I (suc n) ls) (sym calls5) (stood_next P I n c0.calls h.calls);
        pending = subst (λ i. TellsLoose P I (suc n) i c5.pending.stores.items (lines_of c5.pending.lines)) (sym header5)
            (subst (λ (p : Pending). TellsLoose P I (suc n) c0.header p.stores.items (lines_of p.lines)) (sym pending5)
            (pending_next P I n going c0.header c1.pending c2.pending old h.counted (c0.entries + 1) c1.calls (λ x. ap (λ i. i + 1) (h.entries x)) calls1 top.0 top.1 top.2 follows_here));
        marks = λ k.
            let k0 = sym sought5 ∙ k in
            ap (λ x. x.keys) marks5 ∙ d.marks (sought2 ∙ k0) ∙ marks_next P I n going c2.marks.keys (ap (λ x. x.keys) marks2 ∙ h.marks k0);
        recent = subst (λ x. AreMet x.keys c5.recent.items) (sym marks5) (subst (λ x. AreMet c3.marks.keys x.items) (sym recent5) d.known);
        flags = subst (λ x. WereHit x.keys c5.flags.items) (sym hit5) (subst (λ x. WereHit c4.hit.keys x.items) (sym flags5) d.flags);
        hit = λ k.
            let k0 = sym sought5 ∙ k in
            ap (λ x. x.keys) hit5 ∙ d.hits (sought3 ∙ k0) ∙ hit_next P I n going c3.hit.keys (ap (λ x. x.keys) hit3 ∙ h.hit k0);
        reports = λ x. reports5 ∙ reports_next P I n going c0 h (sym header5 ∙ x) looked base region is_base is_region c1.reports (before E refl d.stated);
      }

-- ---- the same at equal values

pub few_at : (P : Program) (I : Input) (n : ℕ) (c : Ledger) → IsLedger P I n c → IsBounded P I n → I.limit ≤ 2 ^ 40 → longest P < 2 ^ 64 → n < 2 ^ 127
few_at P I n c h b limit short = few_steps I.limit (longest P) n limit short (let s = b.steps in let k = h.counted in subst (λ i. i ≤ suc I.limit * suc (longest P)) k s)

pub did_at : (P : Program) (I : Input) (c0 c1 c2 c3 c4 c5 : Ledger) (base region : ℕ) (lines lines' : List (Waiting Part)) → lines ≡ lines' → (e e' : Event) → e ≡ e' → (site site' : Option Site) → site ≡ site'
    → (ahead : List Mark) → Did P I c0 c1 c2 c3 c4 c5 lines base region e site ahead → Did P I c0 c1 c2 c3 c4 c5 lines' base region e' site' ahead
did_at P I c0 c1 c2 c3 c4 c5 base region lines lines' l e e' q site site' s ahead d =
    subst (λ (x : Option Site). Did P I c0 c1 c2 c3 c4 c5 lines' base region e' x ahead) s
    (subst (λ (x : Event). Did P I c0 c1 c2 c3 c4 c5 lines' base region x site ahead) q
    (subst (λ (x : List (Waiting Part)). Did P I c0 c1 c2 c3 c4 c5 x base region e site ahead) l d))

-- ---- what is let go

pub forgotten : (P : Program) (I : Input) (n region : ℕ) (c c' : Ledger) → IsLedger P I n c → region ≡ 64 * length (run P I n).lines
    → IsForgotten (shown (run P I n).lines) region c.pending c'.pending
    → c' ≡ record c { pending = c'.pending; enough = c'.enough } → IsLedger P I n c'
forgotten P I n region c c' h e k r = subst (λ (x : Ledger). IsLedger P I n x) (sym r) (record {
  steps = h.steps;
  counted = h.counted;
  entries = h.entries;
  few = h.few;
  header = h.header;
  fence = h.fence;
  calls = h.calls;
  pending = by k;
  marks = h.marks;
  recent = h.recent;
  hit = h.hit;
  flags = h.flags;
  reports = h.reports;
})
  where
    by : IsForgotten (shown (run P I n).lines) region c.pending c'.pending → TellsLoose P I n c.header c'.pending.stores.items (lines_of c'.pending.lines)
    by (inl q) = subst (λ (p : Pending). TellsLoose P I n c.header p.stores.items (lines_of p.lines)) (sym q) h.pending
    by (inr q) = let_go P I n c.header region e c.pending c'.pending h.pending q

-- ---- the calls are looked at

-- The standing calls after n steps stood after n steps or fewer.
pub stood_now : (P : Program) (I : Input) (n : ℕ) (calls : List Level) → calls ≡ levels_of (run P I n).frames → Stood P I n calls
stood_now P I n calls e = record { steps = n; few = omega arith; are = e }

-- The ledger after a look at the calls.
pub looked_at : (P : Program) (I : Input) (n : ℕ) (c c' : Ledger) → IsLedger P I n c → Stood P I n c'.calls → c' ≡ record c { calls = c'.calls } → IsLedger P I n c'
looked_at P I n c c' h s r = subst (λ (x : Ledger). IsLedger P I n x) (sym r) (record {
  steps = h.steps;
  counted = h.counted;
  entries = h.entries;
  few = h.few;
  header = h.header;
  fence = h.fence;
  calls = s;
  pending = h.pending;
  marks = h.marks;
  recent = h.recent;
  hit = h.hit;
  flags = h.flags;
  reports = h.reports;
})
