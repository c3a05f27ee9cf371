-- The ledger after a step of which nothing is noted except that it was taken.
use Rattle.std.proofs.Common.{◌≡◌, ℕ, zero, suc, ◌+◌, ◌<◌, ◌≤◌, ◌^◌, true, false, cond, nat_eq, List, [], length, Option, Some, None, refl, sym, ap, ◌∙◌, subst, arith}
use Rattle.hip_types.specs.Distinct.{met}
use Rattle.hip_tree.specs.declared.program.Program.{Program}
use Rattle.hip_tree.specs.declared.site.Site.{Site}
use Rattle.hip_lines.specs.Pending.{Pending as Waiting}
use Rattle.hip_lines.specs.declared.part.Part.{Part}
use Rattle.hip_invariants.specs.Bounds.{IsBounded}
use Rattle.hip_runs.specs.Ends.{longest}
use Rattle.hip_runs.specs.Found.Marks.{event_hits, same_mark, unless_ended}
use Rattle.hip_runs.specs.Found.Reports.{checked_range}
use Rattle.hip_runs.specs.Seen.{next_site, pointer_of}
use Rattle.hip_runs.specs.Step.{event, has_ended, has_entry, run}
use Rattle.hip_runs.specs.StoredParts.Shown.{shown}
use Rattle.hip_runs.specs.StoredParts.Since.{fences}
use Rattle.hip_runs.specs.declared.event.Event.{Event}
use Rattle.hip_runs.specs.declared.event.Event.TheVariants as events
use Rattle.hip_runs.specs.declared.input.Input.{Input}
use Rattle.hip_runs.specs.declared.report.Mark.{Mark}
use Rattle.hip_ledger.specs.CallPaths.{births_of}
use Rattle.hip_ledger.specs.Noted.{IsLedger, Follows, Reported}
use Rattle.hip_ledger.specs.Sights.{AddUnlessEnded, is_still, marks_ahead, needs_calls}
use Rattle.hip_ledger.specs.declared.ledger.Ledger.{Ledger}
use Rattle.hip_ledger.specs.declared.sought.Sought.TheVariants.{Findings, Reports}
use Rattle.hip_ledger.proofs.MarksAhead.{none_pointed}
use Rattle.hip_ledger.proofs.MarksAtHand.{unless_alike}
use Rattle.hip_ledger.proofs.noting.Assembled.{Did, assembled, few_at}

abbrev none_of : (A : Type 0) → List A
none_of A = []

-- ---- what an event leaves as it is

nothing_stated : (e : Event) → is_still e ≡ true → (base region : ℕ) (lines : List (Waiting Part)) (c : Ledger)
    → Reported (checked_range base region e) (births_of c.calls) (c.entries + 1) c.fence c.pending lines c.reports c.reports
nothing_stated events.Quiet s base region lines c = refl
nothing_stated (events.Print z) s base region lines c = refl
nothing_stated (events.Store a v m) s base region lines c = absurd (let z : ⊥ = cc in z)
nothing_stated (events.Flush l n) s base region lines c = absurd (let z : ⊥ = cc in z)
nothing_stated (events.Persist l n) s base region lines c = absurd (let z : ⊥ = cc in z)
nothing_stated events.Fence s base region lines c = absurd (let z : ⊥ = cc in z)
nothing_stated (events.Assert a n) s base region lines c = absurd (let z : ⊥ = cc in z)
nothing_stated (events.End x) s base region lines c = absurd (let z : ⊥ = cc in z)

nothing_follows : (e : Event) → is_still e ≡ true → (site : Option Site) (base : ℕ) (c : Ledger) → Follows e site base c.steps (c.entries + 1) c.calls c.pending c.pending
nothing_follows events.Quiet s site base c = (refl, λ j. refl)
nothing_follows (events.Print z) s site base c = (refl, λ j. refl)
nothing_follows (events.Store a v m) s site base c = absurd (let z : ⊥ = cc in z)
nothing_follows (events.Flush l n) s site base c = absurd (let z : ⊥ = cc in z)
nothing_follows (events.Persist l n) s site base c = (refl, λ j. refl)
nothing_follows events.Fence s site base c = (refl, λ j. refl)
nothing_follows (events.Assert a n) s site base c = (refl, λ j. refl)
nothing_follows (events.End x) s site base c = (refl, λ j. refl)

nothing_hit : (e : Event) → is_still e ≡ true → (P : Program) (I : Input) (hs : List ℕ) → hs ≡ met nat_eq hs (event_hits P I e)
nothing_hit events.Quiet s P I hs = refl
nothing_hit (events.Print z) s P I hs = refl
nothing_hit (events.Store a v m) s P I hs = absurd (let z : ⊥ = cc in z)
nothing_hit (events.Flush l n) s P I hs = refl
nothing_hit (events.Persist l n) s P I hs = refl
nothing_hit events.Fence s P I hs = refl
nothing_hit (events.Assert a n) s P I hs = refl
nothing_hit (events.End x) s P I hs = refl

-- A step that is quiet or prints changes only the count of steps.
pub still_counted : (e : Event) → is_still e ≡ true → (c : Ledger)
    → record c { steps = c.steps + 1 } ≡ record c { steps = c.steps + 1; entries = cond (has_entry e) (c.entries + 1) c.entries; fence = cond (fences e) (Some c.steps) c.fence }
still_counted events.Quiet s c = refl
still_counted (events.Print z) s c = refl
still_counted (events.Store a v m) s c = absurd (let z : ⊥ = cc in z)
still_counted (events.Flush l n) s c = absurd (let z : ⊥ = cc in z)
still_counted (events.Persist l n) s c = absurd (let z : ⊥ = cc in z)
still_counted events.Fence s c = absurd (let z : ⊥ = cc in z)
still_counted (events.Assert a n) s c = absurd (let z : ⊥ = cc in z)
still_counted (events.End x) s c = absurd (let z : ⊥ = cc in z)

no_marks : (e : Event) → unless_ended e (none_of Mark) ≡ []
no_marks (events.End x) = refl
no_marks events.Quiet = refl
no_marks (events.Print z) = refl
no_marks (events.Store a v m) = refl
no_marks (events.Flush l s) = refl
no_marks (events.Persist l s) = refl
no_marks events.Fence = refl
no_marks (events.Assert a m) = refl

nothing_marked : (e : Event) (before ahead : List Mark) → AddUnlessEnded e before [] ahead → before ≡ met same_mark before (unless_ended e ahead)
nothing_marked e before ahead a = sym (ap (met same_mark before) (no_marks e)) ∙ a

still_needs : (e : Event) → is_still e ≡ true → needs_calls e ≡ true → ⊥
still_needs events.Quiet s k = let z : ⊥ = cc in z
still_needs (events.Print z) s k = let z : ⊥ = cc in z
still_needs (events.Store a v m) s k = let z : ⊥ = cc in z
still_needs (events.Flush l n) s k = let z : ⊥ = cc in z
still_needs (events.Persist l n) s k = let z : ⊥ = cc in z
still_needs events.Fence s k = let z : ⊥ = cc in z
still_needs (events.Assert a n) s k = let z : ⊥ = cc in z
still_needs (events.End x) s k = let z : ⊥ = cc in z

-- ---- the ledger

-- A step that shows nothing except what it prints, and has no new mark if marks are sought.
pub still_noted : (P : Program) (I : Input) (n : ℕ) → has_ended (run P I n) ≡ false → (c : Ledger) → IsLedger P I n c
    → is_still (event P I (run P I n)) ≡ true
    → (c.sought ≡ Findings → AddUnlessEnded (event P I (run P I n)) c.marks.keys [] (marks_ahead P I (run P I n))) → IsLedger P I (suc n) (record c { steps = c.steps + 1 })
still_noted P I n going c h still alike =
    let e = event P I (run P I n) in
    let did : Did P I c c c c c (record c { steps = c.steps + 1 }) (shown (run P I (suc n)).lines) I.base (length I.image) e (next_site P (run P I n)) (marks_ahead P I (run P I n)) = record {
      stated = nothing_stated e still I.base (length I.image) (shown (run P I (suc n)).lines) c;
      r1 = refl;
      follows = nothing_follows e still (next_site P (run P I n)) I.base c;
      r2 = refl;
      marks = λ k. nothing_marked e c.marks.keys (marks_ahead P I (run P I n)) (alike k);
      known = h.recent;
      r3 = refl;
      hits = λ k. nothing_hit e still P I c.hit.keys;
      flags = h.flags;
      r4 = refl;
      r5 = still_counted e still c;
    } in
    assembled P I n going c c c c c (record c { steps = c.steps + 1 }) h (λ k. absurd (still_needs e still k)) I.base (length I.image) refl refl did

-- A plain step: it has no event, and its instruction no pointer operand.
pub plain_noted : (P : Program) (I : Input) (n : ℕ) → has_ended (run P I n) ≡ false → event P I (run P I n) ≡ events.Quiet
    → ((operand : ℕ) → pointer_of P I (run P I n) operand ≡ None) → (c : Ledger) → IsLedger P I n c → IsLedger P I (suc n) (record c { steps = c.steps + 1 })
plain_noted P I n going quiet none c h =
    let e = event P I (run P I n) in
    still_noted P I n going c h (ap is_still quiet)
    (λ k. unless_alike e c.marks.keys [] (marks_ahead P I (run P I n)) (ap (met same_mark c.marks.keys) (sym (none_pointed P I (run P I n) (none 0)))))

-- A step without an event, where no marks are sought.
pub unmarked_noted : (P : Program) (I : Input) (n : ℕ) → has_ended (run P I n) ≡ false → event P I (run P I n) ≡ events.Quiet
    → (c : Ledger) → c.sought ≡ Reports → IsLedger P I n c → IsLedger P I (suc n) (record c { steps = c.steps + 1 })
unmarked_noted P I n going quiet c none h =
    still_noted P I n going c h (ap is_still quiet)
    (λ k. absurd (let z : Reports ≡ Findings = sym none ∙ k in let w : ⊥ = cc in w))

-- ---- plain steps

-- After n steps the run goes on; its next step has no event, and its instruction no pointer operand.
pub record IsPlainAt (P : Program) (I : Input) (n : ℕ) : Type 0 where
  pub going : has_ended (run P I n) ≡ false
  pub quiet : event P I (run P I n) ≡ events.Quiet
  pub pointer : (operand : ℕ) → pointer_of P I (run P I n) operand ≡ None

-- The ledger after k more plain steps.
pub plain_steps_noted : (P : Program) (I : Input) (n k : ℕ) → ((j : ℕ) → j < k → IsPlainAt P I (n + j)) → (c : Ledger) → IsLedger P I n c → IsLedger P I (n + k) (record c { steps = c.steps + k })
plain_steps_noted P I n zero plain c h =
    let steps : c.steps ≡ c.steps + 0 = omega arith in
    subst (λ i. IsLedger P I i (record c { steps = c.steps + 0 })) (let e : n ≡ n + 0 = omega arith in e)
    (subst (λ (x : Ledger). IsLedger P I n x) (ap (λ i. record c { steps = i }) steps) h)
plain_steps_noted P I n (suc k) plain c h =
    let steps : c.steps + k + 1 ≡ c.steps + suc k = omega arith in
    let at = plain k (omega arith) in
    subst (λ i. IsLedger P I i (record c { steps = c.steps + suc k })) (let e : suc (n + k) ≡ n + suc k = omega arith in e)
    (subst (λ (x : Ledger). IsLedger P I (suc (n + k)) x) (ap (λ i. record c { steps = i }) steps)
    (plain_noted P I (n + k) at.going at.quiet at.pointer (record c { steps = c.steps + k }) (plain_steps_noted P I n k (λ j lt. plain j (omega (arith, lt))) c h)))

-- After n steps the run goes on, and its next step has no event.
pub record IsQuietAt (P : Program) (I : Input) (n : ℕ) : Type 0 where
  pub going : has_ended (run P I n) ≡ false
  pub quiet : event P I (run P I n) ≡ events.Quiet

-- The ledger after k more steps without an event, where no marks are sought.
pub quiet_steps_noted : (P : Program) (I : Input) (n k : ℕ) → ((j : ℕ) → j < k → IsQuietAt P I (n + j)) → (c : Ledger) → c.sought ≡ Reports → IsLedger P I n c
    → IsLedger P I (n + k) (record c { steps = c.steps + k })
quiet_steps_noted P I n zero quiet c none h =
    let steps : c.steps ≡ c.steps + 0 = omega arith in
    subst (λ i. IsLedger P I i (record c { steps = c.steps + 0 })) (let e : n ≡ n + 0 = omega arith in e)
    (subst (λ (x : Ledger). IsLedger P I n x) (ap (λ i. record c { steps = i }) steps) h)
quiet_steps_noted P I n (suc k) quiet c none h =
    let steps : c.steps + k + 1 ≡ c.steps + suc k = omega arith in
    let at = quiet k (omega arith) in
    subst (λ i. IsLedger P I i (record c { steps = c.steps + suc k })) (let e : suc (n + k) ≡ n + suc k = omega arith in e)
    (subst (λ (x : Ledger). IsLedger P I (suc (n + k)) x) (ap (λ i. record c { steps = i }) steps)
    (unmarked_noted P I (n + k) at.going at.quiet (record c { steps = c.steps + k }) none (quiet_steps_noted P I n k (λ j lt. quiet j (omega (arith, lt))) c none h)))

-- The count of steps after k more plain steps fits 128 bits.
pub plain_steps_few : (P : Program) (I : Input) (n k : ℕ) → ((j : ℕ) → j < k → IsPlainAt P I (n + j)) → (c : Ledger) → IsLedger P I n c
    → IsBounded P I (n + k) → I.limit ≤ 2 ^ 40 → longest P < 2 ^ 64 → c.steps + k < 2 ^ 128
plain_steps_few P I n k plain c h bounded limit short =
    let few = few_at P I (n + k) (record c { steps = c.steps + k }) (plain_steps_noted P I n k plain c h) bounded limit short in
    let taken = h.steps in
    omega (arith, few, taken)
