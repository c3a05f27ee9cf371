-- A check reports nothing exactly if no byte of its range is loose; and its range is in the region.
use Rattle.std.proofs.Common.{◌≡◌, ◌⊎◌, inl, inr, ℕ, zero, suc, ◌+◌, ◌-◌, ◌<◌, ◌≤◌, Bool, true, false, cond, nat_le, nat_lt, ◌&&◌, List, [], ◌∷◌, ◌++◌, length, Option, Some, None, slice_get, refl, sym, ap, ap₂, subst, arith}
use Rattle.std.specs.List.{flat_map, range_with_len}
use Rattle.std.specs.Prelude.{is_some}
use Rattle.std.proofs.lemmas.Bool.Decides.{nat_tests}
use Rattle.hip_tree.specs.declared.program.Program.{Program}
use Rattle.hip_types.specs.Bytes.{little_endian}
use Rattle.hip_sound.specs.Sound.{IsSound}
use Rattle.hip_types.specs.Numbers.{bits, signed}
use Rattle.hip_types.specs.declared.number.Width.TheVariants.{W32}
use Rattle.hip_runs.specs.Actions.{Action, Traps, Assigns, Allocates, Stores, Flushes, Persists, Fences, Asserts, Prints, Reads, Calls, Jumps, Returns, Deed, in_region}
use Rattle.hip_runs.specs.Found.Reports.{LoosePart, Range, loose_parts, report_by, report_of, reports_for, check_reports, checked_by, next_check}
use Rattle.hip_runs.specs.Found.Tags.{IsLoosePart}
use Rattle.hip_runs.specs.Laws.Found.LooseBytes.{loose_part, part_loose, loose_there}
use Rattle.hip_runs.specs.Laws.HistoryLaws.{has_history}
use Rattle.hip_runs.specs.Laws.Members.{to_flat}
use Rattle.hip_runs.specs.State.{Frame, World, State, levels_of}
use Rattle.hip_runs.specs.Step.{first_line, lines_size, event_of, is_bottom, is_cut, event_at, deed_at, event_on_frames, event_on_ending, event, run}
use Rattle.hip_runs.specs.StoredParts.Parts.{In}
use Rattle.hip_runs.specs.StoredParts.Persistence.{flushes_lines}
use Rattle.hip_runs.specs.Validity.{IsValid}
use Rattle.hip_runs.specs.declared.event.Ending.{Ending}
use Rattle.hip_runs.specs.declared.event.Ending.TheVariants.{Stop, Cut}
use Rattle.hip_runs.specs.declared.event.Event.TheVariants as events
use Rattle.hip_runs.specs.declared.input.Input.{Input}
use Rattle.hip_runs.specs.declared.report.Report.{Report}
use Rattle.hip_survival.specs.Survival.{IsLooseAt, Survives}
use Rattle.hip_survival.specs.Laws.Bounded.{touches, Bounded, deed_bounded}
use Rattle.hip_survival.specs.Laws.TightBytes.{tight_survives}
use Rattle.hip_survival.specs.Laws.StatedBytes.{loose_of_part, part_of_loose}

-- ---- a loose byte of the range is reported

pub in_range : (n a x : ℕ) → a ≤ x → x < a + n → (m : ℕ) × (slice_get (range_with_len a n) m ≡ Some x)
in_range zero a x le lt = absurd (omega (arith, le, lt))
in_range (suc n) a x le lt = go (split a x le) (λ low. in_range n (a + 1) x low (omega (arith, lt)))
  where
    split : (a x : ℕ) → a ≤ x → (a ≡ x) ⊎ (a + 1 ≤ x)
    split a x h = grind arith

    go : (a ≡ x) ⊎ (a + 1 ≤ x)
        → (a + 1 ≤ x → (m : ℕ) × (slice_get (range_with_len (a + 1) n) m ≡ Some x))
        → (m : ℕ) × (slice_get (range_with_len a (suc n)) m ≡ Some x)
    go (inl e) next = (0, ap Some e)
    go (inr low) next = let r = next low in (suc r.0, r.1)

pub loose_reported : (P : Program) (I : Input) (n : ℕ) (range : Range)
    → check_reports (run P I n) (Some range) ≡ []
    → (b : ℕ) → range.offset ≤ b → b < range.offset + range.size → ¬ IsLooseAt (run P I n) b
loose_reported P I n range none b low high loose =
    go (record { part = loose.2.1; flushed = nat_lt loose.2.0 loose.0.flushed }) loose.2.1.step
    (part_of_loose P I n b range.offset range.size low high loose)
  where
    met : (p : LoosePart) (made : ℕ) → made < (run P I n).counts.steps → (ps : List LoosePart)
        → loose_parts range.offset range.size (run P I n).lines made ≡ ps → In p ps → ⊥
    met p made lt [] e i = i
    met p made lt (q ∷ qs) e i =
        let r : Report = report_by (levels_of (run P I n).frames) (suc (run P I n).counts.entries) q.part (q ∷ qs) in
        let there : In r (reports_for (run P I n) range made) =
        subst (λ xs. In r (report_of (levels_of (run P I n).frames) (suc (run P I n).counts.entries) xs)) (sym e)
        (inl refl) in
        let at = in_range (run P I n).counts.steps 0 made (omega arith) (omega (arith, lt)) in
        subst (In r) none
        (to_flat (reports_for (run P I n) range) (range_with_len 0 (run P I n).counts.steps) r at.0 made at.1 there)

    go : (p : LoosePart) (made : ℕ) → IsLoosePart range.offset range.size made (run P I n).lines p → ⊥
    go p made is =
        let old : p.part.step < (run P I n).counts.steps =
        (has_history P I n).made p.part (loose_there range.offset range.size made (run P I n).lines p is) in
        met p made (omega (arith, old, is.step)) (loose_parts range.offset range.size (run P I n).lines made) refl
        (loose_part range.offset range.size made (run P I n).lines p is)

-- ---- and each report is of a loose byte

no_reports : (f : ℕ → List Report) (ms : List ℕ) → ((m : ℕ) → f m ≡ []) → flat_map f ms ≡ []
no_reports f [] h = refl
no_reports f (m ∷ ms) h = ap₂ (λ p q. p ++ q) (h m) (no_reports f ms h)

pub reported_loose : (P : Program) (I : Input) (n : ℕ) (range : Range)
    → ((b : ℕ) → range.offset ≤ b → b < range.offset + range.size → ¬ IsLooseAt (run P I n) b)
    → check_reports (run P I n) (Some range) ≡ []
reported_loose P I n range tight =
    no_reports (reports_for (run P I n) range) (range_with_len 0 (run P I n).counts.steps)
    (λ made. go made (loose_parts range.offset range.size (run P I n).lines made) refl)
  where
    go : (made : ℕ) (ps : List LoosePart) → loose_parts range.offset range.size (run P I n).lines made ≡ ps
        → report_of (levels_of (run P I n).frames) (suc (run P I n).counts.entries)
        (loose_parts range.offset range.size (run P I n).lines made) ≡ []
    go made [] e = ap (report_of (levels_of (run P I n).frames) (suc (run P I n).counts.entries)) e
    go made (p ∷ ps) e =
        let r = part_loose range.offset range.size made (run P I n).lines p
        (subst (In p) (sym e) (inl refl)) in
        absurd (tight r.byte r.low r.high (loose_of_part P I n range.offset range.size made p r))

-- ---- the range of a check lies in the region

abbrev fits_region : Input → Option Range → Type 0
fits_region I None = Unit {0}
fits_region I (Some r) = r.offset + r.size ≤ length I.image

record FitsRegion (I : Input) (o : Option Range) : Type 0 where
  is : fits_region I o

asserted : (base size a n : ℕ) → nat_le base a && nat_le (a + n) (base + size) ≡ true → (a - base) + n ≤ size
asserted base size a n h =
    grind (arith, nat_tests)

event_fits : (P : Program) (I : Input) (mark : ℕ) (fs : List Frame) (x : Action) → touches P I mark x
    → FitsRegion I (checked_by I (event_of I fs x))
event_fits P I mark fs (Traps kind) t = record { is = tt }
event_fits P I mark fs (Stores a bytes) t = go (in_region I a (length bytes))
  where
    go : (b : Bool)
        → FitsRegion I (checked_by I (cond b (events.Store a (little_endian bytes) (length bytes)) events.Quiet))
    go true = record { is = tt }
    go false = record { is = tt }
event_fits P I mark fs (Flushes a n) t = go (flushes_lines I a n)
  where
    go : (b : Bool)
        → FitsRegion I (checked_by I (cond b (events.Flush (first_line I a) (lines_size I a n)) events.Quiet))
    go true = record { is = tt }
    go false = record { is = tt }
event_fits P I mark fs (Persists a n) t = go (flushes_lines I a n)
  where
    go : (b : Bool)
        → FitsRegion I (checked_by I (cond b (events.Persist (first_line I a) (lines_size I a n)) events.Fence))
    go true = record { is = tt }
    go false = record { is = tt }
event_fits P I mark fs (Asserts a n) t = record { is = asserted I.base (length I.image) a n t }
event_fits P I mark fs (Returns v) t = go (is_bottom fs)
  where
    go : (b : Bool)
        → FitsRegion I (checked_by I (cond b (events.End (Stop (signed W32 (bits W32 v).value))) events.Quiet))
    go true = record { is = omega arith }
    go false = record { is = tt }
event_fits P I mark fs Fences t = record { is = tt }
event_fits P I mark fs (Assigns dest v) t = record { is = tt }
event_fits P I mark fs (Allocates dest a n) t = record { is = tt }
event_fits P I mark fs (Prints z) t = record { is = tt }
event_fits P I mark fs (Reads dest z rest) t = record { is = tt }
event_fits P I mark fs (Calls g registers dest) t = record { is = tt }
event_fits P I mark fs (Jumps b registers) t = record { is = tt }

next_fits : (P : Program) (I : Input) (s : State) → FitsRegion I (next_check P I s)
unfolding event
next_fits P I s = go s.world.ending
  where
    cut : (w : World) (fs : List Frame) (d : Deed) → Bounded P I w.mark d.action
        → FitsRegion I (checked_by I (event_at I w fs d))
    cut w fs d t = by (is_cut I w d)
      where
        by : (b : Bool) → FitsRegion I (checked_by I (cond b (events.End Cut) (event_of I fs d.action)))
        by true = record { is = tt }
        by false = event_fits P I w.mark fs d.action t.is

    on_them : (fs : List Frame) → FitsRegion I (checked_by I (event_on_frames P I s.world fs))
    on_them [] = record { is = tt }
    on_them (f ∷ fs) = cut s.world fs (deed_at P I s.world f fs) (deed_bounded P I s.world f fs)

    go : (o : Option Ending) → FitsRegion I (cond (is_some o) None (checked_by I (event_on_ending P I s o)))
    go (Some e) = record { is = tt }
    go None = on_them s.frames

pub check_fits : (P : Program) (I : Input) (n : ℕ) (range : Range) → next_check P I (run P I n) ≡ Some range
    → range.offset + range.size ≤ length I.image
check_fits P I n range e = (subst (FitsRegion I) e (next_fits P I (run P I n))).is

-- ---- so each byte that a check without a report checked survives

pub checked_survives : (P : Program) → IsSound P → (I : Input) → IsValid P I → (n : ℕ) (range : Range)
    → next_check P I (run P I n) ≡ Some range → check_reports (run P I n) (Some range) ≡ []
    → (b : ℕ) → range.offset ≤ b → b < range.offset + range.size → Survives P I (run P I n) b
checked_survives P s I v n range e none b low high =
    tight_survives P s I v n b (omega (arith, check_fits P I n range e, high))
    (loose_reported P I n range none b low high)
