-- Each byte of a checked range survives, or a report of the check names the store that was the last over it.
use Rattle.std.proofs.Common.{◌≡◌, ◌⊎◌, inl, inr, ℕ, ◌+◌, ◌/◌, ◌<◌, ◌≤◌, Bool, true, false, nat_le, nat_lt, Option, Some, None, slice_get, refl, subst, arith}
use Rattle.std.proofs.lemmas.Bool.Decides.{nat_tests}
use Rattle.hip_tree.specs.declared.program.Program.{Program}
use Rattle.hip_lines.specs.Line.{Line}
use Rattle.hip_lines.specs.Loose.{IsLastOver, last_over}
use Rattle.hip_lines.specs.Laws.LooseLaws.{Finds, last_over-finds, last_over-place}
use Rattle.hip_sound.specs.Sound.{IsSound}
use Rattle.hip_runs.specs.Crash.{covers}
use Rattle.hip_runs.specs.Found.Reports.{Range, next_check}
use Rattle.hip_runs.specs.State.{StorePart, State}
use Rattle.hip_runs.specs.Step.{run}
use Rattle.hip_runs.specs.Validity.{IsValid}
use Rattle.hip_runs.specs.declared.input.Input.{Input}
use Rattle.hip_survival.specs.Survival.{IsLooseAt, IsReportedAt, Survives}
use Rattle.hip_survival.specs.Laws.CheckedBytes.{check_fits}
use Rattle.hip_survival.specs.Laws.ReportedBytes.{part_reported}
use Rattle.hip_survival.specs.Laws.StatedBytes.{part_of_loose}
use Rattle.hip_survival.specs.Laws.TightBytes.{tight_survives}

pub loose_byte_reported : (P : Program) (I : Input) (n : ℕ) (range : Range) (b : ℕ) → range.offset ≤ b
    → b < range.offset + range.size → IsLooseAt (run P I n) b → IsReportedAt P I n range b
loose_byte_reported P I n range b low high h =
    let r = part_reported P I n range (record { part = h.2.1; flushed = nat_lt h.2.0 h.0.flushed })
    (part_of_loose P I n b range.offset range.size low high h) in
    record { loose = h; report = r.0; there = r.1; store = r.2 }

-- Whether a byte is loose is decided.
loose_or_tight : (s : State) (b : ℕ) → IsLooseAt s b ⊎ (¬ IsLooseAt s b)
loose_or_tight s b = on_line (slice_get s.lines (b / 64)) refl
  where
    by_place : (l : Line StorePart) (k : ℕ) (x : StorePart) → slice_get s.lines (b / 64) ≡ Some l
        → IsLastOver covers l.parts b k x → (t : Bool) → nat_le l.durable k ≡ t → IsLooseAt s b ⊎ (¬ IsLooseAt s b)
    by_place l k x at last true e =
        inl (l, at, (k, x, record { last_over = last; not_durable = grind (arith, nat_tests, e) }))
    by_place l k x at last false e = inr no
      where
        no : IsLooseAt s b → ⊥
        no h =
            let same : h.0 ≡ l = let y = h.1 in let z = at in cc in
            let lo : h.0.durable ≤ h.2.0 = h.2.2.not_durable in
            let over : IsLastOver covers l.parts b h.2.0 h.2.1 =
            subst (λ (m : Line StorePart). IsLastOver covers m.parts b h.2.0 h.2.1) same h.2.2.last_over in
            let place : h.2.0 ≡ k = last_over-place covers l.parts b h.2.0 k h.2.1 x over last in
            let low : l.durable ≤ h.2.0 = subst (λ (m : Line StorePart). m.durable ≤ h.2.0) same lo in
            absurd (grind (arith, nat_tests, e, place, low))

    by_find : (l : Line StorePart) → slice_get s.lines (b / 64) ≡ Some l → (o : Option (ℕ × StorePart))
        → Finds covers l.parts b o → IsLooseAt s b ⊎ (¬ IsLooseAt s b)
    by_find l at None bare = inr (λ h.
        let same : h.0 ≡ l = let y = h.1 in let z = at in cc in
        let over = subst (λ (m : Line StorePart). IsLastOver covers m.parts b h.2.0 h.2.1) same h.2.2.last_over in
        let c = bare h.2.0 h.2.1 over.at in let d = over.over in let z : ⊥ = cc in z)
    by_find l at (Some (k, x)) last = by_place l k x at last (nat_le l.durable k) refl

    on_line : (o : Option (Line StorePart)) → slice_get s.lines (b / 64) ≡ o → IsLooseAt s b ⊎ (¬ IsLooseAt s b)
    on_line None e = inr (λ h. let y = h.1 in let z : ⊥ = cc in z)
    on_line (Some l) e = by_find l e (last_over covers b l.parts) (last_over-finds covers b l.parts)

pub survives_or_reported : (P : Program) → IsSound P → (I : Input) → IsValid P I → (n : ℕ) (range : Range)
    → next_check P I (run P I n) ≡ Some range → (b : ℕ) → range.offset ≤ b → b < range.offset + range.size
    → Survives P I (run P I n) b ⊎ IsReportedAt P I n range b
survives_or_reported P s I v n range e b low high = go (loose_or_tight (run P I n) b)
  where
    go : IsLooseAt (run P I n) b ⊎ (¬ IsLooseAt (run P I n) b) → Survives P I (run P I n) b ⊎ IsReportedAt P I n range b
    go (inl h) = inr (loose_byte_reported P I n range b low high h)
    go (inr tight) = inl (tight_survives P s I v n b (omega (arith, check_fits P I n range e, high)) tight)
