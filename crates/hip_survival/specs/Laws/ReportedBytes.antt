-- The reports of a check are of the stores of its loose parts. Each is of a byte that has, in some crash image, the
-- value before the report's store.
use Rattle.std.proofs.Common.{◌≡◌, inl, inr, ℕ, suc, ◌/◌, ◌<◌, ◌≤◌, Bool, true, false, cond, nat_eq, List, [], ◌∷◌, length, take, Some, slice_get, slice_index, refl, sym, ap, ◌∙◌, subst, arith}
use Rattle.std.specs.List.{range_with_len}
use Rattle.hip_tree.specs.declared.program.Program.{Program}
use Rattle.hip_lines.specs.Image.{byte_after, parts_of, IsPick}
use Rattle.hip_lines.specs.Line.{Line}
use Rattle.hip_lines.specs.Laws.LooseLaws.{get-below}
use Rattle.hip_sound.specs.Sound.{IsSound}
use Rattle.hip_runs.specs.Crash.{covers, byte_of, crash_image}
use Rattle.hip_runs.specs.Found.Reports.{LoosePart, Range, loose_parts, report_by, report_of, reports_for, check_reports}
use Rattle.hip_runs.specs.Found.Tags.{IsLoosePart}
use Rattle.hip_runs.specs.Laws.CrashLaws.{choice-image, same_size}
use Rattle.hip_runs.specs.Laws.Found.LooseBytes.{loose_part, loose_there, part_loose}
use Rattle.hip_runs.specs.Laws.HistoryLaws.{has_history, lines_ordered}
use Rattle.hip_runs.specs.Laws.LineOrder.{in_lines}
use Rattle.hip_runs.specs.Laws.Members.{equal_true, of_flat, to_flat, true_equal}
use Rattle.hip_runs.specs.Laws.StoreLaws.{part-of_store}
use Rattle.hip_runs.specs.State.{Level, StorePart, levels_of}
use Rattle.hip_runs.specs.Step.{run}
use Rattle.hip_runs.specs.StoredParts.Parts.{In, PartOf}
use Rattle.hip_runs.specs.StoredParts.Since.{stores}
use Rattle.hip_runs.specs.Validity.{IsValid}
use Rattle.hip_runs.specs.declared.event.Event.{Event}
use Rattle.hip_runs.specs.declared.input.Input.{Input}
use Rattle.hip_runs.specs.declared.report.Report.{Report}
use Rattle.hip_survival.specs.Survival.{IsOfByte, IsOfStep, parts_over}
use Rattle.hip_survival.specs.Laws.CheckedBytes.{in_range}
use Rattle.hip_survival.specs.Laws.DurableParts.{last_value}
use Rattle.hip_survival.specs.Laws.WholeImage.{durable_alone, durable_picked, image_byte}
use Rattle.hip_survival.specs.Laws.WorkingBytes.{has_all_parts}

-- A report is made from loose parts, and is of the store of one of them.
pub of_loose_part : (standing : List Level) (check : ℕ) (r : Report) (ps : List LoosePart)
    → In r (report_of standing check ps) → (p : LoosePart) × In p ps × (r.entry ≡ p.part.entry)
of_loose_part standing check r [] i = absurd i
of_loose_part standing check r (p ∷ ps) (inl e) = (p, inl refl, ap (λ (x : Report). x.entry) e)
of_loose_part standing check r (p ∷ ps) (inr i) = absurd i

-- A report with the entry of a part is of the part's store.
of_step : (P : Program) (I : Input) (n : ℕ) (x : StorePart) (r : Report) → PartOf (run P I n).lines x
    → r.entry ≡ x.entry → IsOfStep P I x.step r
of_step P I n x r there e =
    let o = part-of_store P I n x there in
    record { store = ap (λ (v : Event). stores v) o.stored; entry = e ∙ o.entry }

-- A report of a check is of the store of a part that is loose in the range.
pub record IsOfLoosePart (P : Program) (I : Input) (n : ℕ) (range : Range) (r : Report) : Type 0 where
  pub part : LoosePart
  pub loose : IsLoosePart range.offset range.size part.part.step (run P I n).lines part
  pub store : IsOfStep P I part.part.step r

pub reported_part : (P : Program) (I : Input) (n : ℕ) (range : Range) (r : Report)
    → In r (check_reports (run P I n) (Some range)) → IsOfLoosePart P I n range r
reported_part P I n range r i =
    let found = of_flat (reports_for (run P I n) range) (range_with_len 0 (run P I n).counts.steps) r i in
    let made = found.1 in
    let of = of_loose_part (levels_of (run P I n).frames) _ r
    (loose_parts range.offset range.size (run P I n).lines made) found.3 in
    let loose = part_loose range.offset range.size made (run P I n).lines of.0 of.1 in
    record {
      part = of.0;
      loose = subst (λ m. IsLoosePart range.offset range.size m (run P I n).lines of.0) (sym loose.step) loose;
      store =
          of_step P I n of.0.part r (loose_there range.offset range.size made (run P I n).lines of.0 loose) of.2;
    }

pub report_step : (P : Program) (I : Input) (n : ℕ) (range : Range) (r : Report)
    → In r (check_reports (run P I n) (Some range)) → (step : ℕ) × IsOfStep P I step r
report_step P I n range r i = let of = reported_part P I n range r i in (of.part.part.step, of.store)

-- Each part that is loose in the range has a report of its store.
pub part_reported : (P : Program) (I : Input) (n : ℕ) (range : Range) (p : LoosePart)
    → IsLoosePart range.offset range.size p.part.step (run P I n).lines p
    → (r : Report) × In r (check_reports (run P I n) (Some range)) × IsOfStep P I p.part.step r
part_reported P I n range p is =
    met (loose_parts range.offset range.size (run P I n).lines p.part.step) refl
    (loose_part range.offset range.size p.part.step (run P I n).lines p is)
  where
    met : (ps : List LoosePart) → loose_parts range.offset range.size (run P I n).lines p.part.step ≡ ps → In p ps
        → (r : Report) × In r (check_reports (run P I n) (Some range)) × IsOfStep P I p.part.step r
    met [] e i = absurd i
    met (q ∷ qs) e i =
        let r : Report = report_by (levels_of (run P I n).frames) (suc (run P I n).counts.entries) q.part (q ∷ qs) in
        let first : In q (loose_parts range.offset range.size (run P I n).lines p.part.step) =
        subst (In q) (sym e) (inl refl) in
        let loose = part_loose range.offset range.size p.part.step (run P I n).lines q first in
        let here : In r (reports_for (run P I n) range p.part.step) =
        subst (λ xs. In r (report_of (levels_of (run P I n).frames) (suc (run P I n).counts.entries) xs)) (sym e)
        (inl refl) in
        let made : p.part.step < (run P I n).counts.steps =
        (has_history P I n).made p.part (loose_there range.offset range.size p.part.step (run P I n).lines p is) in
        let at = in_range (run P I n).counts.steps 0 p.part.step (omega arith) (omega (arith, made)) in (
          r,
          to_flat (reports_for (run P I n) range) (range_with_len 0 (run P I n).counts.steps) r at.0 p.part.step at.1
              here,
          subst (λ t. IsOfStep P I t r) loose.step
              (of_step P I n q.part r (loose_there range.offset range.size p.part.step (run P I n).lines q loose) refl),
        )

module _ (P : Program) (I : Input) (n : ℕ) where
  -- The pick of the parts before a place in one line, and of the durable parts alone in each other line.
  abbrev pick_before : ℕ → ℕ → ℕ → ℕ
  pick_before line place j = cond (nat_eq j line) place (durable_alone (run P I n) j)

  before_picked : (line place : ℕ) (l : Line StorePart) → slice_get (run P I n).lines line ≡ Some l
      → l.durable ≤ place → place ≤ length l.parts
      → IsPick covers byte_of (run P I n).lines (pick_before line place)
  before_picked line place l at low high j m e = go (nat_eq j line) refl
    where
      go : (b : Bool) → nat_eq j line ≡ b
          → (m.durable ≤ cond b place (durable_alone (run P I n) j))
          × (cond b place (durable_alone (run P I n) j) ≤ length m.parts)
      go true t =
          let there : slice_get (run P I n).lines line ≡ Some m =
          ap (slice_get (run P I n).lines) (sym (equal_true j line t)) ∙ e in
          let same : l ≡ m = cc in (
            subst (λ (x : Line StorePart). x.durable ≤ place) same low,
            subst (λ (x : Line StorePart). place ≤ length x.parts) same high,
          )
      go false t = durable_picked (run P I n).lines (lines_ordered P I n) j m e

pub reported_byte : (P : Program) → IsSound P → (I : Input) → IsValid P I
    → (n : ℕ) (range : Range) (r : Report)
    → In r (check_reports (run P I n) (Some range)) → IsOfByte P I (run P I n) range r
reported_byte P s I v n range r i =
    let of = reported_part P I n range r i in
    let h = of.loose in
    let line : h.byte / 64 ≡ h.line =
    in_lines P I n h.line h.of h.place of.part.part h.line_at h.loose.last_over.at h.byte h.loose.last_over.over in
    let at : slice_get (run P I n).lines (h.byte / 64) ≡ Some h.of =
    ap (slice_get (run P I n).lines) line ∙ h.line_at in
    let there : h.byte / 64 < length (run P I n).lines = get-below (run P I n).lines (h.byte / 64) h.of at in
    let lt : h.byte < length I.image = omega (arith, there, same_size P I n v) in
    let below : h.place < length h.of.parts = get-below h.of.parts h.place of.part.part h.loose.last_over.at in
    let pick : ℕ → ℕ = pick_before P I n (h.byte / 64) h.place in
    record {
      byte = h.byte;
      low = h.low;
      high = h.high;
      line = h.of;
      at = at;
      place = h.place;
      part = of.part.part;
      loose = h.loose;
      store = of.store;
      working =
          has_all_parts P s I v n h.byte lt
          ∙ ap (λ o. byte_after covers byte_of (parts_of covers byte_of o) h.byte (slice_index I.image h.byte)) at
          ∙ last_value covers byte_of h.of.parts h.byte h.place of.part.part (slice_index I.image h.byte)
          h.loose.last_over;
      content = crash_image I (run P I n) pick;
      image =
          choice-image P I n pick v
          (before_picked P I n (h.byte / 64) h.place h.of at h.loose.not_durable (omega (arith, below)));
      before =
          image_byte I (run P I n) pick h.byte lt
          ∙ ap (λ b. byte_after covers byte_of (take (cond b h.place (durable_alone (run P I n) (h.byte / 64)))
          (parts_over (run P I n) h.byte)) h.byte (slice_index I.image h.byte))
          (true_equal (h.byte / 64) (h.byte / 64) refl)
          ∙ ap (λ o. byte_after covers byte_of (take h.place (parts_of covers byte_of o)) h.byte
          (slice_index I.image h.byte)) at;
    }
