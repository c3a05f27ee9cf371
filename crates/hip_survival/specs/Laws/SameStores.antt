-- Two runs side by side, whose cache lines have the same parts at corresponding states: parts at the same place are of
-- corresponding stores, no byte is loose in the second run alone, and for each report of the second run the first has
-- one of the same store.
use Rattle.std.proofs.Common.{◌≡◌, ◌⊎◌, inl, inr, ℕ, suc, ◌/◌, ◌<◌, ◌≤◌, nat_lt, List, map, Option, Some, None, slice_get, refl, sym, ap, ◌∙◌, subst, arith}
use Rattle.hip_tree.specs.declared.program.Program.{Program}
use Rattle.hip_lines.specs.Line.{Line, map_line}
use Rattle.hip_lines.specs.Loose.{IsLastOver, IsLooseBy}
use Rattle.hip_lines.specs.Laws.LooseLaws.{get-map, get-of_map, loose-map_line, map_line-loose}
use Rattle.hip_runs.specs.Crash.{covers}
use Rattle.hip_runs.specs.Found.Reports.{LoosePart, Range, check_reports}
use Rattle.hip_runs.specs.Found.Tags.{IsLoosePart}
use Rattle.hip_runs.specs.State.{StorePart}
use Rattle.hip_runs.specs.Step.{run}
use Rattle.hip_runs.specs.StoredParts.Parts.{In}
use Rattle.hip_runs.specs.declared.input.Input.{Input}
use Rattle.hip_runs.specs.declared.report.Report.{Report}
use Rattle.hip_repairs.specs.Harmless.{Content, contents}
use Rattle.hip_survival.specs.Survival.{IsLooseAt, IsOfStep}
use Rattle.hip_survival.specs.Laws.Places.{HasPlace, at_time, made_before, one_store}
use Rattle.hip_survival.specs.Laws.ReportedBytes.{part_reported, reported_part}
use Rattle.hip_survival.specs.Kept.{HasReportOf, IsAsDurable}
use Rattle.hip_survival.specs.Laws.SeenLines.{content_of, content_covers}

abbrev Lines : Type 0
Lines = List (Line StorePart)

-- ---- lines with the same contents

-- The line of the second list at the place of a line of the first.
pub same_line : (ls ls' : Lines) → map contents ls ≡ map contents ls' → (m : ℕ) (l : Line StorePart)
    → slice_get ls m ≡ Some l
    → (l' : Line StorePart) × (slice_get ls' m ≡ Some l') × (contents l' ≡ contents l)
same_line ls ls' same m l e =
    let seen : slice_get (map contents ls') m ≡ Some (contents l) =
    ap (λ (cs : List (List Content)). slice_get cs m) (sym same) ∙ get-map contents ls m l e in
    get-of_map contents ls' m (contents l) seen

-- The part of the second line at the place of a part of the first.
pub same_part : (l l' : Line StorePart) → contents l' ≡ contents l → (k : ℕ) (x : StorePart)
    → slice_get l.parts k ≡ Some x
    → (x' : StorePart) × (slice_get l'.parts k ≡ Some x')
same_part l l' same k x e =
    let seen : slice_get (contents l') k ≡ Some (content_of x) =
    ap (λ (cs : List Content). slice_get cs k) same ∙ get-map content_of l.parts k x e in
    let r = get-of_map content_of l'.parts k (content_of x) seen in
    (r.0, r.1)

same_place : (ls ls' : Lines) → map contents ls ≡ map contents ls' → (m k t : ℕ)
    → HasPlace (slice_get ls m) k t
    → (u : ℕ) × HasPlace (slice_get ls' m) k u
same_place ls ls' same m k t h = go (slice_get ls m) refl h
  where
    go : (o : Option (Line StorePart)) → slice_get ls m ≡ o → HasPlace o k t
        → (u : ℕ) × HasPlace (slice_get ls' m) k u
    go None e h = absurd h.there
    go (Some l) e h =
        let r = same_line ls ls' same m l e in
        let x = same_part l r.0 r.2 k h.part h.there in (
          x.0.step,
          subst (λ o. HasPlace o k x.0.step) (sym r.1) (record { part = x.0; there = x.1; step_is = refl }),
        )

-- If the second line has at most as many durable parts as the first, a byte that is loose in the first line is loose in
-- the second by the part at the same place.
same_loose : (l l' : Line StorePart) → contents l' ≡ contents l → l'.durable ≤ l.durable
    → (b k : ℕ) (x : StorePart)
    → IsLooseBy covers l b k x → (x' : StorePart) × IsLooseBy covers l' b k x'
same_loose l l' same less b k x h =
    let seen = loose-map_line content_of content_covers l b k x h in
    let there : IsLooseBy content_covers (map_line content_of l') b k (content_of x) = record {
      last_over =
          subst (λ (ps : List Content). IsLastOver content_covers ps b k (content_of x)) (sym same) seen.last_over;
      not_durable = omega (arith, less, h.not_durable);
    } in
    let back = map_line-loose content_of content_covers l' b k (content_of x) there in
    (back.0, back.1)

-- ---- two runs

module _ (P Q : Program) (I : Input) (steps_of : ℕ → ℕ)
    (onward : (n : ℕ) → (steps_of (suc n) ≡ steps_of n) ⊎ (steps_of (suc n) ≡ suc (steps_of n)))
    (same : (n : ℕ) → map contents (run Q I n).lines ≡ map contents (run P I (steps_of n)).lines)
    (durable : (n : ℕ) → IsAsDurable (run P I (steps_of n)) (run Q I n)) where
  there : (n m k t : ℕ) → HasPlace (slice_get (run Q I n).lines m) k t
      → (u : ℕ) × HasPlace (slice_get (run P I (steps_of n)).lines m) k u
  there n m k t h = same_place (run Q I n).lines (run P I (steps_of n)).lines (same n) m k t h

  back : (n m k t : ℕ) → HasPlace (slice_get (run P I (steps_of n)).lines m) k t
      → (u : ℕ) × HasPlace (slice_get (run Q I n).lines m) k u
  back n m k t h = same_place (run P I (steps_of n)).lines (run Q I n).lines (sym (same n)) m k t h

  -- The parts at the same place of both runs' lines were stored in corresponding steps.
  pub same_step : (n m k t u : ℕ) → HasPlace (slice_get (run Q I n).lines m) k t
      → HasPlace (slice_get (run P I (steps_of n)).lines m) k u → u ≡ steps_of t
  same_step n m k t u a b = by (onward t) (order (steps_of t) u)
    where
      after : (v : ℕ) × HasPlace (slice_get (run P I (steps_of (suc t))).lines m) k v
      after = there (suc t) m k t (at_time m k Q I n t a (suc t) (omega arith))

      upper : u < steps_of (suc t)
      upper =
          let one : after.0 ≡ u = one_store m k P I (steps_of (suc t)) after.0 (steps_of n) u after.1 b in
          let lt : after.0 < steps_of (suc t) = made_before m k P I (steps_of (suc t)) after.0 after.1 in
          omega (arith, one, lt)

      lower : u < steps_of t → ⊥
      lower lt =
          let before = back t m k u (at_time m k P I (steps_of n) u b (steps_of t) lt) in
          let one : before.0 ≡ t = one_store m k Q I t before.0 n t before.1 a in
          let less : before.0 < t = made_before m k Q I t before.0 before.1 in
          omega (arith, one, less)

      order : (a b : ℕ) → (a ≤ b) ⊎ (b < a)
      order a b = grind arith

      by : (steps_of (suc t) ≡ steps_of t) ⊎ (steps_of (suc t) ≡ suc (steps_of t))
          → (steps_of t ≤ u) ⊎ (u < steps_of t) → u ≡ steps_of t
      by o (inr lt) = absurd (lower lt)
      by (inl e) (inl le) = absurd (omega (arith, e, le, upper))
      by (inr e) (inl le) = omega (arith, e, le, upper)

  -- The line of P's run at the place of one of Q's, and how much of it is durable.
  pub line_there : (n m : ℕ) (l' : Line StorePart) → slice_get (run Q I n).lines m ≡ Some l'
      → (l : Line StorePart) × (slice_get (run P I (steps_of n)).lines m ≡ Some l) × (contents l ≡ contents l')
      × (l.durable ≤ l'.durable)
  line_there n m l' e =
      let r = same_line (run Q I n).lines (run P I (steps_of n)).lines (same n) m l' e in
      (r.0, r.1, r.2, (durable n m r.0 l' r.1 e).1)

  -- A byte that is loose in Q's run is loose in P's.
  pub loose_there : (n b : ℕ) → IsLooseAt (run Q I n) b → IsLooseAt (run P I (steps_of n)) b
  loose_there n b h =
      let r = line_there n (b / 64) h.0 h.1 in
      let x = same_loose h.0 r.0 r.2 r.3 b h.2.0 h.2.1 h.2.2 in
      (r.0, r.1, (h.2.0, x.0, x.1))

  -- For each report of Q's run P's run has one of the same store.
  pub report_there : (n : ℕ) (range : Range) (r' : Report) → In r' (check_reports (run Q I n) (Some range))
      → HasReportOf P Q I steps_of n range r'
  report_there n range r' i =
      let of = reported_part Q I n range r' i in
      let h = of.loose in
      let r = line_there n h.line h.of h.line_at in
      let x = same_loose h.of r.0 r.2 r.3 h.byte h.place of.part.part h.loose in
      let p : LoosePart = record { part = x.0; flushed = nat_lt h.place r.0.flushed } in
      let loose : IsLoosePart range.offset range.size x.0.step (run P I (steps_of n)).lines p = record {
        line = h.line;
        of = r.0;
        place = h.place;
        byte = h.byte;
        line_at = r.1;
        loose = x.1;
        low = h.low;
        high = h.high;
        step = refl;
        flushed = refl;
      } in
      let found = part_reported P I (steps_of n) range p loose in
      let there' : HasPlace (slice_get (run Q I n).lines h.line) h.place of.part.part.step =
      subst (λ o. HasPlace o h.place of.part.part.step) (sym h.line_at)
      (record { part = of.part.part; there = h.loose.last_over.at; step_is = refl }) in
      let here : HasPlace (slice_get (run P I (steps_of n)).lines h.line) h.place x.0.step =
      subst (λ o. HasPlace o h.place x.0.step) (sym r.1)
      (record { part = x.0; there = x.1.last_over.at; step_is = refl }) in
      let step : x.0.step ≡ steps_of of.part.part.step =
      same_step n h.line h.place of.part.part.step x.0.step there' here in
      record {
        report = found.0;
        there = found.1;
        step = of.part.part.step;
        store' = of.store;
        store = subst (λ t. IsOfStep P I t found.0) step found.2;
      }
