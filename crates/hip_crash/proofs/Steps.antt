-- What a log keeps follows the steps of the run.
use Rattle.std.proofs.Common.{◌≡◌, ℕ, zero, suc, ◌+◌, ◌-◌, ◌*◌, ◌^◌, ◌<◌, ◌≤◌, true, false, cond, List, [], ◌∷◌, length, drop, Option, Some, None, is_some, slice_get, refl, sym, ap, ◌∙◌, subst, arith, length-drop}
use Rattle.hip_tree.specs.declared.program.Program.{Program}
use Rattle.hip_tree.specs.declared.site.Site.{Site}
use Rattle.hip_invariants.specs.Laws.Bounds.{counts_fit}
use Rattle.hip_lines.specs.Line.{Line, AreOrdered, has_bytes}
use Rattle.hip_lines.specs.Laws.LineLaws.{ordered-at}
use Rattle.hip_types.specs.Bytes.{bytes_of}
use Rattle.hip_runs.specs.Ends.{longest}
use Rattle.hip_runs.specs.Laws.HistoryLaws.{lines_ordered}
use Rattle.hip_runs.specs.Laws.NextLaws.{next_lines, counts-next}
use Rattle.hip_runs.specs.Laws.OutputLaws.{run_stated}
use Rattle.hip_runs.specs.Laws.StepLaws.{ordered-flushed_by, length-lines, counted-steps}
use Rattle.hip_runs.specs.Outputs.{ending_by}
use Rattle.hip_runs.specs.State.{Counts, Level, StorePart, levels_of}
use Rattle.hip_runs.specs.Step.{counted, event, has_ended, has_entry, run}
use Rattle.hip_runs.specs.StoredParts.After.{flush_at, flushed_by, lines_after}
use Rattle.hip_runs.specs.StoredParts.Persistence.{part_of_store}
use Rattle.hip_runs.specs.Validity.{IsValid}
use Rattle.hip_runs.specs.declared.event.Ending.{Ending}
use Rattle.hip_runs.specs.declared.event.Event.{Event}
use Rattle.hip_runs.specs.declared.event.Event.TheVariants as events
use Rattle.hip_runs.specs.declared.input.Input.{Input}
use Rattle.hip_sound.specs.Sound.{IsSound}
use Rattle.hip_step.specs.Laws.WithinLaws.{site_there}
use Rattle.hip_crash.specs.RepresentedLine.{AreKeptOf}
use Rattle.hip_crash.specs.Kept.{Kept, with_flush}
use Rattle.hip_crash.specs.Effects.{noted}
use Rattle.hip_crash.proofs.FewParts.{few_parts}
use Rattle.hip_crash.proofs.Holding.{alike-length, alike-store, kept-stored, kept-flushed, kept-fenced, kept-same}

-- ---- lines after a step

module _ (I : Input) (counts : Counts) (t : Site) (levels : List Level) (ls : List (Line StorePart)) (see see' : ℕ → Kept) (ordered : AreOrdered ls) (h : AreKeptOf I.image see ls) where
  pub kept-noted : (e : Event) → ((j : ℕ) → see' j ≡ noted I.base e j (see j)) → AreKeptOf I.image see' (lines_after I e counts (Some t) levels ls)
  kept-noted events.Quiet q = kept-same I.image see see' ls h q
  kept-noted (events.Print z) q = kept-same I.image see see' ls h q
  kept-noted (events.Store a v n) q = kept-stored I.image see see' ls ordered h (record { offset = a - I.base; value = v; size = n }) (part_of_store counts t levels (a - I.base) (bytes_of n v)) (λ j. alike-store (a - I.base) n v j counts t levels) q
  kept-noted (events.Flush line size) q = kept-flushed I.image see see' ls ordered h (flush_at counts t) (line - I.base) size q
  kept-noted (events.Persist line size) q =
      let flushed = λ (j : ℕ). cond (has_bytes j (line - I.base) size) (with_flush (see j)) (see j) in
      kept-fenced I.image flushed see' (flushed_by I (flush_at counts t) line size ls) (ordered-flushed_by I (flush_at counts t) line size ls ordered) (kept-flushed I.image see flushed ls ordered h (flush_at counts t) (line - I.base) size (λ j. refl)) q
  kept-noted events.Fence q = kept-fenced I.image see see' ls ordered h q
  kept-noted (events.Assert a n) q = kept-same I.image see see' ls h q
  kept-noted (events.End e) q = kept-same I.image see see' ls h q

pub kept-step : (P : Program) (I : Input) (n : ℕ) (see see' : ℕ → Kept) → AreKeptOf I.image see (run P I n).lines → ((j : ℕ) → see' j ≡ noted I.base (event P I (run P I n)) j (see j)) → AreKeptOf I.image see' (run P I (suc n)).lines
kept-step P I n see see' h q =
    let t = site_there P I n in
    let s = run P I n in
    subst (AreKeptOf I.image see') (sym (next_lines P I n ∙ ap (λ o. lines_after I (event P I s) s.counts o (levels_of s.frames) s.lines) t.1))
    (kept-noted I s.counts t.0 (levels_of s.frames) s.lines see see' (lines_ordered P I n) h (event P I s) q)

-- ---- bounds

pub get_there : (ls : List (Line StorePart)) (j : ℕ) → j < length ls → (l : Line StorePart) × (slice_get ls j ≡ Some l)
get_there [] j h = absurd (omega (arith, h))
get_there (l ∷ ls) zero h = (l, refl)
get_there (l ∷ ls) (suc j) h = get_there ls j (omega (arith, h))

-- The number of parts of a line is the number of durable stores and of later stores that are kept of it.
pub kept-count : (P : Program) (I : Input) (n : ℕ) (see : ℕ → Kept) → AreKeptOf I.image see (run P I n).lines → (j : ℕ) (l : Line StorePart) → slice_get (run P I n).lines j ≡ Some l → (see j).least + length (see j).later ≡ length l.parts
kept-count P I n see h j l e =
    let k = h.are j l e in
    let o = ordered-at (run P I n).lines j l (lines_ordered P I n) e in
    omega (arith, k.least, alike-length j (see j).later (drop l.durable l.parts) k.later, length-drop l.durable l.parts, o.durable, o.flushed)

pub kept-few : (P : Program) (I : Input) (n : ℕ) (see : ℕ → Kept) → IsValid P I → AreKeptOf I.image see (run P I n).lines → (j : ℕ) → 64 * j + 64 ≤ length I.image → (see j).least + length (see j).later < 2 ^ 63
kept-few P I n see v h j low =
    let l = get_there (run P I n).lines j (omega (arith, low, length-lines P I n)) in
    omega (arith, kept-count P I n see h j l.0 l.1, few_parts P I n j l.0 l.1, v.limit)

-- ---- counts

going : (P : Program) (I : Input) (n : ℕ) → has_ended (run P I n) ≡ false → (run P I n).world.ending ≡ None
going P I n e = go (run P I n).world.ending refl
  where
    go : (o : Option Ending) → (run P I n).world.ending ≡ o → (run P I n).world.ending ≡ None
    go None q = q
    go (Some x) q = absurd (let f : true ≡ false = sym (ap is_some q) ∙ e in let z : ⊥ = cc in z)

module _ (P : Program) (I : Input) (sound : IsSound P) (valid : IsValid P I) (short : longest P < 2 ^ 64) (n : ℕ) (goes : has_ended (run P I n) ≡ false) where
  next_counts : (run P I (suc n)).counts ≡ counted (event P I (run P I n)) (run P I n).counts
  next_counts = counts-next P I n goes

  pub steps-fit : n + 1 < 2 ^ 128
  steps-fit =
      let fit = (counts_fit P I sound valid short (suc n)).steps in
      let one : (run P I (suc n)).counts.steps ≡ suc n = ap (λ (c : Counts). c.steps) next_counts ∙ ap suc (counted-steps P I n (going P I n goes)) in
      omega (arith, fit, one)

  pub entries-next : (run P I (suc n)).counts.entries ≡ cond (has_entry (event P I (run P I n))) (suc (run P I n).counts.entries) (run P I n).counts.entries
  entries-next = ap (λ (c : Counts). c.entries) next_counts

  pub entries-fit : has_entry (event P I (run P I n)) ≡ true → (run P I n).counts.entries + 1 < 2 ^ 128
  entries-fit h =
      let fit = (counts_fit P I sound valid short (suc n)).entries in
      let one : (run P I (suc n)).counts.entries ≡ suc (run P I n).counts.entries = entries-next ∙ ap (λ b. cond b (suc (run P I n).counts.entries) (run P I n).counts.entries) h in
      omega (arith, fit, one)

pub ended-next : (P : Program) (I : Input) (n : ℕ) → has_ended (run P I (suc n)) ≡ is_some (ending_by (event P I (run P I n)))
ended-next P I n = ap is_some (run_stated P I n).ending
