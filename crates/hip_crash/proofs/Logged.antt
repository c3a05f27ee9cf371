-- A log that notes a step represents the next state.
use Rattle.std.proofs.Common.{◌≡◌, ℕ, suc, ◌+◌, zero, ◌/◌, ◌^◌, ◌<◌, ◌%◌, Bool, true, false, cond, List, length, Some, is_some, slice_get, sym, ap, ◌∙◌, subst, arith}
use Rattle.hip_tree.specs.declared.program.Program.{Program}
use Rattle.hip_lines.specs.Line.{Line, fresh_line, fresh_lines}
use Rattle.hip_runs.specs.Ends.{longest}
use Rattle.hip_runs.specs.Laws.CrashLaws.{same_size}
use Rattle.hip_runs.specs.State.{StorePart}
use Rattle.hip_sound.specs.Sound.{IsSound}
use Rattle.hip_runs.specs.Outputs.{ending_by}
use Rattle.hip_runs.specs.Step.{event, has_ended, has_entry, header_entries, run}
use Rattle.hip_runs.specs.Validity.{IsValid}
use Rattle.hip_runs.specs.declared.event.Event.{Event}
use Rattle.hip_runs.specs.declared.input.Input.{Input}
use Rattle.hip_runs.specs.Seen.{Seen, state_of}
use Rattle.hip_crash.specs.RepresentedLine.{AreKeptOf, IsKeptOf}
use Rattle.hip_crash.specs.LogState.{view_of, IsLogging}
use Rattle.hip_step.specs.Laws.WithinLaws.{event_within}
use Rattle.hip_step.specs.Within.{IsWithin}
use Rattle.hip_crash.specs.Effects.{noted}
use Rattle.hip_crash.specs.Now.{fresh}
use Rattle.hip_crash.specs.Region.{LogHasRoom, seen_at}
use Rattle.hip_crash.specs.declared.pending_change.Waiting.TheVariants as waits
use Rattle.hip_crash.specs.PendingChange.{WaitsWithin}
use Rattle.hip_crash.specs.declared.log.CrashLog.TheInside.{Inside}
use Rattle.hip_crash.specs.declared.region_log.RegionLog.{RegionLog}
use Rattle.hip_crash.proofs.Holding.{kept-fresh, kept-same}
use Rattle.hip_crash.proofs.Steps.{kept-few, kept-step, steps-fit, entries-fit, entries-next, ended-next}

module _ (x : Inside) (h : IsLogging x) where
  abbrev P : Program
  P = x.checked.now

  abbrev I : Input
  I = x.input.now

  whole : length I.image % 64 ≡ 0
  whole = omega (arith, same_size P I 0 h.valid)

  pub image-small : length I.image < 2 ^ 40
  image-small = omega (arith, h.valid.image, h.sound.sizes.region)

  -- There is room to take up what waits.
  pub has_room : (image : List ℕ) → image ≡ I.image → LogHasRoom x.region image
  has_room image e = subst (LogHasRoom x.region) (sym e) (record {
    whole = whole;
    small = omega (arith, h.valid.image, h.sound.sizes.region);
    few = kept-few P I x.taken (seen_at x.region I.image) h.valid h.kept;
  })

  -- The log still represents the state after what waits is taken up.
  pub logged-same : (image : List ℕ) → image ≡ I.image → (r : RegionLog) → ((j : ℕ) → seen_at r image j ≡ seen_at x.region image j) → WaitsWithin r.waiting image → IsLogging (record x { region = r })
  logged-same image e r same within = record {
    sound = h.sound;
    valid = h.valid;
    short = h.short;
    entries = h.entries;
    ended = h.ended;
    kept = kept-same I.image (seen_at x.region I.image) (seen_at r I.image) (run P I x.taken).lines h.kept (subst (λ xs. (j : ℕ) → seen_at r xs j ≡ seen_at x.region xs j) e same);
    within = subst (WaitsWithin r.waiting) e within;
  }

  -- The machine's event is that of the run.
  pub event-same : (m : Seen) (e : Event) → view_of x ≡ m → e ≡ event m.program m.input (state_of m) → e ≡ event P I (run P I x.taken)
  event-same m e q s = subst (λ (y : Seen). e ≡ event y.program y.input (state_of y)) (sym q) s

  pub event-within : (e : Event) → e ≡ event P I (run P I x.taken) → IsWithin I.base (length I.image) e
  event-within e q = subst (IsWithin I.base (length I.image)) (sym q) (event_within P I x.taken whole)

  module _ (on : x.ended ≡ false) where
    goes : has_ended (run P I x.taken) ≡ false
    goes = sym h.ended ∙ on

    pub taken-fit : x.taken + 1 < 2 ^ 128
    taken-fit = steps-fit P I h.sound h.valid h.short x.taken goes

    pub count-fit : (e : Event) → e ≡ event P I (run P I x.taken) → has_entry e ≡ true → x.entries + 1 < 2 ^ 128
    count-fit e q t = let fit = entries-fit P I h.sound h.valid h.short x.taken goes (ap has_entry (sym q) ∙ t) in omega (arith, fit, h.entries)

    -- The log represents the next state after the step is noted.
    pub logged-next : (e : Event) → e ≡ event P I (run P I x.taken) → (q r : RegionLog) → (image : List ℕ) → image ≡ I.image → ((j : ℕ) → seen_at q image j ≡ seen_at x.region image j)
        → ((j : ℕ) → seen_at r I.image j ≡ noted I.base e j (seen_at q I.image j)) → WaitsWithin r.waiting I.image
        → (entries : ℕ) → entries ≡ cond (has_entry e) (suc x.entries) x.entries → (ended : Bool) → ended ≡ is_some (ending_by e)
        → IsLogging (record x { taken = x.taken + 1; entries = entries; ended = ended; region = r })
    logged-next e s q r image i same seen within entries count ended ends = record {
      sound = h.sound;
      valid = h.valid;
      short = h.short;
      entries = count ∙ ap (λ y. cond (has_entry y) (suc x.entries) x.entries) s ∙ ap (λ n. cond (has_entry (event P I (run P I x.taken))) (suc n) n) h.entries ∙ sym (entries-next P I h.sound h.valid h.short x.taken goes) ∙ ap (λ n. (run P I n).counts.entries) one;
      ended = ends ∙ ap (λ y. is_some (ending_by y)) s ∙ sym (ended-next P I x.taken) ∙ ap (λ n. has_ended (run P I n)) one;
      kept = subst (λ n. AreKeptOf I.image (seen_at r I.image) (run P I n).lines) one (kept-step P I x.taken (seen_at x.region I.image) (seen_at r I.image) h.kept after);
      within = within;
    }
      where
        one : suc x.taken ≡ x.taken + 1
        one = omega arith

        after : (j : ℕ) → seen_at r I.image j ≡ noted I.base (event P I (run P I x.taken)) j (seen_at x.region I.image j)
        after j = seen j ∙ ap (λ y. noted I.base y j (seen_at q I.image j)) s ∙ ap (noted I.base (event P I (run P I x.taken)) j) (subst (λ xs. seen_at q xs j ≡ seen_at x.region xs j) i (same j))

-- ---- the first state

fresh-at : (n j : ℕ) (l : Line StorePart) → slice_get (fresh_lines {P = StorePart} n) j ≡ Some l → (l ≡ fresh_line) × (j < n)
unfolding fresh_lines
fresh-at zero j l e = absurd (let z : ⊥ = cc in z)
fresh-at (suc n) zero l e = (let q : l ≡ fresh_line = cc in q, omega arith)
fresh-at (suc n) (suc j) l e = let r = fresh-at n j l e in (r.0, omega (arith, r.1))

pub logged-start : (x : Inside) → IsSound x.checked.now → IsValid x.checked.now x.input.now → longest x.checked.now < 2 ^ 64 → x.taken ≡ 0 → x.entries ≡ header_entries x.input.now → x.ended ≡ false
    → ((image : List ℕ) → (j : ℕ) → seen_at x.region image j ≡ fresh image j) → x.region.waiting ≡ waits.Nothing → IsLogging x
unfolding run
logged-start x sound valid short taken entries ended seen idle = record {
  sound = sound;
  valid = valid;
  short = short;
  entries = entries ∙ ap (λ n. (run x.checked.now x.input.now n).counts.entries) (sym taken);
  ended = ended ∙ ap (λ n. has_ended (run x.checked.now x.input.now n)) (sym taken);
  kept = subst (λ n. AreKeptOf x.input.now.image (seen_at x.region x.input.now.image) (run x.checked.now x.input.now n).lines) (sym taken) (record {
    are = λ j l e.
        let f = fresh-at (length x.input.now.image / 64) j l e in
        subst (λ k. IsKeptOf x.input.now.image j k l) (sym (seen x.input.now.image j))
        (subst (IsKeptOf x.input.now.image j (fresh x.input.now.image j)) (sym f.0) (kept-fresh x.input.now.image j (omega (arith, f.1))));
  });
  within = subst (λ w. WaitsWithin w x.input.now.image) (sym idle) tt;
}
