-- A run has no more steps than its limit of turns and the longest body allow, and no more entries than steps after
-- its header.
use Rattle.std.proofs.Common.{◌≡◌, ℕ, zero, suc, ◌+◌, ◌-◌, ◌*◌, ◌/◌, ◌≤◌, ◌<◌, ◌^◌, Bool, true, false, cond, List, [], ◌∷◌, length, drop, Option, Some, None, is_some, refl, sym, ap, ◌∙◌, subst, arith}
use Rattle.std.proofs.lemmas.Nat.{mul-le}
use Rattle.hip_tree.specs.declared.program.Program.{Program}
use Rattle.hip_sound.specs.Sound.{IsSound}
use Rattle.hip_runs.specs.declared.event.Ending.{Ending}
use Rattle.hip_runs.specs.Laws.NextLaws.{carry_counts}
use Rattle.hip_runs.specs.declared.input.Input.{Input}
use Rattle.hip_runs.specs.Ends.{longest, steps_left}
use Rattle.hip_runs.specs.Laws.EndLaws.{code_short, more_turns, Goes, ended, turned, moved, next_goes}
use Rattle.hip_runs.specs.Places.{code_at}
use Rattle.hip_runs.specs.State.{Frame, Counts, State}
use Rattle.hip_runs.specs.Step.{deed_at, on_frames, on_ending, step, event_at, has_entry, counted, image_lines, header_entries, start_frame, main_number, run}
use Rattle.hip_runs.specs.Laws.StepLaws.{standing-frame, counted-steps}
use Rattle.hip_runs.specs.Validity.{IsValid}
use Rattle.hip_invariants.specs.Bounds.{IsBounded, CountsFit}
use Rattle.hip_invariants.specs.Laws.Places.{first_frame}

-- ---- a step is counted

module _ (P : Program) (I : Input) where
  step_counts : (s : State) (f : Frame) (fs : List Frame) → s.world.ending ≡ None → s.frames ≡ f ∷ fs
      → (step P I s).counts ≡ counted (event_at I s.world fs (deed_at P I s.world f fs)) s.counts
  unfolding step on_ending on_frames
  step_counts s f fs going frames =
      ap (λ o. (on_ending P I s o).counts) going
      ∙ ap (λ gs. (on_frames P I s.world s.lines s.counts gs).counts) frames
      ∙ carry_counts I s.world f fs s.lines s.counts
      (counted (event_at I s.world fs (deed_at P I s.world f fs)) s.counts) (deed_at P I s.world f fs)

  step_ended : (s : State) (e : Ending) → s.world.ending ≡ Some e → step P I s ≡ s
  unfolding step on_ending
  step_ended s e q = ap (on_ending P I s) q

  -- ---- how many steps are left

  -- How many instructions of its block the top frame has left before the block's end.
  abbrev code_left : List Frame → ℕ
  code_left [] = 0
  code_left (f ∷ fs) = length (code_at P f)

  -- The most steps that a run takes while it goes on.
  abbrev most : ℕ
  most = I.limit * suc (longest P) + longest P

  -- The number of steps taken, plus the most steps that are left, is at most `most`.
  record IsWithin (n turns : ℕ) (fs : List Frame) : Type 0 where
    is : n + steps_left P I turns (code_left fs) ≤ most

  within_next : (n turns : ℕ) (f : Frame) (fs : List Frame) (s : State) → s.world.ending ≡ None
      → IsWithin n turns (f ∷ fs) → Goes P I turns (length (code_at P f)) s
      → IsWithin (suc n) s.world.turns s.frames
  within_next n turns f fs s going w (ended h) =
      absurd (let no : false ≡ true = sym (ap is_some going) ∙ h in let z : ⊥ = cc in z)
  within_next n turns f fs s going w (turned g gs frames t below) =
      subst (λ m. IsWithin (suc n) m s.frames) (sym t) (subst (IsWithin (suc n) (suc turns)) (sym frames)
      (record { is = omega (arith, w.is, more_turns I.limit turns (longest P) below, code_short P g) }))
  within_next n turns f fs s going w (moved g gs frames t l) =
      subst (λ m. IsWithin (suc n) m s.frames) (sym t)
      (subst (IsWithin (suc n) turns) (sym frames) (record { is = omega (arith, w.is, l) }))

  -- The bound holds while the run goes on.
  within_run : (n : ℕ) → (run P I n).world.ending ≡ None → IsWithin n (run P I n).world.turns (run P I n).frames
  unfolding run
  within_run zero e = record {
    is = let none : I.limit - 0 ≡ I.limit = omega arith in
        rw none (omega (arith, code_short P (start_frame (main_number P))));
  }
  within_run (suc n) e = later (run P I n).world.ending refl (λ g. within_run n g)
    where
      later : (o : Option Ending) → (run P I n).world.ending ≡ o
          → ((run P I n).world.ending ≡ None → IsWithin n (run P I n).world.turns (run P I n).frames)
          → IsWithin (suc n) (step P I (run P I n)).world.turns (step P I (run P I n)).frames
      later (Some x) q before = absurd (let no : Some x ≡ None = sym q
          ∙ sym (ap (λ (s : State). s.world.ending) (step_ended (run P I n) x q)) ∙ e in let z : ⊥ = cc in z)
      later None q before =
          let top = first_frame (run P I n).frames (standing-frame P I n) in
          within_next n (run P I n).world.turns top.0 top.1 (step P I (run P I n)) e
          (subst (IsWithin n (run P I n).world.turns) top.2 (before q)) (next_goes P I n top.0 top.1 q top.2)

  -- ---- the counts

  entry_more : (b : Bool) (n : ℕ) → cond b (suc n) n ≤ suc n
  entry_more true n = omega arith
  entry_more false n = omega arith

  -- The counts are within the bounds: the steps by the limit, and the entries by the steps.
  record AreBounded (c : Counts) : Type 0 where
    steps : c.steps ≤ suc I.limit * suc (longest P)
    entries : c.entries ≤ header_entries I + c.steps

  counts_bounded : (n : ℕ) → AreBounded (run P I n).counts
  unfolding run
  counts_bounded zero = record { steps = omega arith; entries = omega arith }
  counts_bounded (suc n) = later (run P I n).world.ending refl (counts_bounded n)
    where
      later : (o : Option Ending) → (run P I n).world.ending ≡ o → AreBounded (run P I n).counts
          → AreBounded (step P I (run P I n)).counts
      later (Some x) q before = subst (λ (s : State). AreBounded s.counts) (sym (step_ended (run P I n) x q)) before
      later None q before =
          let top = first_frame (run P I n).frames (standing-frame P I n) in
          let event = event_at I (run P I n).world top.1 (deed_at P I (run P I n).world top.0 top.1) in
          let within = within_run n q in
          subst AreBounded (sym (step_counts (run P I n) top.0 top.1 q top.2))
          (record {
            steps = omega (arith, within.is, counted-steps P I n q);
            entries = omega (arith, before.entries, entry_more (has_entry event) (run P I n).counts.entries);
          })

  one_more : (b : Bool) (m n : ℕ) → m ≤ n → cond b 1 0 + m ≤ suc n
  one_more true m n h = omega arith
  one_more false m n h = omega arith

  lines_few : (n : ℕ) (bytes : List ℕ) → image_lines n bytes ≤ n
  lines_few zero bytes = omega arith
  lines_few (suc n) bytes = one_more _ (image_lines n (drop 64 bytes)) n (lines_few n (drop 64 bytes))

  pub run_bounded : (n : ℕ) → IsBounded P I n
  run_bounded n =
      let counts = counts_bounded n in
      record {
        steps = counts.steps;
        entries = counts.entries;
        header =
            omega (arith, lines_few (length I.image / 64) I.image);
      }

  pub counts_fit : IsSound P → IsValid P I → longest P < 2 ^ 64 → (n : ℕ) → CountsFit P I n
  counts_fit sound valid short n =
      let bounded = run_bounded n in
      let product : suc I.limit * suc (longest P) ≤ suc (2 ^ 40) * 2 ^ 64 =
      mul-le (suc I.limit) (suc (longest P)) (suc (2 ^ 40)) (2 ^ 64) (omega (arith, valid.limit))
      (omega (arith, short)) in
      let image : length I.image ≤ 67108864 = omega (arith, valid.image, sound.sizes.region) in
      record {
        steps = omega (arith, bounded.steps, product);
        entries = omega (arith, bounded.entries, bounded.steps, bounded.header, product, valid.numbers, image);
      }
