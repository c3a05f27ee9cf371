-- Silent steps print nothing and do not end the run.
use Rattle.std.proofs.Common.{◌≡◌, ℕ, zero, suc, ◌+◌, ◌<◌, true, [], ◌++◌, None, append-nil, refl, ap, ◌∙◌, arith}
use Rattle.hip_tree.specs.declared.program.Program.{Program}
use Rattle.hip_runs.specs.Laws.OutputLaws.{run_stated}
use Rattle.hip_runs.specs.Outputs.{ending_by, printed_by}
use Rattle.hip_runs.specs.Step.{event, run}
use Rattle.hip_runs.specs.declared.event.Event.{Event}
use Rattle.hip_runs.specs.declared.event.Event.TheVariants as events
use Rattle.hip_runs.specs.declared.input.Input.{Input}
use Rattle.hip_runner.specs.Silent.{is_silent}

-- A silent event prints nothing.
pub prints_nothing : (e : Event) → is_silent e ≡ true → printed_by e ≡ []
prints_nothing events.Quiet s = refl
prints_nothing (events.Print z) s = absurd (let z : ⊥ = cc in z)
prints_nothing (events.Store a v n) s = refl
prints_nothing (events.Flush line n) s = refl
prints_nothing (events.Persist line n) s = refl
prints_nothing events.Fence s = refl
prints_nothing (events.Assert a n) s = refl
prints_nothing (events.End e) s = absurd (let z : ⊥ = cc in z)

-- A silent event is not an ending.
pub ends_nothing : (e : Event) → is_silent e ≡ true → ending_by e ≡ None
ends_nothing events.Quiet s = refl
ends_nothing (events.Print z) s = refl
ends_nothing (events.Store a v n) s = refl
ends_nothing (events.Flush line n) s = refl
ends_nothing (events.Persist line n) s = refl
ends_nothing events.Fence s = refl
ends_nothing (events.Assert a n) s = refl
ends_nothing (events.End e) s = absurd (let z : ⊥ = cc in z)

module _ (P : Program) (I : Input) where
  -- After a silent step the run goes on.
  pub silent_goes_on : (n : ℕ) → is_silent (event P I (run P I n)) ≡ true
      → (run P I (suc n)).world.ending ≡ None
  silent_goes_on n s = (run_stated P I n).ending ∙ ends_nothing (event P I (run P I n)) s

  -- The output after a silent step is the output before it.
  silent_prints : (n : ℕ) → is_silent (event P I (run P I n)) ≡ true
      → (run P I (suc n)).world.output ≡ (run P I n).world.output
  silent_prints n s =
      (run_stated P I n).output
      ∙ ap (λ text. (run P I n).world.output ++ text) (prints_nothing (event P I (run P I n)) s)
      ∙ append-nil (run P I n).world.output

  -- Silent steps print nothing.
  pub same_output : (start k : ℕ) → ((n : ℕ) → n < k → is_silent (event P I (run P I (start + n))) ≡ true)
      → (run P I (start + k)).world.output ≡ (run P I start).world.output
  same_output start zero silent = ap (λ n. (run P I n).world.output) (let e : start + 0 ≡ start = omega arith in e)
  same_output start (suc k) silent =
      ap (λ n. (run P I n).world.output) (let e : start + suc k ≡ suc (start + k) = omega arith in e)
      ∙ silent_prints (start + k) (silent k (omega arith))
      ∙ same_output start k (λ n lt. silent n (omega (arith, lt)))

  -- After silent steps a run that had not ended goes on.
  pub still_going : (start k : ℕ) → (run P I start).world.ending ≡ None
      → ((n : ℕ) → n < k → is_silent (event P I (run P I (start + n))) ≡ true)
      → (run P I (start + k)).world.ending ≡ None
  still_going start zero going silent =
      ap (λ n. (run P I n).world.ending) (let e : start + 0 ≡ start = omega arith in e) ∙ going
  still_going start (suc k) going silent =
      ap (λ n. (run P I n).world.ending) (let e : start + suc k ≡ suc (start + k) = omega arith in e)
      ∙ silent_goes_on (start + k) (silent k (omega arith))
