-- What a run prints in steps without an event and in the step with the next event, and how it ends.
use Rattle.std.proofs.Common.{◌≡◌, ℕ, zero, suc, ◌+◌, ◌<◌, cond, ◌++◌, Option, Some, None, is_some, append-nil, refl, sym, ap, ap₂, ◌∙◌, arith}
use Rattle.hip_tree.specs.declared.program.Program.{Program}
use Rattle.hip_runs.specs.Laws.OutputLaws.{PrintIsStated, run_stated, step_stated}
use Rattle.hip_runs.specs.Outputs.{ending_by, printed_by}
use Rattle.hip_runs.specs.Seen.{Seen, after_step, state_of}
use Rattle.hip_runs.specs.State.{State}
use Rattle.hip_runs.specs.Step.{event, event_on_ending, on_ending, run, step}
use Rattle.hip_runs.specs.declared.event.Ending.{Ending}
use Rattle.hip_runs.specs.declared.event.Event.{Event}
use Rattle.hip_runs.specs.declared.event.Event.TheVariants as events
use Rattle.hip_runs.specs.declared.input.Input.{Input}
use Rattle.hip_runner.specs.Quiet.{ComesTo, GoesQuietly, next_event}

module _ (P : Program) (I : Input) where
  -- After a step without an event the run goes on.
  pub quiet_goes_on : (n : ℕ) → event P I (run P I n) ≡ events.Quiet → (run P I (suc n)).world.ending ≡ None
  quiet_goes_on n q = (run_stated P I n).ending ∙ ap ending_by q

  -- A step without an event prints nothing.
  quiet_prints : (n : ℕ) → event P I (run P I n) ≡ events.Quiet
      → (run P I (suc n)).world.output ≡ (run P I n).world.output
  quiet_prints n q =
      (run_stated P I n).output ∙ ap (λ e. (run P I n).world.output ++ printed_by e) q
      ∙ append-nil (run P I n).world.output

  same_output : (start k : ℕ) → ((n : ℕ) → n < k → event P I (run P I (start + n)) ≡ events.Quiet)
      → (run P I (start + k)).world.output ≡ (run P I start).world.output
  same_output start zero quiet = ap (λ n. (run P I n).world.output) (let e : start + 0 ≡ start = omega arith in e)
  same_output start (suc k) quiet =
      ap (λ n. (run P I n).world.output) (let e : start + suc k ≡ suc (start + k) = omega arith in e)
      ∙ quiet_prints (start + k) (quiet k (omega arith))
      ∙ same_output start k (λ n lt. quiet n (omega (arith, lt)))

-- A run that takes some steps without an event has the same output after them as before.
pub quiet_output : (old new : Seen) → GoesQuietly old new
    → (state_of new).world.output ≡ (state_of old).world.output
quiet_output old new g =
    ap (λ (m : Seen). (state_of m).world.output) g.is ∙ same_output old.program old.input old.taken g.steps g.quiet

-- ---- the next event

-- One more step is the run's step.
after_step_is : (m : Seen) → state_of (after_step m) ≡ step m.program m.input (state_of m)
unfolding run step on_ending
after_step_is m = go (state_of m).world.ending refl
  where
    go : (o : Option Ending) → (state_of m).world.ending ≡ o
        → run m.program m.input (cond (is_some o) m.taken (suc m.taken))
        ≡ on_ending m.program m.input (state_of m) o
    go (Some e) q = refl
    go None q = ap (on_ending m.program m.input (state_of m)) q

-- Up to its next event a run prints what the event says, and ends as the event says.
pub comes_stated : (old new : Seen) (e : Event) → ComesTo old new e
    → PrintIsStated (state_of old).world (state_of new).world e
comes_stated old new e c =
    let at = c.before in
    let stated = step_stated at.program at.input (state_of at) in
    let there : state_of new ≡ step at.program at.input (state_of at) = ap state_of c.step ∙ after_step_is at in
    record {
      output =
          ap (λ (s : State). s.world.output) there ∙ stated.output
          ∙ ap₂ (λ text seen. text ++ printed_by seen) (quiet_output old at c.quiet) (sym c.is);
      ending = ap (λ (s : State). s.world.ending) there ∙ stated.ending ∙ ap ending_by (sym c.is);
    }

-- The event of a run that has ended is its end.
ending_then : (m : Seen) (x : Ending) → (state_of m).world.ending ≡ Some x → ending_by (next_event m) ≡ Some x
unfolding event
ending_then m x q = ap (λ o. ending_by (event_on_ending m.program m.input (state_of m) o)) q

-- To come to an event that is not an ending, a run takes at least one step.
pub comes_further : (old new : Seen) (e : Event) → ComesTo old new e → ending_by e ≡ None
    → old.taken < new.taken
comes_further old new e c going = go (state_of at).world.ending refl
  where
    at : Seen
    at = c.before

    from : at.taken ≡ old.taken + c.quiet.steps
    from = ap (λ (m : Seen). m.taken) c.quiet.is

    later : new.taken ≡ cond (is_some (state_of at).world.ending) at.taken (suc at.taken)
    later = ap (λ (m : Seen). m.taken) c.step

    ended : (x : Ending) → (state_of at).world.ending ≡ Some x → ⊥
    ended x q =
        let none : Some x ≡ None = sym (ending_then at x q) ∙ ap ending_by (sym c.is) ∙ going in
        let z : ⊥ = cc in z

    go : (o : Option Ending) → (state_of at).world.ending ≡ o → old.taken < new.taken
    go (Some x) q = absurd (ended x q)
    go None q =
        let next : new.taken ≡ suc at.taken = later ∙ ap (λ o. cond (is_some o) at.taken (suc at.taken)) q in
        omega (arith, from, next)
