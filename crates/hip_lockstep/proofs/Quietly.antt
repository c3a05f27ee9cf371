-- Over steps without an event a machine goes on, and its trace stays as it is.
use Rattle.std.proofs.Common.{◌≡◌, ℕ, zero, suc, ◌+◌, ◌<◌, Bool, true, false, List, [], ◌++◌, None, append-nil, refl, ap, ◌∙◌, subst, arith}
use Rattle.std.specs.Prelude.{if◌then◌else◌}
use Rattle.hip_tree.specs.declared.program.Program.{Program}
use Rattle.hip_lockstep.proofs.Going.{IsGoing}
use Rattle.hip_lockstep.specs.Laws.RunSteps.{ending_after}
use Rattle.hip_run_traces.specs.Laws.TraceLaws.{next-trace}
use Rattle.hip_run_traces.specs.Traces.{entry_list, entry_of_event, trace}
use Rattle.hip_runs.specs.Seen.{Seen}
use Rattle.hip_runs.specs.Step.{event, has_ended, run}
use Rattle.hip_runs.specs.declared.event.Event.TheVariants as events
use Rattle.hip_runs.specs.declared.input.Input.{Input}
use Rattle.hip_trace.specs.declared.entry.Entry.{Entry}

none_either : (b : Bool) → ◌≡◌ {A = List Entry} (if b then [] else []) []
none_either true = refl
none_either false = refl

module _ (P : Program) (I : Input) where
  -- A step without an event has no entry.
  quiet_entry : (n : ℕ) → event P I (run P I n) ≡ events.Quiet → trace P I (suc n) ≡ trace P I n
  quiet_entry n q =
      next-trace P I n
      ∙ ap (λ e. trace P I n ++ (if has_ended (run P I n) then [] else entry_list (entry_of_event e))) q
      ∙ ap (λ es. trace P I n ++ es) (none_either (has_ended (run P I n)))
      ∙ append-nil (trace P I n)

  quiet_entries : (start k : ℕ) → ((n : ℕ) → n < k → event P I (run P I (start + n)) ≡ events.Quiet)
      → trace P I (start + k) ≡ trace P I start
  quiet_entries start zero quiet = ap (trace P I) (let e : start + 0 ≡ start = omega arith in e)
  quiet_entries start (suc k) quiet =
      ap (trace P I) (let e : start + suc k ≡ suc (start + k) = omega arith in e)
      ∙ quiet_entry (start + k) (quiet k (omega arith))
      ∙ quiet_entries start k (λ n lt. quiet n (omega (arith, lt)))

  still_going : (start k : ℕ) → (run P I start).world.ending ≡ None
      → ((n : ℕ) → n < k → event P I (run P I (start + n)) ≡ events.Quiet)
      → (run P I (start + k)).world.ending ≡ None
  still_going start zero going quiet =
      ap (λ n. (run P I n).world.ending) (let e : start + 0 ≡ start = omega arith in e) ∙ going
  still_going start (suc k) going quiet =
      ap (λ n. (run P I n).world.ending) (let e : start + suc k ≡ suc (start + k) = omega arith in e)
      ∙ ending_after P I (start + k) events.Quiet (quiet k (omega arith))

-- A machine takes some steps without an event.
module _ {P : Program} {I : Input} {old new : Seen} (is : IsGoing P I old) (steps : ℕ) (on : new ≡ record old { taken = old.taken + steps })
    (quiet : (n : ℕ) → n < steps → event old.program old.input (run old.program old.input (old.taken + n)) ≡ events.Quiet) where
  pub taken_is : new.taken ≡ old.taken + steps
  taken_is = ap (λ (m : Seen). m.taken) on

  quiet_at : (n : ℕ) → n < steps → event P I (run P I (old.taken + n)) ≡ events.Quiet
  quiet_at n lt =
      subst (λ (i : Input). event P i (run P i (old.taken + n)) ≡ events.Quiet) is.input
      (subst (λ (p : Program). event p old.input (run p old.input (old.taken + n)) ≡ events.Quiet) is.program
      (quiet n lt))

  pub goes_quietly : IsGoing P I new
  goes_quietly = record {
    program = ap (λ (m : Seen). m.program) on ∙ is.program;
    input = ap (λ (m : Seen). m.input) on ∙ is.input;
    going = ap (λ n. (run P I n).world.ending) taken_is ∙ still_going P I old.taken steps is.going quiet_at;
  }

  pub same_trace : trace P I new.taken ≡ trace P I old.taken
  same_trace = ap (trace P I) taken_is ∙ quiet_entries P I old.taken steps quiet_at
