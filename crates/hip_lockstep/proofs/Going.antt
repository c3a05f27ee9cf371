-- A machine that goes on with the run of a program on an input.
use Rattle.std.proofs.Common.{◌≡◌, ℕ, zero, suc, ◌+◌, ◌-◌, ◌*◌, ◌<◌, true, cond, ◌++◌, Option, Some, None, is_some, refl, sym, ap, ◌∙◌, subst, arith}
use Rattle.hip_tree.specs.declared.program.Program.{Program}
use Rattle.hip_runs.specs.Ends.{Ends, longest}
use Rattle.hip_runs.specs.Laws.StepLaws.{counted-steps}
use Rattle.hip_runs.specs.Outputs.{ending_by, printed_by}
use Rattle.hip_runs.specs.State.{State}
use Rattle.hip_runs.specs.Step.{event, has_ended, on_ending, run, step}
use Rattle.hip_runs.specs.declared.event.Ending.{Ending}
use Rattle.hip_runs.specs.declared.event.Event.{Event}
use Rattle.hip_runs.specs.declared.input.Input.{Input}
use Rattle.hip_invariants.specs.Bounds.{IsBounded}
use Rattle.hip_runs.specs.Seen.{Seen, after_step, state_of}

-- A machine whose run of the program on the input has not ended.
pub record IsGoing (P : Program) (I : Input) (m : Seen) : Type 0 where
  pub program : m.program ≡ P
  pub input : m.input ≡ I
  pub going : (run P I m.taken).world.ending ≡ None

-- How many steps are left at most.
abbrev pub steps_ahead : Program → Input → ℕ → ℕ
steps_ahead P I n = suc I.limit * suc (longest P) - n

stays : (P : Program) (I : Input) (s : State) (e : Ending) → s.world.ending ≡ Some e → step P I s ≡ s
unfolding step on_ending
stays P I s e h = ap (λ o. on_ending P I s o) h

step_of : (P : Program) (I : Input) (n : ℕ) → run P I (suc n) ≡ step P I (run P I n)
unfolding run
step_of P I n = refl

pub ended_stays : (P : Program) (I : Input) (k : ℕ) (e : Ending) → (run P I k).world.ending ≡ Some e → (n : ℕ) → run P I (k + n) ≡ run P I k
ended_stays P I k e ends zero = ap (λ m. run P I m) (let e : k + 0 ≡ k = omega arith in e)
ended_stays P I k e ends (suc n) =
    ap (λ m. run P I m) (let e : k + suc n ≡ suc (k + n) = omega arith in e)
    ∙ step_of P I (k + n) ∙ ap (λ s. step P I s) (ended_stays P I k e ends n) ∙ stays P I (run P I k) e ends

pub none_ends : (o : Option Ending) → o ≡ None → is_some o ≡ true → ⊥
none_ends None q e = cc
none_ends (Some x) q e = cc

-- What the laws of runs say.
pub record IsStated (P : Program) (I : Input) : Type 0 where
  pub output : (n : ℕ) → (run P I (suc n)).world.output ≡ (run P I n).world.output ++ printed_by (event P I (run P I n))
  pub ending : (n : ℕ) → (run P I (suc n)).world.ending ≡ ending_by (event P I (run P I n))
  pub ends : Ends P I
  pub bounded : (n : ℕ) → IsBounded P I n

pub stated_by : (P : Program) (I : Input) →
    ((P : Program) (I : Input) (n : ℕ) → (run P I (suc n)).world.output ≡ (run P I n).world.output ++ printed_by (event P I (run P I n))) →
    ((P : Program) (I : Input) (n : ℕ) → (run P I (suc n)).world.ending ≡ ending_by (event P I (run P I n))) →
    ((P : Program) (I : Input) → Ends P I) → ((P : Program) (I : Input) (n : ℕ) → IsBounded P I n) → IsStated P I
stated_by P I output ending ends bounded = record { output = output P I; ending = ending P I; ends = ends P I; bounded = bounded P I }

module _ {P : Program} {I : Input} {m : Seen} (stated : IsStated P I) (is : IsGoing P I m) where
  -- The event of the machine's next step is that of the run's step.
  pub here : (e : Event) → e ≡ event m.program m.input (state_of m) → event P I (run P I m.taken) ≡ e
  here e stated_of = ap (λ (p : Program). event p I (run p I m.taken)) (sym is.program) ∙ ap (λ (i : Input). event m.program i (run m.program i m.taken)) (sym is.input) ∙ sym stated_of

  pub ending_next : (e : Event) → event P I (run P I m.taken) ≡ e → (run P I (suc m.taken)).world.ending ≡ ending_by e
  ending_next e at = stated.ending m.taken ∙ ap ending_by at

  going_on : after_step m ≡ record { program = m.program; input = m.input; taken = suc m.taken }
  going_on =
      ap (λ o. record { program = m.program; input = m.input; taken = cond (is_some o) m.taken (suc m.taken) })
      (ap (λ (p : Program). (run p m.input m.taken).world.ending) is.program ∙ ap (λ (i : Input). (run P i m.taken).world.ending) is.input ∙ is.going)

  -- The machine has taken one more step.
  pub taken_next : (after_step m).taken ≡ suc m.taken
  taken_next = ap (λ (x : Seen). x.taken) going_on

  pub goes_on : (e : Event) → event P I (run P I m.taken) ≡ e → ending_by e ≡ None → IsGoing P I (after_step m)
  goes_on e at goes = subst (λ next. IsGoing P I next) (sym going_on) (record { program = is.program; input = is.input; going = ending_next e at ∙ goes })

  pub fewer : (e : Event) → event P I (run P I m.taken) ≡ e → ending_by e ≡ None → steps_ahead P I (after_step m).taken < steps_ahead P I m.taken
  fewer e at goes =
      let counted = counted-steps P I (suc m.taken) (ending_next e at ∙ goes) in
      let within = (stated.bounded (suc m.taken)).steps in
      subst (λ next. steps_ahead P I next.taken < steps_ahead P I m.taken) (sym going_on) (omega (arith, counted, within))

  -- If the event ends the run, the machine has ended after the step.
  pub over_now : (e : Event) (ending : Ending) → event P I (run P I m.taken) ≡ e → ending_by e ≡ Some ending → has_ended (state_of (after_step m)) ≡ true
  over_now e ending at ends =
      ap (λ (p : Program). has_ended (run p m.input (after_step m).taken)) is.program
      ∙ ap (λ (i : Input). has_ended (run P i (after_step m).taken)) is.input
      ∙ ap (λ n. has_ended (run P I n)) taken_next ∙ ap (λ (o : Option Ending). is_some o) (ending_next e at ∙ ends)

  pub over_if : (ending : Ending) → (run P I (suc m.taken)).world.ending ≡ Some ending → has_ended (state_of (after_step m)) ≡ true
  over_if ending ends =
      ap (λ (p : Program). has_ended (run p m.input (after_step m).taken)) is.program
      ∙ ap (λ (i : Input). has_ended (run P i (after_step m).taken)) is.input
      ∙ ap (λ n. has_ended (run P I n)) taken_next ∙ ap (λ (o : Option Ending). is_some o) ends

  pub fewer_if : (run P I (suc m.taken)).world.ending ≡ None → steps_ahead P I (after_step m).taken < steps_ahead P I m.taken
  fewer_if goes =
      let counted = counted-steps P I (suc m.taken) goes in
      let within = (stated.bounded (suc m.taken)).steps in
      subst (λ next. steps_ahead P I next.taken < steps_ahead P I m.taken) (sym going_on) (omega (arith, counted, within))

starts_going : (P : Program) (I : Input) → (run P I 0).world.ending ≡ None
unfolding run
starts_going P I = refl

-- Before the first step a machine goes on.
pub starts : (P : Program) (I : Input) → IsGoing P I (record { program = P; input = I; taken = 0 })
starts P I = record { program = refl; input = refl; going = starts_going P I }
