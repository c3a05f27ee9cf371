-- A machine that comes to the next event of its run.
use Rattle.std.proofs.Common.{◌≡◌, ◌<◌, true, Some, None, sym, ap, ◌∙◌, subst, arith}
use Rattle.hip_tree.specs.declared.program.Program.{Program}
use Rattle.hip_runner.specs.Quiet.{ComesTo}
use Rattle.hip_lockstep.proofs.Going.{IsGoing, IsStated, fewer, goes_on, here, over_now, steps_ahead}
use Rattle.hip_lockstep.proofs.Quietly.{goes_quietly, same_trace, taken_is}
use Rattle.hip_run_traces.specs.Traces.{trace}
use Rattle.hip_runs.specs.Outputs.{ending_by}
use Rattle.hip_runs.specs.Seen.{Seen, after_step, state_of}
use Rattle.hip_runs.specs.Step.{event, has_ended, run}
use Rattle.hip_runs.specs.declared.event.Ending.{Ending}
use Rattle.hip_runs.specs.declared.event.Event.{Event}
use Rattle.hip_runs.specs.declared.input.Input.{Input}

module _ {P : Program} {I : Input} {old new : Seen} {e : Event} (stated : IsStated P I) (is : IsGoing P I old) (c : ComesTo old new e) where
  -- The machine goes on before the step that has the event.
  pub goes_there : IsGoing P I c.before
  goes_there = goes_quietly is c.quiet.steps c.quiet.is c.quiet.quiet

  -- The trace before that step is the same as at the start.
  pub trace_there : trace P I c.before.taken ≡ trace P I old.taken
  trace_there = same_trace is c.quiet.steps c.quiet.is c.quiet.quiet

  -- The event is that of the run's step there.
  pub event_there : event P I (run P I c.before.taken) ≡ e
  event_there = here stated goes_there e c.is

  pub program_there : new.program ≡ P
  program_there = ap (λ (m : Seen). m.program) c.step ∙ goes_there.program

  pub input_there : new.input ≡ I
  input_there = ap (λ (m : Seen). m.input) c.step ∙ goes_there.input

  -- Where the event is no end, the machine goes on.
  pub comes_on : ending_by e ≡ None → IsGoing P I new
  comes_on goes = subst (λ (m : Seen). IsGoing P I m) (sym c.step) (goes_on stated goes_there e event_there goes)

  -- If the event does not end the run, the machine has fewer steps left.
  pub comes_nearer : ending_by e ≡ None → steps_ahead P I new.taken < steps_ahead P I old.taken
  comes_nearer goes =
      let less : steps_ahead P I (after_step c.before).taken < steps_ahead P I c.before.taken = fewer stated goes_there e event_there goes in
      let next : steps_ahead P I new.taken ≡ steps_ahead P I (after_step c.before).taken = ap (λ (m : Seen). steps_ahead P I m.taken) c.step in
      let taken = taken_is is c.quiet.steps c.quiet.is c.quiet.quiet in
      omega (arith, less, next, taken)

  -- Where it is an end, the machine has ended.
  pub comes_to_end : (ending : Ending) → ending_by e ≡ Some ending → has_ended (state_of new) ≡ true
  comes_to_end ending ends = ap (λ (m : Seen). has_ended (state_of m)) c.step ∙ over_now stated goes_there e ending event_there ends
