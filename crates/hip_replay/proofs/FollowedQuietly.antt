-- A trace that is in step with a run stays so up to the next event.
use Rattle.std.proofs.Common.{◌≡◌, suc, ◌+◌, ◌<◌, true, [], ◌∷◌, ◌++◌, length, None, Some, sym, ap, ◌∙◌, subst, arith}
use Rattle.hip_io.specs.Cabinets.{CabinetState}
use Rattle.hip_tree.specs.declared.program.Program.{Program}
use Rattle.hip_runner.specs.Quiet.{ComesTo}
use Rattle.hip_lockstep.proofs.Going.{IsGoing, IsStated, fewer_if, here, over_if, steps_ahead, taken_next}
use Rattle.hip_lockstep.proofs.Quietly.{goes_quietly, same_trace, taken_is}
use Rattle.hip_lockstep.specs.InStep.{IsInStep}
use Rattle.hip_lockstep.specs.ReadEntries.{HasReadEntries}
use Rattle.hip_lockstep.specs.declared.steps.Lockstep.{Lockstep}
use Rattle.hip_run_traces.specs.Traces.{trace}
use Rattle.hip_runs.specs.Seen.{Seen, after_step, state_of}
use Rattle.hip_runs.specs.Step.{event, has_ended, run}
use Rattle.hip_runs.specs.declared.event.Ending.{Ending}
use Rattle.hip_runs.specs.declared.event.Event.{Event}
use Rattle.hip_runs.specs.declared.input.Input.{Input}
use Rattle.hip_trace.specs.Reads.{ReaderState}

-- A machine comes to its next event.
module _ {P : Program} {I : Input} {old new : Seen} {e : Event} (stated : IsStated P I) (is : IsGoing P I old) (c : ComesTo old new e) where
  before : IsGoing P I c.before
  before = goes_quietly is c.quiet.steps c.quiet.is c.quiet.quiet

  trace_there : trace P I c.before.taken ≡ trace P I old.taken
  trace_there = same_trace is c.quiet.steps c.quiet.is c.quiet.quiet

  -- The event is that of the run's step there.
  pub event_there : event P I (run P I c.before.taken) ≡ e
  event_there = here stated before e c.is

  pub in_step_there : (start : CabinetState) (r : ReaderState) (s : CabinetState) (at : Lockstep) → IsInStep P I start old.taken r s at → IsInStep P I start c.before.taken r s at
  in_step_there start r s at h = record {
    valid = h.valid;
    going = before.going;
    read = subst (λ es. HasReadEntries start r s (es ++ at.next ∷ [])) (sym trace_there) h.read;
    counted = h.counted ∙ ap (λ es. length es) (sym trace_there);
    header = h.header;
  }

  pub taken_there : new.taken ≡ suc c.before.taken
  taken_there = ap (λ (m : Seen). m.taken) c.step ∙ taken_next stated before

  pub program_there : new.program ≡ P
  program_there = ap (λ (m : Seen). m.program) c.step ∙ before.program

  pub input_there : new.input ≡ I
  input_there = ap (λ (m : Seen). m.input) c.step ∙ before.input

  -- Where the run goes on, fewer steps are left.
  pub nearer : (run P I (suc c.before.taken)).world.ending ≡ None → steps_ahead P I new.taken < steps_ahead P I old.taken
  nearer going =
      let less = fewer_if stated before going in
      let next : steps_ahead P I new.taken ≡ steps_ahead P I (after_step c.before).taken = ap (λ (m : Seen). steps_ahead P I m.taken) c.step in
      let taken = taken_is is c.quiet.steps c.quiet.is c.quiet.quiet in
      omega (arith, less, next, taken)

  -- Where it has ended there, the machine has ended.
  pub over_there : (ending : Ending) → (run P I (suc c.before.taken)).world.ending ≡ Some ending → has_ended (state_of new) ≡ true
  over_there ending ends = ap (λ (m : Seen). has_ended (state_of m)) c.step ∙ over_if stated before ending ends
