use Rattle.std.proofs.Common.{inr, suc, ◌^◌, ◌<◌, [], ◌∷◌, ◌++◌, Ok, refl, sym, ap, ◌∙◌, subst, arith}
use Rattle.std.proofs.lemmas.Result.{err_from_is_err_and}
use Rattle.hip_lockstep.specs.Laws.Openings.{stopped_after}
use Rattle.hip_lockstep.specs.InStep.{FollowsStep, IsInStep}
use Rattle.hip_run_traces.specs.Traces.{trace}
use Rattle.hip_runs.specs.Ends.{longest}
use Rattle.hip_sound.specs.Sound.{IsSound}
use Rattle.hip_lockstep.proofs.Going.{IsGoing, IsStated, stated_by}
use Rattle.hip_report.proofs.Noted.{noted_now}
use Rattle.hip_lockstep.proofs.Rooms.{room}
use Rattle.hip_replay.proofs.FollowedQuietly.{event_there, in_step_there, input_there, nearer, over_there, program_there, taken_there}
use Rattle.hip_replay.proofs.compared.follow.Goals as goal

pub steps-init : goal.steps-init
steps-init g c = record { program = refl; input = refl; current = c.requires.current; so_far = λ start h. h; noted = c.requires.noted; header = refl; sought = refl }

pub next_event-requires : goal.next_event-requires
next_event-requires g c = inr c.steps.invariant.noted

pub returns-in_err-event-clause-steps : goal.returns-in_err-event-clause-steps
returns-in_err-event-clause-steps g c = λ start h.
    let p = err_from_is_err_and c.from_residual.result c.from_residual.ensures.1 in
    rw (p.1, p.2)
    (stopped_after start c.steps.reader (g.C.Cabinet.state c.steps.cabinet) (trace c.args.machine.now.program c.args.machine.now.input c.steps.machine.taken ++ c.steps.lockstep.next ∷ []) (c.steps.invariant.so_far start h).read)

pub meet-requires-clause-room : goal.meet-requires-clause-room
meet-requires-clause-room g c =
    let short : longest c.args.machine.now.program < 2 ^ 64 = subst (λ p. longest p < 2 ^ 64) (c.program-program.ensures.is ∙ c.checked.ensures) (subst (λ n. n < 2 ^ 64) c.longest-most.ensures (let fits = c.longest-most.type_inv in omega (arith, fits))) in
    room c.args.machine.now.program c.args.machine.now.input (subst (λ p. IsSound p) c.checked.ensures c.program-program.ensures.sound) (c.steps.invariant.so_far c.requires.begun.0 c.requires.begun.1).valid short (c.runs_are_bounded.ensures.bounded c.args.machine.now.program c.args.machine.now.input) c.steps.machine.taken c.steps.lockstep.entries (c.steps.invariant.so_far c.requires.begun.0 c.requires.begun.1).counted

pub steps-smaller : goal.steps-smaller
steps-smaller g c =
    let stated : IsStated c.args.machine.now.program c.args.machine.now.input = stated_by c.args.machine.now.program c.args.machine.now.input c.events_tell_output_and_ending.ensures.output c.events_tell_output_and_ending.ensures.ending c.runs_end.ensures c.runs_are_bounded.ensures.bounded in
    let is : IsGoing c.args.machine.now.program c.args.machine.now.input c.steps.machine = record { program = c.steps.invariant.program; input = c.steps.invariant.input; going = (c.steps.invariant.so_far c.requires.begun.0 c.requires.begun.1).going } in
    let to = c.in_ok-event.ensures.machine in
    let next = subst (λ o. FollowsStep c.args.machine.now.program c.args.machine.now.input c.requires.begun.0 to.before.taken c.meet.new.reader (g.C.Cabinet.state c.meet.new.cabinet) c.meet.new.self (Ok o)) c.in-None.is
    (c.in_ok-meet.ensures.meets c.args.machine.now.program c.args.machine.now.input c.requires.begun.0 to.before.taken (in_step_there stated is to c.requires.begun.0 c.steps.reader (g.C.Cabinet.state c.steps.cabinet) c.steps.lockstep (c.steps.invariant.so_far c.requires.begun.0 c.requires.begun.1)) (event_there stated is to)) in
    nearer stated is to next.going

pub steps-preserved : goal.steps-preserved
steps-preserved g c =
    let stated : IsStated c.args.machine.now.program c.args.machine.now.input = stated_by c.args.machine.now.program c.args.machine.now.input c.events_tell_output_and_ending.ensures.output c.events_tell_output_and_ending.ensures.ending c.runs_end.ensures c.runs_are_bounded.ensures.bounded in
    let is : IsGoing c.args.machine.now.program c.args.machine.now.input c.steps.machine = record { program = c.steps.invariant.program; input = c.steps.invariant.input; going = (c.steps.invariant.so_far c.requires.begun.0 c.requires.begun.1).going } in
    let to = c.in_ok-event.ensures.machine in
    record {
      program = program_there stated is to;
      input = input_there stated is to;
      current = c.in_ok-meet.ensures.current;
      so_far = λ start h.
          let next = subst (λ o. FollowsStep c.args.machine.now.program c.args.machine.now.input start to.before.taken c.meet.new.reader (g.C.Cabinet.state c.meet.new.cabinet) c.meet.new.self (Ok o)) c.in-None.is
          (c.in_ok-meet.ensures.meets c.args.machine.now.program c.args.machine.now.input start to.before.taken (in_step_there stated is to start c.steps.reader (g.C.Cabinet.state c.steps.cabinet) c.steps.lockstep (c.steps.invariant.so_far start h)) (event_there stated is to)) in
          subst (λ n. IsInStep c.args.machine.now.program c.args.machine.now.input start n c.meet.new.reader (g.C.Cabinet.state c.meet.new.cabinet) c.meet.new.self) (sym (taken_there stated is to)) next;
      noted = noted_now c.next_event.new.self c.next_event.new.machine c.steps.tracker.header c.steps.tracker.sought c.in_ok-event.ensures.noted;
      header = ap (λ t. t.header) c.in_ok-event.ensures.noted ∙ c.steps.invariant.header;
      sought = ap (λ t. t.sought) c.in_ok-event.ensures.noted ∙ c.steps.invariant.sought;
    }

pub returns-in-Some-clause-steps : goal.returns-in-Some-clause-steps
returns-in-Some-clause-steps g c =
    let stated : IsStated c.args.machine.now.program c.args.machine.now.input = stated_by c.args.machine.now.program c.args.machine.now.input c.events_tell_output_and_ending.ensures.output c.events_tell_output_and_ending.ensures.ending c.runs_end.ensures c.runs_are_bounded.ensures.bounded in
    let is : IsGoing c.args.machine.now.program c.args.machine.now.input c.steps.machine = record { program = c.steps.invariant.program; input = c.steps.invariant.input; going = (c.steps.invariant.so_far c.requires.begun.0 c.requires.begun.1).going } in
    let to = c.in_ok-event.ensures.machine in
    λ start h. (
      suc to.before.taken,
      subst (λ o. FollowsStep c.args.machine.now.program c.args.machine.now.input start to.before.taken c.meet.new.reader (g.C.Cabinet.state c.meet.new.cabinet) c.meet.new.self (Ok o)) c.in-Some.is
          (c.in_ok-meet.ensures.meets c.args.machine.now.program c.args.machine.now.input start to.before.taken (in_step_there stated is to start c.steps.reader (g.C.Cabinet.state c.steps.cabinet) c.steps.lockstep (c.steps.invariant.so_far start h)) (event_there stated is to)),
    )

pub returns-in_err-meet-clause-steps : goal.returns-in_err-meet-clause-steps
returns-in_err-meet-clause-steps g c =
    let stated : IsStated c.args.machine.now.program c.args.machine.now.input = stated_by c.args.machine.now.program c.args.machine.now.input c.events_tell_output_and_ending.ensures.output c.events_tell_output_and_ending.ensures.ending c.runs_end.ensures c.runs_are_bounded.ensures.bounded in
    let is : IsGoing c.args.machine.now.program c.args.machine.now.input c.steps.machine = record { program = c.steps.invariant.program; input = c.steps.invariant.input; going = (c.steps.invariant.so_far c.requires.begun.0 c.requires.begun.1).going } in
    let to = c.in_ok-event.ensures.machine in
    λ start h.
    let p = err_from_is_err_and c.from_residual-in_err-meet.result c.from_residual-in_err-meet.ensures.1 in
    rw (p.1, p.2)
    (c.in_err-meet.ensures.meets c.args.machine.now.program c.args.machine.now.input start to.before.taken (in_step_there stated is to start c.steps.reader (g.C.Cabinet.state c.steps.cabinet) c.steps.lockstep (c.steps.invariant.so_far start h)) (event_there stated is to))

pub returns-in-Some-clause-over : goal.returns-in-Some-clause-over
returns-in-Some-clause-over g c =
    let stated : IsStated c.args.machine.now.program c.args.machine.now.input = stated_by c.args.machine.now.program c.args.machine.now.input c.events_tell_output_and_ending.ensures.output c.events_tell_output_and_ending.ensures.ending c.runs_end.ensures c.runs_are_bounded.ensures.bounded in
    let is : IsGoing c.args.machine.now.program c.args.machine.now.input c.steps.machine = record { program = c.steps.invariant.program; input = c.steps.invariant.input; going = (c.steps.invariant.so_far c.requires.begun.0 c.requires.begun.1).going } in
    let to = c.in_ok-event.ensures.machine in
    let over = subst (λ o. FollowsStep c.args.machine.now.program c.args.machine.now.input c.requires.begun.0 to.before.taken c.meet.new.reader (g.C.Cabinet.state c.meet.new.cabinet) c.meet.new.self (Ok o)) c.in-Some.is
    (c.in_ok-meet.ensures.meets c.args.machine.now.program c.args.machine.now.input c.requires.begun.0 to.before.taken (in_step_there stated is to c.requires.begun.0 c.steps.reader (g.C.Cabinet.state c.steps.cabinet) c.steps.lockstep (c.steps.invariant.so_far c.requires.begun.0 c.requires.begun.1)) (event_there stated is to)) in
    record {
      program = program_there stated is to;
      input = input_there stated is to;
      ended = over_there stated is to c.in-Some.ending over.ended;
      noted = noted_now c.next_event.new.self c.next_event.new.machine c.steps.tracker.header c.steps.tracker.sought c.in_ok-event.ensures.noted;
      header = ap (λ t. t.header) c.in_ok-event.ensures.noted ∙ c.steps.invariant.header;
      sought = ap (λ t. t.sought) c.in_ok-event.ensures.noted ∙ c.steps.invariant.sought;
    }
