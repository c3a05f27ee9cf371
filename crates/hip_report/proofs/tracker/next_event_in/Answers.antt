use Rattle.std.proofs.Common.{◌-◌, ◌^◌, ◌<◌, arith, refl, ap, ◌∙◌, sym}
use Rattle.hip_runner.specs.Quiet.{ComesTo}
use Rattle.hip_runner.proofs.Quietly.{no_steps, steps_then}
use Rattle.hip_runs.specs.Seen.{Seen}
use Rattle.hip_report.specs.StepsToEvent.{StopsShort}
use Rattle.hip_report.proofs.Blank.{event_in_run, has_notes}
use Rattle.hip_report.proofs.Plainly.{goes_one_more, on_err, one_more, same_short}
use Rattle.hip_report.proofs.tracker.next_event_in.Goals as goal

pub steps-init : goal.steps-init
steps-init c = record { quiet = no_steps c.args.machine.now; noted = c.begin.ensures.noted; header = refl; sought = refl }

pub pass_steps-requires : goal.pass_steps-requires
pass_steps-requires c = record {
  noted = c.steps.invariant.noted;
  short = same_short c.args.machine.now c.steps.machine c.steps.invariant.quiet c.begin.ensures.short;
}

pub take_step-requires : goal.take_step-requires
take_step-requires c = record {
  noted = c.pass_steps.ensures.noted;
  short = same_short c.steps.machine c.pass_steps.new.machine c.pass_steps.ensures.passes (same_short c.args.machine.now c.steps.machine c.steps.invariant.quiet c.begin.ensures.short);
}

pub steps-preserved : goal.steps-preserved
steps-preserved c =
    let quiet = steps_then c.args.machine.now c.steps.machine c.pass_steps.new.machine c.steps.invariant.quiet c.pass_steps.ensures.passes in
    let none = c.is_quiet.ensures.0 c.if-not-is_quiet.false in
    record {
      quiet = goes_one_more c.args.machine.now c.pass_steps.new.machine c.take_step.new.machine quiet c.in_ok-event.ensures.ok.step (sym c.in_ok-event.ensures.ok.event ∙ none);
      noted = c.in_ok-event.ensures.noted;
      header = c.in_ok-event.ensures.header ∙ c.pass_steps.ensures.header ∙ c.steps.invariant.header;
      sought = c.in_ok-event.ensures.sought ∙ c.pass_steps.ensures.sought ∙ c.steps.invariant.sought;
    }

pub steps-smaller : goal.steps-smaller
steps-smaller c =
    let none = c.is_quiet.ensures.0 c.if-not-is_quiet.false in
    let passed = ap (λ (m : Seen). m.taken) c.pass_steps.ensures.passes.is in
    let next = ap (λ (m : Seen). m.taken) (one_more c.pass_steps.new.machine c.take_step.new.machine c.in_ok-event.ensures.ok.step (sym c.in_ok-event.ensures.ok.event ∙ none)) in
    let before = c.steps.invariant.noted.steps in
    let after = c.in_ok-event.ensures.noted.steps in
    let few = c.pass_steps.ensures.few in
    let e : 2 ^ 128 - c.take_step.new.ledger.steps < 2 ^ 128 - c.steps.ledger.steps = omega (arith, passed, next, before, after, few) in e

pub returns-then-not-is_quiet : goal.returns-then-not-is_quiet
returns-then-not-is_quiet c =
    let m = c.args.machine.now in
    let there : ComesTo m c.take_step.new.machine c.in_ok-event.event = record {
      before = c.pass_steps.new.machine;
      quiet = steps_then m c.steps.machine c.pass_steps.new.machine c.steps.invariant.quiet c.pass_steps.ensures.passes;
      step = c.in_ok-event.ensures.ok.step;
      is = c.in_ok-event.ensures.ok.event;
      some = λ quiet. let is = c.is_quiet.ensures.1 quiet in let not = c.if-not-is_quiet.true in let z : ⊥ = cc in z;
    } in
    record {
      ok = there;
      noted = has_notes c.begin.new.source m c.take_step.new.machine c.take_step.new.ledger c.begin.ensures.source c.begin.ensures.short (event_in_run m c.take_step.new.machine c.in_ok-event.event there) c.in_ok-event.ensures.noted;
      header = c.in_ok-event.ensures.header ∙ c.pass_steps.ensures.header ∙ c.steps.invariant.header;
      sought = c.in_ok-event.ensures.sought ∙ c.pass_steps.ensures.sought ∙ c.steps.invariant.sought;
      err = tt;
    }

pub returns-in_err-event-clause-err : goal.returns-in_err-event-clause-err
returns-in_err-event-clause-err c =
    let stops : StopsShort c.args.machine.now c.take_step.new.machine = record {
      before = c.pass_steps.new.machine;
      quiet = steps_then c.args.machine.now c.steps.machine c.pass_steps.new.machine c.steps.invariant.quiet c.pass_steps.ensures.passes;
      is = c.in_err-event.ensures.err;
    } in
    on_err c.from_residual.result stops
