use Rattle.std.proofs.Common.{sym, ◌∙◌, subst}
use Rattle.std.proofs.lemmas.Result.{err_from_is_err_and}
use Rattle.hip_lockstep.proofs.Going.{stated_by}
use Rattle.hip_replay.proofs.Outputs.{IsPrinting, fails_next, prints_last, prints_next, started, stopped}
use Rattle.hip_replay.proofs.Silently.{prints_nearer}
use Rattle.hip_replay.proofs.print.print_steps.Goals as goal

pub steps-init : goal.steps-init
steps-init g c = subst (λ n. IsPrinting c.args.runner.now.program c.args.runner.now.input (record { program = c.args.runner.now.program; input = c.args.runner.now.input; taken = n }) (g.S.Sink.state c.args.out.now) (g.S.Sink.state c.args.out.now)) (sym c.requires)
    (started c.args.runner.now.program c.args.runner.now.input (g.S.Sink.state c.args.out.now))

pub returns-in_err-event : goal.returns-in_err-event
returns-in_err-event g c =
    let stated = stated_by c.args.runner.now.program c.args.runner.now.input c.events_tell_output_and_ending.ensures.output c.events_tell_output_and_ending.ensures.ending c.runs_end.ensures c.runs_are_bounded.ensures.bounded in
    let p = err_from_is_err_and c.from_residual.result c.from_residual.ensures.1 in
    rw (p.1, p.2) (stopped stated c.steps.invariant)

pub steps-smaller : goal.steps-smaller
steps-smaller g c =
    let stated = stated_by c.args.runner.now.program c.args.runner.now.input c.events_tell_output_and_ending.ensures.output c.events_tell_output_and_ending.ensures.ending c.runs_end.ensures c.runs_are_bounded.ensures.bounded in
    prints_nearer stated c.steps.invariant.on c.in_ok-event.ensures.ok (sym c.ending_of.ensures ∙ c.in-None.is)

pub steps-preserved : goal.steps-preserved
steps-preserved g c =
    let stated = stated_by c.args.runner.now.program c.args.runner.now.input c.events_tell_output_and_ending.ensures.output c.events_tell_output_and_ending.ensures.ending c.runs_end.ensures c.runs_are_bounded.ensures.bounded in
    prints_next stated c.steps.invariant c.in_ok-event.ensures.ok (g.S.Sink.state c.put_event.new.out) (sym c.ending_of.ensures ∙ c.in-None.is) c.in-Done.ensures

pub returns-in-Failed : goal.returns-in-Failed
returns-in-Failed g c =
    let stated = stated_by c.args.runner.now.program c.args.runner.now.input c.events_tell_output_and_ending.ensures.output c.events_tell_output_and_ending.ensures.ending c.runs_end.ensures c.runs_are_bounded.ensures.bounded in
    fails_next stated c.steps.invariant c.in_ok-event.ensures.ok (g.S.Sink.state c.put_event.new.out) c.in-Failed.ensures

pub returns-in-Some : goal.returns-in-Some
returns-in-Some g c =
    let stated = stated_by c.args.runner.now.program c.args.runner.now.input c.events_tell_output_and_ending.ensures.output c.events_tell_output_and_ending.ensures.ending c.runs_end.ensures c.runs_are_bounded.ensures.bounded in
    prints_last stated c.steps.invariant c.in_ok-event.ensures.ok c.in-Some.ending (sym c.ending_of.ensures ∙ c.in-Some.is)
