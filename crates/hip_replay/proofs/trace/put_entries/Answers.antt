use Rattle.std.proofs.Common.{◌^◌, ◌<◌, refl, sym, ap, ◌∙◌, subst, arith}
use Rattle.std.proofs.lemmas.Result.{err_from_is_err_and}
use Rattle.hip_runs.specs.Ends.{longest}
use Rattle.hip_runs.specs.Step.{run}
use Rattle.hip_sound.specs.Sound.{IsSound}
use Rattle.hip_lockstep.proofs.Going.{starts, stated_by}
use Rattle.hip_replay.proofs.Quietly.{comes_nearer, comes_on}
use Rattle.hip_replay.proofs.TraceTexts.{count_at, count_fits_next, counted_next, failed_next, header_at, recorded_last, stopped, written_next}
use Rattle.hip_replay.proofs.trace.put_entries.Goals as goal

pub steps-init : goal.steps-init
steps-init g c = record {
  on = record { program = refl; input = refl; going = ap (λ n. (run c.args.runner.now.program c.args.runner.now.input n).world.ending) c.requires.fresh ∙ (starts c.args.runner.now.program c.args.runner.now.input).going };
  counted = count_at c.args.runner.now.program c.args.runner.now.input c.args.runner.now.taken c.args.entries c.requires.fresh c.requires.counted;
  so_far = λ start h. header_at c.args.runner.now.program c.args.runner.now.input start (g.S.Sink.state c.args.out.now) c.args.runner.now.taken c.requires.fresh h;
}

pub returns-in_err-event : goal.returns-in_err-event
returns-in_err-event g c = λ start h.
    let stated = stated_by c.args.runner.now.program c.args.runner.now.input c.events_tell_output_and_ending.ensures.output c.events_tell_output_and_ending.ensures.ending c.runs_end.ensures c.runs_are_bounded.ensures.bounded in
    let p = err_from_is_err_and c.from_residual.result c.from_residual.ensures.1 in
    rw (p.1, p.2) (stopped stated (record { on = c.steps.invariant.on; written = c.steps.invariant.so_far start h }))

pub overflow_add-entries : goal.overflow_add-entries
overflow_add-entries g c =
    let stated = stated_by c.args.runner.now.program c.args.runner.now.input c.events_tell_output_and_ending.ensures.output c.events_tell_output_and_ending.ensures.ending c.runs_end.ensures c.runs_are_bounded.ensures.bounded in
    let short : longest c.args.runner.now.program < 2 ^ 64 = subst (λ p. longest p < 2 ^ 64) (c.program-program.ensures.is ∙ c.checked.ensures) (subst (λ n. n < 2 ^ 64) c.longest-most.ensures (let fits = c.longest-most.type_inv in omega (arith, fits))) in
    let few = count_fits_next stated c.steps.invariant.on c.in_ok-event.ensures.ok c.steps.entries c.in_ok-entries.field-0 c.steps.invariant.counted c.in_ok-entries.ensures.count
    (c.runs_are_bounded.ensures.fit c.args.runner.now.program c.args.runner.now.input (subst (λ p. IsSound p) c.checked.ensures c.program-program.ensures.sound) c.requires.valid short) in
    omega (arith, few)

pub returns-in_err-entries : goal.returns-in_err-entries
returns-in_err-entries g c = λ start h.
    let stated = stated_by c.args.runner.now.program c.args.runner.now.input c.events_tell_output_and_ending.ensures.output c.events_tell_output_and_ending.ensures.ending c.runs_end.ensures c.runs_are_bounded.ensures.bounded in
    let p = err_from_is_err_and c.from_residual-in_err-entries.result c.from_residual-in_err-entries.ensures.1 in
    rw (p.1, p.2)
    (failed_next stated (record { on = c.steps.invariant.on; written = c.steps.invariant.so_far start h }) c.in_ok-event.ensures.ok (g.S.Sink.state c.put_entry.new.out) c.in_err-entries.ensures.wrote)

pub returns-in-Some : goal.returns-in-Some
returns-in-Some g c = λ start h.
    let stated = stated_by c.args.runner.now.program c.args.runner.now.input c.events_tell_output_and_ending.ensures.output c.events_tell_output_and_ending.ensures.ending c.runs_end.ensures c.runs_are_bounded.ensures.bounded in
    recorded_last stated (record { on = c.steps.invariant.on; written = c.steps.invariant.so_far start h }) c.in_ok-event.ensures.ok (g.S.Sink.state c.put_entry.new.out) c.in-Some.ending c.steps.entries c.in_ok-entries.field-0
    (sym c.ending_of.ensures ∙ c.in-Some.is) c.in_ok-entries.ensures.wrote c.steps.invariant.counted c.in_ok-entries.ensures.count

pub steps-smaller : goal.steps-smaller
steps-smaller g c =
    let stated = stated_by c.args.runner.now.program c.args.runner.now.input c.events_tell_output_and_ending.ensures.output c.events_tell_output_and_ending.ensures.ending c.runs_end.ensures c.runs_are_bounded.ensures.bounded in
    comes_nearer stated c.steps.invariant.on c.in_ok-event.ensures.ok (sym c.ending_of.ensures ∙ c.in-None.is)

pub steps-preserved : goal.steps-preserved
steps-preserved g c =
    let stated = stated_by c.args.runner.now.program c.args.runner.now.input c.events_tell_output_and_ending.ensures.output c.events_tell_output_and_ending.ensures.ending c.runs_end.ensures c.runs_are_bounded.ensures.bounded in
    let goes = sym c.ending_of.ensures ∙ c.in-None.is in
    record {
      on = comes_on stated c.steps.invariant.on c.in_ok-event.ensures.ok goes;
      counted = counted_next stated c.steps.invariant.on c.in_ok-event.ensures.ok c.steps.entries c.in_ok-entries.field-0 c.steps.invariant.counted c.in_ok-entries.ensures.count;
      so_far = λ start h. (written_next stated (record { on = c.steps.invariant.on; written = c.steps.invariant.so_far start h }) c.in_ok-event.ensures.ok (g.S.Sink.state c.put_entry.new.out) goes c.in_ok-entries.ensures.wrote).written;
    }
