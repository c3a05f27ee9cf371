use Rattle.std.proofs.Common.{◌+◌, ◌<◌, ◌^◌, length, sym, ap, ◌∙◌, subst}
use Rattle.std.proofs.lemmas.Result.{err_from_is_err_and}
use Rattle.hip_lockstep.proofs.Rooms.{within}
use Rattle.hip_runs.specs.declared.input.Input.{Input}
use Rattle.hip_run_traces.specs.Traces.{header_of}
use Rattle.hip_io.specs.Sinks.{AppendsAll, AppendsPrefix}
use Rattle.hip_trace.specs.Texts.{lines_of}
use Rattle.hip_sound.specs.Sound.{IsSound}
use Rattle.hip_replay.proofs.TraceTexts.{header_failed}
use Rattle.hip_replay.proofs.trace.put_trace.Goals as goal

pub put_header-requires : goal.put_header-requires
put_header-requires g c =
    subst (λ (i : Input). i.base + length i.image < 2 ^ 64) (sym c.input.ensures.is)
    (within c.args.runner.now.program c.args.runner.now.input (subst (λ p. IsSound p) c.checked.ensures c.program-program.ensures.sound) c.input.ensures.valid)

pub put_steps-requires : goal.put_steps-requires
put_steps-requires g c = record {
  valid = c.input.ensures.valid;
  fresh = c.requires;
  counted = c.in_ok-header.ensures.count ∙ ap (λ (i : Input). length (header_of i)) c.input.ensures.is;
}

pub returns-clause-trace : goal.returns-clause-trace
returns-clause-trace g c =
    let start = g.S.Sink.state c.args.out.now in
    c.put_steps.ensures.trace start (subst (λ (i : Input). AppendsAll start (g.S.Sink.state c.put_header.new.out) (lines_of (header_of i))) c.input.ensures.is c.in_ok-header.ensures.wrote)

pub returns-in_err-header-clause-trace : goal.returns-in_err-header-clause-trace
returns-in_err-header-clause-trace g c =
    let start = g.S.Sink.state c.args.out.now in
    let p = err_from_is_err_and c.from_residual.result c.from_residual.ensures.1 in
    rw (p.1, p.2)
    (header_failed c.args.runner.now.program c.args.runner.now.input start (g.S.Sink.state c.put_header.new.out)
    (subst (λ (i : Input). AppendsPrefix start (g.S.Sink.state c.put_header.new.out) (lines_of (header_of i))) c.input.ensures.is c.in_err-header.ensures.wrote))
