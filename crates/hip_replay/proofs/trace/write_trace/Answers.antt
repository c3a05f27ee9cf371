use Rattle.std.proofs.Common.{subst}
use Rattle.hip_replay.proofs.TraceTexts.{ran_out, stopped_first}
use Rattle.hip_replay.specs.RecordedTrace.{PutsTrace}
use Rattle.hip_replay.proofs.trace.write_trace.Goals as goal

pub returns-in-Err-clause-trace : goal.returns-in-Err-clause-trace
returns-in-Err-clause-trace g c =
    ran_out (g.S.Sink.state c.out_of_memory.new.out) c.out_of_memory.result (stopped_first c.args.checked.now c.args.input.now (g.S.Sink.state c.args.out.now)) c.out_of_memory.ensures.ends

pub returns-clause-trace : goal.returns-clause-trace
returns-clause-trace g c =
    subst (λ m. PutsTrace m.program m.input (g.S.Sink.state c.args.out.now) (g.S.Sink.state c.put_trace.new.out) c.put_trace.result) c.in-Ok.ensures
    c.put_trace.ensures.trace
