use Rattle.std.proofs.Common.{subst}
use Rattle.hip_replay.proofs.TraceTexts.{ran_out, stopped_first}
use Rattle.hip_replay.specs.RecordedTrace.{Records}
use Rattle.hip_replay.proofs.record.record_run.Goals as goal

pub returns-in-Err-clause-records : goal.returns-in-Err-clause-records
returns-in-Err-clause-records g c =
    ran_out (g.S.Sink.state c.out_of_memory.new.out) c.out_of_memory.result (stopped_first c.args.checked.now c.args.input.now (g.S.Sink.state c.args.out.now)) c.out_of_memory.ensures.ends

pub returns-clause-records : goal.returns-clause-records
returns-clause-records g c =
    subst (λ m. Records m.program m.input (g.S.Sink.state c.args.out.now) (g.S.Sink.state c.record_whole.new.out) c.record_whole.result) c.in-Ok.ensures
    c.record_whole.ensures.records
