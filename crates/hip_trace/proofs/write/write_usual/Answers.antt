use Rattle.std.proofs.Common.{sym, subst}
use Rattle.hip_io.specs.Sinks.{Wrote}
use Rattle.hip_trace.specs.Texts.{line_of, text_of}
use Rattle.hip_trace.specs.Usuals.{usual_entry}
use Rattle.hip_trace.specs.declared.usual.Usual.{Usual}
use Rattle.hip_trace.proofs.write.write_usual.Goals as goal

pub returns-in-Fence : goal.returns-in-Fence
unfolding text_of
returns-in-Fence g c =
    subst (λ (usual : Usual). Wrote (g.S.Sink.state c.args.out.now) (g.S.Sink.state c.put_line.new.out) (line_of (usual_entry usual)) c.put_line.result)
    (sym c.in-Fence.is) c.put_line.ensures
