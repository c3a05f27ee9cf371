use Rattle.std.proofs.Common.{sym, subst}
use Rattle.hip_io.specs.Sinks.{Wrote}
use Rattle.hip_trace.specs.Texts.{line_of, text_of}
use Rattle.hip_trace.specs.declared.entry.Entry.{Entry}
use Rattle.hip_trace.proofs.write.write_entry.Goals as goal

pub returns-in-Register : goal.returns-in-Register
unfolding text_of
returns-in-Register g c =
    subst (λ (entry : Entry). Wrote (g.S.Sink.state c.args.out.now) (g.S.Sink.state c.put_numbers.new.out) (line_of entry) c.put_numbers.result)
    (sym c.in-Register.is) c.put_numbers.ensures
