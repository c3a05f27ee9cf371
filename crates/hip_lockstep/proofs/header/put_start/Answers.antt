use Rattle.std.proofs.Common.{subst}
use Rattle.std.proofs.lemmas.Result.{err_from_is_err_and}
use Rattle.hip_io.specs.Sinks.{Wrote}
use Rattle.hip_trace.specs.Texts.{line_of}
use Rattle.hip_trace.specs.declared.entry.Entry.TheVariants as entries
use Rattle.hip_lockstep.proofs.Headers.{both_wrote, start_part}
use Rattle.hip_lockstep.proofs.header.put_start.Goals as goal

pub returns-in_err-write_entry : goal.returns-in_err-write_entry
returns-in_err-write_entry g c =
    let p = err_from_is_err_and c.from_residual.result c.from_residual.ensures.1 in
    rw p.1 (start_part c.args.input.now c.in_err-write_entry.ensures)

pub returns : goal.returns
returns g c =
    both_wrote (g.S.Sink.state c.write_entry-2.new.out) c.args.input.now c.write_entry-2.result c.in_ok-write_entry.ensures
    (subst (λ n. Wrote (g.S.Sink.state c.write_entry.new.out) (g.S.Sink.state c.write_entry-2.new.out) (line_of (entries.Register c.args.input.now.base n)) c.write_entry-2.result) c.len-size.ensures c.write_entry-2.ensures)
