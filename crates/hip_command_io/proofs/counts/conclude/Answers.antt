use Rattle.std.proofs.Common.{sym, subst}
use Rattle.std.specs.Prelude.{Result}
use Rattle.hip_answers.specs.declared.status.Status.{Status}
use Rattle.hip_command_io.specs.Results.{WritesResult}
use Rattle.hip_command_io.specs.declared.counts.Counts.{Counts}
use Rattle.hip_command_io.proofs.counts.conclude.Goals as goal

pub returns-in-Ok : goal.returns-in-Ok
returns-in-Ok g c =
    subst (λ (r : Result Counts Status). WritesResult r (g.N.Sink.state c.args.notes.now) (g.N.Sink.state c.finish.new.notes)
    c.finish.result) (sym c.in-Ok.is) (record {
      tried = c.put_counts-tried.result;
      mid = g.N.Sink.state c.put_counts-tried.new.notes;
      text = c.put_counts-tried.ensures;
      ends = rw c.status.ensures at c.finish.ensures;
    })

pub returns-in-Err : goal.returns-in-Err
returns-in-Err g c =
    subst (λ (r : Result Counts Status). WritesResult r (g.N.Sink.state c.args.notes.now) (g.N.Sink.state c.refuse.new.notes)
    c.refuse.result) (sym c.in-Err.is) (record { is = c.refuse.ensures.status; line = c.refuse.ensures.line })
