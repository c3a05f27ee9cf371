use Rattle.std.proofs.Common.{◌∙◌}
use Rattle.hip_lines.proofs.Shows.{shows-flushed}
use Rattle.hip_lines.proofs.queue.Queue.flush.Goals as goal

pub invariant_of-self-clause-shows : goal.invariant_of-self-clause-shows
invariant_of-self-clause-shows c =
    let q = c.args.self.now in
    shows-flushed q.tags.items q.flushed q.numbers q.line q.history.pending q.numbered q.within q.shows c.len-count.result _ (c.len-count.ensures ∙ q.tags.ok.0) c.then-history.ensures
