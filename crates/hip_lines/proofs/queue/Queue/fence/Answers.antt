use Rattle.hip_lines.proofs.Shows.{numbers-lowered, shows-fenced}
use Rattle.hip_lines.proofs.queue.Queue.fence.Goals as goal

pub invariant_of-self-clause-numbered : goal.invariant_of-self-clause-numbered
invariant_of-self-clause-numbered c =
    let q = c.args.self.now in
    numbers-lowered q.tags.items _ q.numbers _ q.flushed c.let_go.ensures.tags c.let_go.ensures.numbers q.numbered

pub invariant_of-self-clause-shows : goal.invariant_of-self-clause-shows
invariant_of-self-clause-shows c =
    let q = c.args.self.now in
    shows-fenced q.tags.items q.flushed q.numbers q.line q.history.pending q.numbered q.within q.shows _ _ _ c.let_go.ensures.tags c.let_go.ensures.numbers c.then-history.ensures
