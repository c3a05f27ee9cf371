use Rattle.std.proofs.Common.{◌%◌}
use Rattle.hip_lines.proofs.Shows.{loose-none, loose-some}
use Rattle.hip_lines.proofs.queue.Queue.loose_byte.Goals as goal

pub returns-then-number-eq0 : goal.returns-then-number-eq0
returns-then-number-eq0 c =
    let q = c.args.self.now in
    loose-none q.tags.items q.flushed _ c.args.offset q.history.pending (q.shows.bytes c.args.offset c.requires) c.if-number-eq0.true

pub returns : goal.returns
returns c =
    let q = c.args.self.now in
    loose-some q.tags.items q.flushed _ c.args.offset _ q.history.pending (q.shows.bytes c.args.offset c.requires) c.if-number-eq0.false (q.numbered (c.args.offset % 64)) c.index-tag.ensures
