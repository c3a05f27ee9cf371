use Rattle.hip_lines.specs.Pending.{pending_flushed}
use Rattle.hip_lines.specs.Laws.ItemLaws.{get-read}
use Rattle.hip_lines.proofs.Placed.{changes-set}
use Rattle.hip_lines.proofs.queues.flush_at.Goals as goal

pub returns : goal.returns
returns c = changes-set pending_flushed c.args.queues.now.items c.args.place c.index_mut-queue.result.now c.flush.new.self c.requires (get-read c.args.queues.now.items c.args.place c.index_mut-queue.result.now c.requires c.index_mut-queue.ensures.value) c.flush.ensures.line c.flush.ensures.pending
