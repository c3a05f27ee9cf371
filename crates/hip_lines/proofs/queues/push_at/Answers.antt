use Rattle.hip_lines.specs.Pending.{pending_with}
use Rattle.hip_lines.specs.Laws.ItemLaws.{get-read}
use Rattle.hip_lines.proofs.Placed.{changes-set}
use Rattle.hip_lines.proofs.queues.push_at.Goals as goal

pub returns : goal.returns
returns c = changes-set (pending_with c.args.part) c.args.queues.now.items c.args.place c.index_mut-queue.result.now c.push.new.self c.requires.within (get-read c.args.queues.now.items c.args.place c.index_mut-queue.result.now c.requires.within c.index_mut-queue.ensures.value) c.push.ensures.line c.push.ensures.pending
