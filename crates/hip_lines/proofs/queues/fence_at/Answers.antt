use Rattle.std.proofs.Common.{ap, sym, ◌∙◌}
use Rattle.hip_lines.specs.Pending.{pending_fenced}
use Rattle.hip_lines.specs.Laws.ItemLaws.{get-read}
use Rattle.hip_lines.proofs.Placed.{changes-set, set-here, nothing-left}
use Rattle.hip_lines.proofs.queues.fence_at.Goals as goal

pub returns-clause-changes : goal.returns-clause-changes
returns-clause-changes c = changes-set pending_fenced c.args.queues.now.items c.args.place c.index_mut-queue.result.now c.fence.new.self c.requires (get-read c.args.queues.now.items c.args.place c.index_mut-queue.result.now c.requires c.index_mut-queue.ensures.value) c.fence.ensures.line c.fence.ensures.pending

pub returns-clause-empty : goal.returns-clause-empty
returns-clause-empty c = λ e r h. nothing-left c.fence.new.self r c.is_empty.result (set-here c.args.queues.now.items c.args.place c.fence.new.self r c.requires h) c.is_empty.ensures e
