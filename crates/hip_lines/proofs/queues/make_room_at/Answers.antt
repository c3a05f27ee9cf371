use Rattle.std.proofs.Common.{subst, sym}
use Rattle.hip_lines.specs.Queues.{QueueHasRoom}
use Rattle.hip_lines.specs.Laws.ItemLaws.{get-read, on_ok_map}
use Rattle.hip_lines.proofs.Placed.{changes-set, set-here, item-is}
use Rattle.hip_lines.proofs.queues.make_room_at.Goals as goal

pub returns-clause-changes : goal.returns-clause-changes
returns-clause-changes c = changes-set (λ w. w) c.args.queues.now.items c.args.place c.index_mut-queue.result.now c.make_room.new.self c.requires (get-read c.args.queues.now.items c.args.place c.index_mut-queue.result.now c.requires c.index_mut-queue.ensures.value) c.make_room.ensures.line c.make_room.ensures.pending

pub returns-clause-kept : goal.returns-clause-kept
returns-clause-kept c = λ q r f h k. subst QueueHasRoom (set-here c.args.queues.now.items c.args.place c.make_room.new.self r c.requires h) (c.make_room.ensures.kept (subst QueueHasRoom (item-is c.args.queues.now.items c.args.place q c.index_mut-queue.result.now f (get-read c.args.queues.now.items c.args.place c.index_mut-queue.result.now c.requires c.index_mut-queue.ensures.value)) k))

pub returns-clause-ok : goal.returns-clause-ok
returns-clause-ok c = on_ok_map c.make_room.result (λ k r h. subst QueueHasRoom (set-here c.args.queues.now.items c.args.place c.make_room.new.self r c.requires h) k) c.make_room.ensures.ok
