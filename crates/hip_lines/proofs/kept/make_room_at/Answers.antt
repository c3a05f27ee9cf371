use Rattle.std.proofs.Common.{refl, sym, arith}
use Rattle.hip_lines.proofs.KeptSteps.{given-same, given-kept, given-room, given-below, changed-same, changed-kept}
use Rattle.hip_lines.proofs.kept.make_room_at.Goals as goal

pub returns-in-Some-clause-makes : goal.returns-in-Some-clause-makes
returns-in-Some-clause-makes c = record {
  same = changed-same c.args.line c.args.queues.now c.make_room.new.self c.make_room.ensures.changes;
  kept = changed-kept c.args.line c.args.queues.now c.make_room.new.self c.make_room.ensures.changes c.make_room.ensures.kept;
  below = λ n _ h. c.make_room.ensures.changes.below n h;
  list = (refl, λ h. omega (arith, c.make_room.ensures.changes.count, h));
}

pub returns-in-None-clause-makes : goal.returns-in-None-clause-makes
returns-in-None-clause-makes c = record {
  same = given-same c.add_queue.result c.args.line c.args.queues.now c.add_queue.new.queues (sym c.in-None.ensures) c.add_queue.ensures.ok c.add_queue.ensures.err;
  kept = given-kept c.add_queue.result c.args.line c.args.queues.now c.add_queue.new.queues c.add_queue.ensures.ok c.add_queue.ensures.err;
  below = λ n end b. given-below c.add_queue.result c.args.line c.args.queues.now c.add_queue.new.queues c.add_queue.ensures.ok c.add_queue.ensures.err n (omega (arith, end)) b;
  list = c.add_queue.ensures.list;
}

pub returns-in-None-clause-ok : goal.returns-in-None-clause-ok
returns-in-None-clause-ok c = given-room c.add_queue.result c.args.line c.args.queues.now c.add_queue.new.queues c.add_queue.ensures.ok
