use Rattle.std.proofs.Common.{refl}
use Rattle.hip_lines.proofs.Placed.{placed-same, placed-given, gives-queue}
use Rattle.hip_lines.proofs.queues.Queues.add.Goals as goal

pub invariant_of-self-2 : goal.invariant_of-self-2
invariant_of-self-2 c = record { placed = placed-given c.make_room.new.self c.set.new.self c.fresh_place.new.queues.items c.args.line _ c.set.ensures.numbers c.in_ok-place.ensures.ok c.fresh_place.ensures.placed }

pub returns-clause-ok : goal.returns-clause-ok
returns-clause-ok c = gives-queue c.args.self.now _ c.make_room.new.self c.args.line _ c.make_room.ensures.same c.set.ensures.numbers c.in_ok-place.ensures.ok c.fresh_place.ensures.same
