use Rattle.std.proofs.Common.{◌-◌, refl, subst}
use Rattle.hip_lines.specs.Places.{ChangesPlace}
use Rattle.hip_lines.proofs.Placed.{some-place, placed-changed, changes-line, room-changed, room-made}
use Rattle.hip_lines.proofs.queues.Queues.make_room.Goals as goal

pub invariant_of-self : goal.invariant_of-self
invariant_of-self c = record { placed = placed-changed (λ w. w) c.args.self.now.directory c.args.self.now.queues.items c.make_room_at.new.queues.items c.args.line c.args.self.now.placed (some-place c.args.self.now c.args.line c.requires) (subst (λ n. ChangesPlace (λ w. w) (n - 1) c.args.self.now.queues.items c.make_room_at.new.queues.items) c.get.ensures.number c.make_room_at.ensures.changes) }

pub returns-clause-changes : goal.returns-clause-changes
returns-clause-changes c = changes-line (λ w. w) c.args.self.now _ c.args.line refl (some-place c.args.self.now c.args.line c.requires) (subst (λ n. ChangesPlace (λ w. w) (n - 1) c.args.self.now.queues.items c.make_room_at.new.queues.items) c.get.ensures.number c.make_room_at.ensures.changes)

pub returns-clause-kept : goal.returns-clause-kept
returns-clause-kept c = room-changed c.args.self.now _ c.args.line refl (some-place c.args.self.now c.args.line c.requires) c.get.result c.get.ensures.number c.make_room_at.ensures.changes c.make_room_at.ensures.kept

pub returns-clause-ok : goal.returns-clause-ok
returns-clause-ok c = room-made c.make_room_at.result c.args.self.now _ c.args.line refl (some-place c.args.self.now c.args.line c.requires) c.get.result c.get.ensures.number c.make_room_at.ensures.changes c.make_room_at.ensures.ok
