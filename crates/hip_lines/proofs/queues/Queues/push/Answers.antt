use Rattle.std.proofs.Common.{◌-◌, refl, subst}
use Rattle.hip_lines.specs.Places.{ChangesPlace}
use Rattle.hip_lines.specs.Pending.{pending_with}
use Rattle.hip_lines.proofs.Placed.{room-place, placed-changed, changes-line}
use Rattle.hip_lines.proofs.queues.Queues.push.Goals as goal

pub invariant_of-self : goal.invariant_of-self
invariant_of-self c = record { placed = placed-changed (pending_with c.args.part) c.args.self.now.directory c.args.self.now.queues.items c.push_at.new.queues.items c.args.line c.args.self.now.placed (room-place c.args.self.now c.args.line c.requires.room) (subst (λ n. ChangesPlace (pending_with c.args.part) (n - 1) c.args.self.now.queues.items c.push_at.new.queues.items) c.get.ensures.number c.push_at.ensures) }

pub returns : goal.returns
returns c = changes-line (pending_with c.args.part) c.args.self.now _ c.args.line refl (room-place c.args.self.now c.args.line c.requires.room) (subst (λ n. ChangesPlace (pending_with c.args.part) (n - 1) c.args.self.now.queues.items c.push_at.new.queues.items) c.get.ensures.number c.push_at.ensures)
