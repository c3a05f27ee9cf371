use Rattle.std.proofs.Common.{◌-◌, refl, subst}
use Rattle.hip_lines.specs.Places.{ChangesPlace}
use Rattle.hip_lines.specs.Pending.{pending_flushed}
use Rattle.hip_lines.proofs.Placed.{some-place, placed-changed, changes-line}
use Rattle.hip_lines.proofs.queues.Queues.flush.Goals as goal

pub invariant_of-self : goal.invariant_of-self
invariant_of-self c = record { placed = placed-changed pending_flushed c.args.self.now.directory c.args.self.now.queues.items c.flush_at.new.queues.items c.args.line c.args.self.now.placed (some-place c.args.self.now c.args.line c.requires) (subst (λ n. ChangesPlace pending_flushed (n - 1) c.args.self.now.queues.items c.flush_at.new.queues.items) c.get.ensures.number c.flush_at.ensures) }

pub returns : goal.returns
returns c = changes-line pending_flushed c.args.self.now _ c.args.line refl (some-place c.args.self.now c.args.line c.requires) (subst (λ n. ChangesPlace pending_flushed (n - 1) c.args.self.now.queues.items c.flush_at.new.queues.items) c.get.ensures.number c.flush_at.ensures)
