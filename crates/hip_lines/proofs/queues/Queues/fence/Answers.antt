use Rattle.std.proofs.Common.{◌≡◌, ◌-◌, refl, subst, [], Some, slice_get}
use Rattle.hip_lines.specs.declared.queue.Queue.{Queue}
use Rattle.hip_lines.specs.Pending.{none_pending, pending_fenced}
use Rattle.hip_lines.specs.Queues.{pending_in}
use Rattle.hip_lines.specs.Places.{ChangesPlace}
use Rattle.hip_lines.proofs.Placed.{some-number, placed-changed, placed-gone, changes-line, fenced-away}
use Rattle.hip_lines.proofs.queues.Queues.fence.Goals as goal

pub invariant_of-self : goal.invariant_of-self
invariant_of-self c = record { placed = placed-gone c.args.self.now.directory c.set.new.self c.fence_at.new.queues.items c.args.line c.set.ensures.numbers (placed-changed pending_fenced c.args.self.now.directory c.args.self.now.queues.items c.fence_at.new.queues.items c.args.line c.args.self.now.placed (some-number c.args.self.now.directory c.args.line c.get-place.result c.get-place.ensures.number c.if-place-eq0.false) (subst (λ n. ChangesPlace pending_fenced (n - 1) c.args.self.now.queues.items c.fence_at.new.queues.items) c.get-place.ensures.number c.fence_at.ensures.changes)) }

pub invariant_of-self-else-fence_at : goal.invariant_of-self-else-fence_at
invariant_of-self-else-fence_at c = record { placed = placed-changed pending_fenced c.args.self.now.directory c.args.self.now.queues.items c.fence_at.new.queues.items c.args.line c.args.self.now.placed (some-number c.args.self.now.directory c.args.line c.get-place.result c.get-place.ensures.number c.if-place-eq0.false) (subst (λ n. ChangesPlace pending_fenced (n - 1) c.args.self.now.queues.items c.fence_at.new.queues.items) c.get-place.ensures.number c.fence_at.ensures.changes) }

pub returns-then-fence_at : goal.returns-then-fence_at
returns-then-fence_at c = fenced-away c.args.self.now _ c.fence_at.new.queues.items c.args.line refl (some-number c.args.self.now.directory c.args.line c.get-place.result c.get-place.ensures.number c.if-place-eq0.false) (subst (λ n. ChangesPlace pending_fenced (n - 1) c.args.self.now.queues.items c.fence_at.new.queues.items) c.get-place.ensures.number c.fence_at.ensures.changes) (subst (λ n. (r : Queue) → slice_get c.fence_at.new.queues.items (n - 1) ≡ Some r → pending_in r ≡ none_pending) c.get-place.ensures.number (c.fence_at.ensures.empty c.if-fence_at.true)) c.set.ensures.numbers

pub returns-else-fence_at : goal.returns-else-fence_at
returns-else-fence_at c = changes-line pending_fenced c.args.self.now _ c.args.line refl (some-number c.args.self.now.directory c.args.line c.get-place.result c.get-place.ensures.number c.if-place-eq0.false) (subst (λ n. ChangesPlace pending_fenced (n - 1) c.args.self.now.queues.items c.fence_at.new.queues.items) c.get-place.ensures.number c.fence_at.ensures.changes)
