use Rattle.std.proofs.Common.{arith, refl, sym, ap, ◌∙◌}
use Rattle.hip_lines.specs.Parts.{Held, pending_flushed_all}
use Rattle.hip_lines.specs.Kept.{pending_by}
use Rattle.hip_lines.proofs.Helds.{held-length, held-same_length, lines-same, lines-flushed_all, some-changes}
use Rattle.hip_lines.proofs.lines.Lines.flush_range.Goals as goal

pub flush_in-requires-clause-range : goal.flush_in-requires-clause-range
flush_in-requires-clause-range c = (c.requires.some, omega (arith, c.self.invariant.small, c.requires.within, held-length c.self.inside.count c.self.inside.queues _ (ap (λ (h : Held). h.lines) c.self.view_is)))

pub returns-then-flush_in-clause-lines : goal.returns-then-flush_in-clause-lines
returns-then-flush_in-clause-lines c = lines-flushed_all c.args.offset c.args.len c.self.inside.count c.self.inside.queues c.flush_in.new.queues c.flush_in.ensures.flushes ∙ ap (pending_flushed_all c.args.offset c.args.len) (ap (λ (h : Held). h.lines) c.self.view_is)

pub returns-then-flush_in-clause-length : goal.returns-then-flush_in-clause-length
returns-then-flush_in-clause-length c = held-same_length c.self.inside.count c.self.inside.queues c.flush_in.new.queues _ (ap (λ (h : Held). h.lines) c.self.view_is)

pub returns-then-flush_in-clause-room : goal.returns-then-flush_in-clause-room
returns-then-flush_in-clause-room c = record {
  unchanged = λ e. absurd (some-changes c.self.inside.count c.self.inside.queues c.flush_in.new.queues (c.flush_in.ensures.changed c.if-flush_in.true) c.self.invariant.below (e ∙ sym (ap (λ (h : Held). h.lines) c.self.view_is)));
  changed = λ _. refl;
}

pub returns-else-flush_in-clause-lines : goal.returns-else-flush_in-clause-lines
returns-else-flush_in-clause-lines c = lines-flushed_all c.args.offset c.args.len c.self.inside.count c.self.inside.queues c.flush_in.new.queues c.flush_in.ensures.flushes ∙ ap (pending_flushed_all c.args.offset c.args.len) (ap (λ (h : Held). h.lines) c.self.view_is)

pub returns-else-flush_in-clause-length : goal.returns-else-flush_in-clause-length
returns-else-flush_in-clause-length c = held-same_length c.self.inside.count c.self.inside.queues c.flush_in.new.queues _ (ap (λ (h : Held). h.lines) c.self.view_is)

pub returns-else-flush_in-clause-room : goal.returns-else-flush_in-clause-room
returns-else-flush_in-clause-room c = record {
  unchanged = λ _. ap (λ (h : Held). h.room) c.self.view_is;
  changed = λ ne. absurd (ne (lines-same c.self.inside.count c.self.inside.queues c.flush_in.new.queues (λ j. ap pending_by (c.flush_in.ensures.unchanged c.if-flush_in.false j)) ∙ (ap (λ (h : Held). h.lines) c.self.view_is)));
}

pub invariant_of-self : goal.invariant_of-self
invariant_of-self c = record {
  small = c.self.invariant.small;
  below = c.flush_in.ensures.flushes.below c.self.inside.count c.self.invariant.below;
  flushed = c.flush_in.ensures.listed.0;
  spare = omega (arith, c.flush_in.ensures.flushes.count, c.flush_in.ensures.listed.1, c.self.invariant.spare);
  room = tt;
}
