use Rattle.std.proofs.Common.{◌<◌, ◌/◌, arith, refl, sym, ap, ◌∙◌}
use Rattle.hip_lines.specs.Parts.{Held, pending_flushed_all}
use Rattle.hip_lines.specs.Kept.{pending_by}
use Rattle.hip_lines.proofs.Helds.{held-same_length, held-length, lines-same, lines-flushed, lines-at}
use Rattle.hip_lines.proofs.lines.Lines.flush.Goals as goal

pub returns-then-flush_at-clause-lines : goal.returns-then-flush_at-clause-lines
returns-then-flush_at-clause-lines c = lines-flushed c.args.offset c.self.inside.count c.self.inside.queues c.flush_at.new.queues c.flush_at.ensures.changes ∙ ap (pending_flushed_all c.args.offset 1) (ap (λ (h : Held). h.lines) c.self.view_is)

pub returns-then-flush_at-clause-room : goal.returns-then-flush_at-clause-room
returns-then-flush_at-clause-room c = record {
  unchanged = λ e.
      let lt : c.args.offset / 64 < c.self.inside.count = omega (arith, c.requires, held-length c.self.inside.count c.self.inside.queues _ (ap (λ (h : Held). h.lines) c.self.view_is)) in
      absurd (c.flush_at.ensures.changed c.if-flush_at.true (lines-at c.self.inside.count (c.args.offset / 64) c.self.inside.queues c.flush_at.new.queues lt (e ∙ sym (ap (λ (h : Held). h.lines) c.self.view_is))));
  changed = λ _. refl;
}

pub returns-else-flush_at-clause-lines : goal.returns-else-flush_at-clause-lines
returns-else-flush_at-clause-lines c = lines-flushed c.args.offset c.self.inside.count c.self.inside.queues c.flush_at.new.queues c.flush_at.ensures.changes ∙ ap (pending_flushed_all c.args.offset 1) (ap (λ (h : Held). h.lines) c.self.view_is)

pub returns-else-flush_at-clause-room : goal.returns-else-flush_at-clause-room
returns-else-flush_at-clause-room c = record {
  unchanged = λ _. ap (λ (h : Held). h.room) c.self.view_is;
  changed = λ ne. absurd (ne (lines-same c.self.inside.count c.self.inside.queues c.flush_at.new.queues (λ j. ap pending_by (c.flush_at.ensures.unchanged c.if-flush_at.false j)) ∙ ap (λ (h : Held). h.lines) c.self.view_is));
}

pub returns-then-flush_at-clause-length : goal.returns-then-flush_at-clause-length
returns-then-flush_at-clause-length c = held-same_length c.self.inside.count c.self.inside.queues c.flush_at.new.queues _ (ap (λ (h : Held). h.lines) c.self.view_is)

pub returns-else-flush_at-clause-length : goal.returns-else-flush_at-clause-length
returns-else-flush_at-clause-length c = held-same_length c.self.inside.count c.self.inside.queues c.flush_at.new.queues _ (ap (λ (h : Held). h.lines) c.self.view_is)
