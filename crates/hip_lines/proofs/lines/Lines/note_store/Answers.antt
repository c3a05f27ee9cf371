use Rattle.std.proofs.Common.{arith, ap, ◌∙◌}
use Rattle.hip_lines.specs.Parts.{Held, pending_stored}
use Rattle.hip_lines.proofs.Helds.{held-same_length, held-length, lines-same, lines-stored, listed-same, listed-stored, room-kept, on_err}
use Rattle.hip_lines.proofs.lines.Lines.note_store.Goals as goal

pub ensure_room-requires-clause-range : goal.ensure_room-requires-clause-range
ensure_room-requires-clause-range c = (c.requires.0, omega (arith, c.self.invariant.small, c.requires.2, held-length c.self.inside.count c.self.inside.queues _ (ap (λ (h : Held). h.lines) c.self.view_is)))

pub invariant_of-self : goal.invariant_of-self
invariant_of-self c = record {
  small = c.self.invariant.small;
  below = c.ensure_room.ensures.makes.below c.self.inside.count (omega (arith, c.requires.2, held-length c.self.inside.count c.self.inside.queues _ (ap (λ (h : Held). h.lines) c.self.view_is))) c.self.invariant.below;
  flushed = listed-same _ _ c.self.inside.queues c.ensure_room.new.queues c.ensure_room.ensures.makes.list.0 c.ensure_room.ensures.makes.same c.self.invariant.flushed;
  spare = c.ensure_room.ensures.makes.list.1 c.self.invariant.spare;
  room = room-kept c.self.inside.queues c.ensure_room.new.queues _ c.ensure_room.ensures.makes.kept c.self.invariant.room;
}

pub returns-in_err-ensure_room-clause-err : goal.returns-in_err-ensure_room-clause-err
returns-in_err-ensure_room-clause-err c = on_err c.from_residual.result (ap (λ ls. record { lines = ls; room = c.self.inside.room }) (lines-same c.self.inside.count c.self.inside.queues c.ensure_room.new.queues c.ensure_room.ensures.makes.same) ∙ c.self.view_is)

pub push_in-requires-clause-fits : goal.push_in-requires-clause-fits
push_in-requires-clause-fits c = omega (arith, c.self.invariant.small, c.requires.2, held-length c.self.inside.count c.self.inside.queues _ (ap (λ (h : Held). h.lines) c.self.view_is))

pub invariant_of-self-2 : goal.invariant_of-self-2
invariant_of-self-2 c = record {
  small = c.self.invariant.small;
  below = c.push_in.ensures.below c.self.inside.count (c.ensure_room.ensures.makes.below c.self.inside.count (omega (arith, c.requires.2, held-length c.self.inside.count c.self.inside.queues _ (ap (λ (h : Held). h.lines) c.self.view_is))) c.self.invariant.below);
  flushed = listed-stored c.args.offset c.args.size c.args.tag _ c.ensure_room.new.queues c.push_in.new.queues c.push_in.ensures.pending (listed-same _ _ c.self.inside.queues c.ensure_room.new.queues c.ensure_room.ensures.makes.list.0 c.ensure_room.ensures.makes.same c.self.invariant.flushed);
  spare = let s = c.ensure_room.ensures.makes.list.1 c.self.invariant.spare in omega (arith, c.push_in.ensures.count, s);
  room = tt;
}

pub returns-clause-ok : goal.returns-clause-ok
returns-clause-ok c =
    lines-stored c.args.offset c.args.size c.args.tag c.self.inside.count c.ensure_room.new.queues c.push_in.new.queues c.push_in.ensures.pending
    ∙ ap (pending_stored c.args.offset c.args.size c.args.tag) (lines-same c.self.inside.count c.self.inside.queues c.ensure_room.new.queues c.ensure_room.ensures.makes.same ∙ ap (λ (h : Held). h.lines) c.self.view_is)

pub returns-in_err-ensure_room-clause-length : goal.returns-in_err-ensure_room-clause-length
returns-in_err-ensure_room-clause-length c = held-same_length c.self.inside.count c.self.inside.queues c.ensure_room.new.queues _ (ap (λ (h : Held). h.lines) c.self.view_is)

pub returns-clause-length : goal.returns-clause-length
returns-clause-length c = held-same_length c.self.inside.count c.self.inside.queues c.push_in.new.queues _ (ap (λ (h : Held). h.lines) c.self.view_is)
