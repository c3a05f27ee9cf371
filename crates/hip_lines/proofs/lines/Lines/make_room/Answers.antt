use Rattle.std.proofs.Common.{arith, ap, ◌∙◌}
use Rattle.hip_lines.specs.Parts.{Held}
use Rattle.hip_lines.proofs.Helds.{held-length, lines-same, listed-same}
use Rattle.hip_lines.proofs.lines.Lines.make_room.Goals as goal

pub make_room_in-requires-clause-range : goal.make_room_in-requires-clause-range
make_room_in-requires-clause-range c = (c.requires.0, omega (arith, c.self.invariant.small, c.requires.2, held-length c.self.inside.count c.self.inside.queues _ (ap (λ (h : Held). h.lines) c.self.view_is)))

pub invariant_of-self : goal.invariant_of-self
invariant_of-self c = record {
  small = c.self.invariant.small;
  below = c.make_room_in.ensures.makes.below c.self.inside.count (omega (arith, c.requires.2, held-length c.self.inside.count c.self.inside.queues _ (ap (λ (h : Held). h.lines) c.self.view_is))) c.self.invariant.below;
  flushed = listed-same _ _ c.self.inside.queues c.make_room_in.new.queues c.make_room_in.ensures.makes.list.0 c.make_room_in.ensures.makes.same c.self.invariant.flushed;
  spare = c.make_room_in.ensures.makes.list.1 c.self.invariant.spare;
  room = tt;
}

pub returns-in_err-make_room_in-clause-lines : goal.returns-in_err-make_room_in-clause-lines
returns-in_err-make_room_in-clause-lines c = lines-same c.self.inside.count c.self.inside.queues c.make_room_in.new.queues c.make_room_in.ensures.makes.same ∙ ap (λ (h : Held). h.lines) c.self.view_is

pub invariant_of-self-2 : goal.invariant_of-self-2
invariant_of-self-2 c = record {
  small = c.self.invariant.small;
  below = c.make_room_in.ensures.makes.below c.self.inside.count (omega (arith, c.requires.2, held-length c.self.inside.count c.self.inside.queues _ (ap (λ (h : Held). h.lines) c.self.view_is))) c.self.invariant.below;
  flushed = listed-same _ _ c.self.inside.queues c.make_room_in.new.queues c.make_room_in.ensures.makes.list.0 c.make_room_in.ensures.makes.same c.self.invariant.flushed;
  spare = c.make_room_in.ensures.makes.list.1 c.self.invariant.spare;
  room = c.in_ok-make_room_in.ensures.ok;
}

pub returns-clause-lines : goal.returns-clause-lines
returns-clause-lines c = lines-same c.self.inside.count c.self.inside.queues c.make_room_in.new.queues c.make_room_in.ensures.makes.same ∙ ap (λ (h : Held). h.lines) c.self.view_is
