use Rattle.std.proofs.Common.{◌≡◌, ◌∙◌, ◌<◌, ◌≤◌, ◌⊎◌, inl, inr, ℕ, ◌+◌, ◌/◌, ap, subst, arith, length}
use Rattle.hip_lines.specs.Kept.{HasRoomAt}
use Rattle.hip_lines.proofs.Listed.{length-listed}
use Rattle.hip_lines.proofs.kept.make_room_in.Goals as goal

pub make_room_at-requires : goal.make_room_at-requires
make_room_at-requires c = omega (arith, ap length c.loop-line.invariant.2.0, c.loop-line.invariant.1, length-listed c.args.flushed.now.items c.args.queues.now c.requires.listed)

pub returns-in_err-make_room_at-clause-makes : goal.returns-in_err-make_room_at-clause-makes
returns-in_err-make_room_at-clause-makes c = record {
  same = λ j. c.make_room_at.ensures.makes.same j ∙ c.loop-line.invariant.0.same j;
  kept = λ j h. c.make_room_at.ensures.makes.kept j (c.loop-line.invariant.0.kept j h);
  below = λ n h b.
      let lt : c.loop-line.line < n = omega (arith, c.loop-line-test.true, h) in
      c.make_room_at.ensures.makes.below n (omega (arith, lt)) (c.loop-line.invariant.0.below n (omega (arith, lt)) b);
  list = (c.make_room_at.ensures.makes.list.0 ∙ c.loop-line.invariant.2.0, λ h. c.make_room_at.ensures.makes.list.1 (c.loop-line.invariant.2.1 h));
}

pub loop-line-preserved : goal.loop-line-preserved
loop-line-preserved c = (
  record {
    same = λ j. c.make_room_at.ensures.makes.same j ∙ c.loop-line.invariant.0.same j;
    kept = λ j h. c.make_room_at.ensures.makes.kept j (c.loop-line.invariant.0.kept j h);
    room = λ j from to. go j from (split j to);
    below = λ n h b. c.make_room_at.ensures.makes.below n (omega (arith, h)) (c.loop-line.invariant.0.below n (omega (arith, h)) b);
  },
  omega (arith, c.make_room_at.ensures.count, c.loop-line.invariant.1),
  (c.make_room_at.ensures.makes.list.0 ∙ c.loop-line.invariant.2.0, λ h. c.make_room_at.ensures.makes.list.1 (c.loop-line.invariant.2.1 h)),
)
  where
    split : (j : ℕ) → j < c.loop-line.line + 1 → (j < c.loop-line.line) ⊎ (c.loop-line.line ≡ j)
    split j h = grind arith

    go : (j : ℕ) → c.args.offset / 64 ≤ j → (j < c.loop-line.line) ⊎ (c.loop-line.line ≡ j) → HasRoomAt c.make_room_at.new.queues j
    go j from (inl lt) = c.make_room_at.ensures.makes.kept j (c.loop-line.invariant.0.room j from lt)
    go j from (inr e) = subst (HasRoomAt c.make_room_at.new.queues) e c.in_ok-make_room_at.ensures.ok

pub returns-clause-makes : goal.returns-clause-makes
returns-clause-makes c = record {
  same = c.loop-line.invariant.0.same;
  kept = c.loop-line.invariant.0.kept;
  below = λ n h b. c.loop-line.invariant.0.below n (omega (arith, c.loop-line-test.false, c.loop-line.auto.line-end, h, c.requires.range.0)) b;
  list = c.loop-line.invariant.2;
}
