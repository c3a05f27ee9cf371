use Rattle.std.proofs.Common.{◌≡◌, ◌∙◌, sym, ap, refl, cond, true}
use Rattle.hip_lines.proofs.Flushes.{one_more}
use Rattle.hip_lines.proofs.kept.flush_in.Goals as goal
use Rattle.hip_lines.proofs.kept.flush_in.Goals.{then-flush_at, else-flush_at}

pub loop-queue-preserved : goal.loop-queue-preserved
loop-queue-preserved c =
    let e : c.if-flush_at.changed ≡ cond c.flush_at.result true c.loop-queue.changed =
    elim c.if-flush_at.branch [ then-flush_at w ↦ w.changed-is ∙ sym (ap (λ b. cond b true c.loop-queue.changed) w.if-flush_at.true) | else-flush_at w ↦ w.changed-is ∙ sym (ap (λ b. cond b true c.loop-queue.changed) w.if-flush_at.false) ]
    in
    (one_more c.args.offset c.args.len c.loop-queue.next c.in-Some.queue.now.line c.loop-queue.changed c.args.queues.now c.loop-queue.queues c.flush_at.new.queues c.in-Some.queue.now refl c.requires.range.0 c.loop-queue.invariant.0 c.in-Some.ensures c.flush_at.ensures.changes c.flush_at.result c.flush_at.ensures.changed c.flush_at.ensures.unchanged c.if-flush_at.changed e, (c.flush_at.ensures.listed.0, c.flush_at.ensures.listed.1 ∙ c.loop-queue.invariant.1.1))
