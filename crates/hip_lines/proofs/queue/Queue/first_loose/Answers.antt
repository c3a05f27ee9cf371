use Rattle.std.proofs.Common.{◌≡◌, arith, ap, sym, ◌∙◌}
use Rattle.hip_lines.specs.Parts.{loose_in}
use Rattle.hip_lines.specs.Queues.{pending_in}
use Rattle.hip_lines.proofs.LooseRest.{loose_in-offset}
use Rattle.hip_lines.proofs.queue.Queue.first_loose.Goals as goal

pub returns-in-Some : goal.returns-in-Some
returns-in-Some c =
    let e : c.in-Some.found.offset ≡ c.loop-offset.offset = loose_in-offset (pending_in c.args.self.now) c.loop-offset.offset c.in-Some.found (sym c.in-Some.ensures) in
    (omega (arith, e, c.loop-offset.auto.offset), omega (arith, e, c.loop-offset-test.true), ap (loose_in (pending_in c.args.self.now)) e ∙ sym c.in-Some.ensures, λ b from to. c.loop-offset.invariant b from (omega (arith, e, to)))
