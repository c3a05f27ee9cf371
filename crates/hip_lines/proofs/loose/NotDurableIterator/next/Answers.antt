use Rattle.std.proofs.Common.{◌+◌, Bor, sym, ◌∙◌, subst, Option}
use Rattle.std.specs.Option.{option_copied}
use Rattle.hip_lines.specs.declared.queue.Queue.{Queue}
use Rattle.hip_lines.specs.Next.{IsQueueFrom, IsNextQueue, lines_to}
use Rattle.hip_lines.proofs.LooseRest.{Searches, rest-found, rest-none, next_queue-from, rest-end, rest-no_queue, goes_on}
use Rattle.hip_lines.proofs.loose.NotDurableIterator.next.Goals as goal

pub returns-in-Some-first_loose-clause-steps : goal.returns-in-Some-first_loose-clause-steps
returns-in-Some-first_loose-clause-steps c =
    let i = c.loop-self.self-inside in
    let h = subst (λ (o : Option (Bor Queue)). IsNextQueue i.queues.now i.at (lines_to i.end) (option_copied o)) c.in-Some.is c.loop-self.invariant.0.queue in
    sym c.self.view_is ∙ sym c.loop-self.invariant.1 ∙ rest-found i.queues.now i.at i.end c.max.result c.min-stop.result c.in-Some.queue.now c.in-Some-first_loose.byte (record { from_is = c.max.ensures; stop_is = c.min-stop.ensures }) h c.in-Some-first_loose.ensures

pub returns-in-Some-first_loose-clause-goes : goal.returns-in-Some-first_loose-clause-goes
returns-in-Some-first_loose-clause-goes c =
    let i = c.loop-self.self-inside in
    let h = subst (λ (o : Option (Bor Queue)). IsNextQueue i.queues.now i.at (lines_to i.end) (option_copied o)) c.in-Some.is c.loop-self.invariant.0.queue in
    goes_on _ _ c.in-Some-first_loose.byte (sym c.self.view_is ∙ sym c.loop-self.invariant.1 ∙ rest-found i.queues.now i.at i.end c.max.result c.min-stop.result c.in-Some.queue.now c.in-Some-first_loose.byte (record { from_is = c.max.ensures; stop_is = c.min-stop.ensures }) h c.in-Some-first_loose.ensures)

pub returns-then-stop-self-clause-steps : goal.returns-then-stop-self-clause-steps
returns-then-stop-self-clause-steps c =
    let i = c.loop-self.self-inside in
    let h = subst (λ (o : Option (Bor Queue)). IsNextQueue i.queues.now i.at (lines_to i.end) (option_copied o)) c.in-Some.is c.loop-self.invariant.0.queue in
    let e = rest-end i.queues.now i.at i.end c.max.result c.min-stop.result c.in-Some.queue.now (record { from_is = c.max.ensures; stop_is = c.min-stop.ensures }) h c.in-None.ensures c.if-stop-self.true in
    (sym c.self.view_is ∙ sym c.loop-self.invariant.1 ∙ e, e)

pub loop-self-preserved : goal.loop-self-preserved
loop-self-preserved c =
    let i = c.loop-self.self-inside in
    let h = subst (λ (o : Option (Bor Queue)). IsNextQueue i.queues.now i.at (lines_to i.end) (option_copied o)) c.in-Some.is c.loop-self.invariant.0.queue in
    let s : Searches i.at i.end c.max.result c.min-stop.result c.in-Some.queue.now = record { from_is = c.max.ensures; stop_is = c.min-stop.ensures } in (
      record {
        end = c.loop-self.invariant.0.end;
        queue = next_queue-from i.queues.now i.at i.end c.max.result c.min-stop.result c.in-Some.queue.now (option_copied c.first_from-self-inside.result) s (subst (λ n. IsQueueFrom i.queues.now (c.in-Some.queue.now.line + 1) n (option_copied c.first_from-self-inside.result)) c.lines_to-to.ensures c.first_from-self-inside.ensures) c.if-stop-self.false;
      },
      sym (rest-none i.queues.now i.at i.end c.max.result c.min-stop.result c.in-Some.queue.now s h c.in-None.ensures c.if-stop-self.false) ∙ c.loop-self.invariant.1,
    )

pub returns-clause-steps : goal.returns-clause-steps
returns-clause-steps c =
    let i = c.loop-self.self-inside in
    let e = rest-no_queue i.queues.now i.at i.end i.queue c.loop-self.invariant.0.queue c.in_default.not-Some in
    (sym c.self.view_is ∙ sym c.loop-self.invariant.1 ∙ e, e)
