use Rattle.std.proofs.Common.{◌≡◌, ◌<◌, ◌∙◌, ap, arith, subst, sym, List, ℕ, length}
use Rattle.hip_lines.specs.Kept.{pending_by, pending_at, ListsFlushed}
use Rattle.hip_lines.proofs.Listed.{length-listed_more, listed-more}
use Rattle.hip_lines.proofs.KeptSteps.{some-of, first-flush, flushed-some, flushed-already, flushed-differs}
use Rattle.hip_lines.proofs.kept.flush_at.Goals as goal

pub push_reserved-requires : goal.push_reserved-requires
push_reserved-requires c =
    let none = first-flush c.args.queues.now c.args.line c.in-Some.queue.now c.in-Some.ensures (c.none_flushed-is_first.ensures.yes c.if-is_first.true) in
    omega (arith, c.args.flushed.now.ok.0, c.requires.listed.1, length-listed_more c.args.flushed.now.items c.args.queues.now c.args.line c.requires.listed.0 none (some-of c.args.queues.now c.args.line c.in-Some.queue.now c.in-Some.ensures))

pub returns-then-is_first-clause-listed : goal.returns-then-is_first-clause-listed
returns-then-is_first-clause-listed c =
    let none = first-flush c.args.queues.now c.args.line c.in-Some.queue.now c.in-Some.ensures (c.none_flushed-is_first.ensures.yes c.if-is_first.true) in (
      subst (λ (xs : List ℕ). ListsFlushed xs c.flush.new.self) (sym c.push_reserved.ensures.items)
          (listed-more c.args.flushed.now.items c.args.queues.now c.flush.new.self c.args.line c.requires.listed.0 none (flushed-some c.args.queues.now c.flush.new.self c.args.line c.in-Some.queue.now c.in-Some.ensures c.flush.ensures.here (c.none_flushed-is_first.ensures.yes c.if-is_first.true) (c.is_flushed.ensures.no c.if-is_flushed.false)) (λ q ne. ap pending_by (c.flush.ensures.others q ne))),
      c.push_reserved.ensures.capacity,
    )

pub returns-then-is_flushed-clause-changes : goal.returns-then-is_flushed-clause-changes
returns-then-is_flushed-clause-changes c = flushed-already c.args.queues.now c.args.line c.in-Some.queue.now c.in-Some.ensures (c.is_flushed.ensures.yes c.if-is_flushed.true)

pub returns-then-is_first-clause-changed : goal.returns-then-is_first-clause-changed
returns-then-is_first-clause-changed c = λ _. flushed-differs c.args.queues.now c.flush.new.self c.args.line c.in-Some.queue.now c.in-Some.ensures c.flush.ensures (c.is_flushed.ensures.no c.if-is_flushed.false)

pub returns-else-is_first-clause-changed : goal.returns-else-is_first-clause-changed
returns-else-is_first-clause-changed c = λ _. flushed-differs c.args.queues.now c.flush.new.self c.args.line c.in-Some.queue.now c.in-Some.ensures c.flush.ensures (c.is_flushed.ensures.no c.if-is_flushed.false)
