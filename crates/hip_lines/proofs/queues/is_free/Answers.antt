use Rattle.std.proofs.Common.{◌+◌, ◌∙◌, arith}
use Rattle.hip_lines.specs.Laws.ItemLaws.{get-read}
use Rattle.hip_lines.proofs.Placed.{unused-checked, not-equal}
use Rattle.hip_lines.proofs.queues.is_free.Goals as goal

pub returns-in-Some-clause-free : goal.returns-in-Some-clause-free
returns-in-Some-clause-free c = λ t.
    unused-checked c.args.directory.now c.args.queues.now c.args.place c.in-Some.queue.now c.requires (get-read c.args.queues.now c.args.place c.in-Some.queue.now c.in-Some.ensures.lookup.3.0 c.in-Some.ensures.lookup.1)
    (λ e. not-equal c.get-in-Some.result (c.args.place + 1) t (c.get-in-Some.ensures.number ∙ e))
