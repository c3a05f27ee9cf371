use Rattle.std.proofs.Common.{ap, slice_get, sym, ◌∙◌}
use Rattle.hip_ledger.proofs.MarksAtHand.{hit_known}
use Rattle.hip_ledger.proofs.marks.meet_global.Goals as goal

pub returns-then-was_hit-clause-hit : goal.returns-then-was_hit-clause-hit
returns-then-was_hit-clause-hit c =
    let flagged = c.was_hit.ensures c.if-was_hit.true in
    sym (hit_known c.args.hit.now.keys c.args.number (c.requires c.args.number (ap (λ fs. slice_get fs c.args.number) (sym c.as_slice.ensures.value) ∙ flagged)))
